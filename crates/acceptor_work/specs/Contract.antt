-- What the acceptor's work is on one block, and its answer where there is no block: the rules' work, as an answer and as every byte of the block.
-- Assumes nothing.
use Rattle.std.specs.Prelude.{◌≡◌, Bool, cond, List, ℕ}
use Rattle.messages.specs.declared.Address.{Address}
use Rattle.messages.specs.declared.answer.Answer.{Answer}
use Rattle.messages.specs.declared.answer.Refusal.{Refusal}
use Rattle.messages.specs.Limits.{value_most}
use Rattle.messages.specs.Answers.{one, answer_of}
use Rattle.storage_block.specs.Block.{image}
use Rattle.acceptor_rules.specs.Rules.{Work}

-- the acceptor's answer area holds a value
abbrev pub answer_bytes : ℕ
answer_bytes = value_most

-- a work done on one block, which holds the key or is free
pub record Worked (w : Work) (from : Address) (b : List ℕ) (r : Answer) (b' : List ℕ) : Type 0 where
  pub answer : r ≡ answer_of (one from w.answer)
  pub block : b' ≡ cond w.stores (image w.next) b

-- the answer where no block holds the key and none is free
abbrev pub full_answer : Work → Bool → Address → Answer
full_answer w fits from =
    cond fits (cond w.stores (Answer.Refused Refusal.NoRoom) (answer_of (one from w.answer))) (Answer.Refused Refusal.OverLimit)
