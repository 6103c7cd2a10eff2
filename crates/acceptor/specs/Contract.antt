-- The acceptor's contract: the rules on the blocks of a lent table, and every byte of the table and of the answer area after them.
-- Assumes nothing.
use Rattle.std.specs.Prelude.{◌≡◌, not, cond, ◌&&◌, List, [], ◌∷◌, ℕ, eqb, length}
use Rattle.messages.specs.declared.Address.{Address}
use Rattle.messages.specs.declared.answer.Answer.{Answer}
use Rattle.messages.specs.declared.answer.Refusal.{Refusal}
use Rattle.messages.specs.Message.{Message}
use Rattle.messages.specs.Refusals.{Test, test, first_due}
use Rattle.messages.specs.Answers.{one, said, answer_of, written_in}
use Rattle.storage_block.specs.Block.{image}
use Rattle.storage_search.specs.Table.{is_sized, with_block, slots}
use Rattle.acceptor_rules.specs.Rules.{Work, Store, keep, put, Outcome, unless, receive}
use Rattle.acceptor_work.specs.Contract.{answer_bytes}

-- refusal 1, before those of the table
abbrev pub size_test : List ℕ → ℕ → List ℕ → List Test
size_test t n a = test (not (is_sized t n && eqb (length a) answer_bytes)) Refusal.AreaSize ∷ []

-- the outcome of a message on a lent table of n registers, with a lent answer area
unfoldable pub outcome_on : List ℕ → ℕ → List ℕ → Address → Message → Outcome
outcome_on t n a from m = unless (first_due (size_test t n a)) (receive (slots t n) from m)

-- the table after a store
abbrev pub stored : List ℕ → Store → List ℕ
stored t keep = t
stored t (put i r) = with_block t i (image r)

-- the whole contract: the enum, 01's answer that it says, every byte of the table, and every byte of the answer area
pub record Received (t : List ℕ) (n : ℕ) (a : List ℕ) (from : Address) (m : Message) (r : Answer) (t' a' : List ℕ) : Type 0 where
  pub answer : r ≡ answer_of (outcome_on t n a from m).told
  pub meaning : said r a' ≡ (outcome_on t n a from m).told
  pub table : t' ≡ stored t (outcome_on t n a from m).store
  pub area : a' ≡ written_in a (outcome_on t n a from m).told

-- ---- for the functions below the public one

-- a work done on block i of the table
pub record Placed (w : Work) (from : Address) (t : List ℕ) (i : ℕ) (r : Answer) (t' : List ℕ) : Type 0 where
  pub answer : r ≡ answer_of (one from w.answer)
  pub table : t' ≡ cond w.stores (with_block t i (image w.next)) t
