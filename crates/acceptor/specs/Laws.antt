-- Laws that the acceptor's functions share.
-- Assumes nothing.
use Rattle.std.specs.Prelude.{◌≡◌, refl, Bool, true, false, cond, List, ℕ}
use Rattle.messages.specs.declared.Address.{Address}
use Rattle.messages.specs.declared.answer.Answer.{Answer}
use Rattle.storage_block.specs.Block.{image}
use Rattle.storage_search.specs.Table.{block_at, with_block}
use Rattle.storage_search.specs.Blocks.{same_block}
use Rattle.acceptor_rules.specs.Rules.{Work}
use Rattle.acceptor_work.specs.Contract.{Worked}
use Rattle.acceptor.specs.Contract.{Placed}

-- ---- a block that is lent on out of a table

-- what a work on the lent block is for the table
pub work_placed : (w : Work) (from : Address) (t n t' : List ℕ) (i : ℕ) (r : Answer) → Worked w from (block_at t i) r n → t' ≡ with_block t i n → Placed w from t i r t'
work_placed w from t n t' i r h e = record { answer = h.answer; table = rw (e, h.block) (by w.stores) }
  where
    by : (s : Bool) → with_block t i (cond s (image w.next) (block_at t i)) ≡ cond s (with_block t i (image w.next)) t
    by true = refl
    by false = same_block t i
