-- `storage::set_at` meets its contract: what is done to the lent block is done to block i, and every other byte stays.
-- Assumes nothing.
use Rattle.std.proofs.Common.{◌≡◌, refl, List, ℕ, Result, Some, None, Option}
use Rattle.messages.specs.declared.answer.Refusal.{Refusal}
use Rattle.messages.specs.Refusals.{first_due}
use Rattle.storage_block.specs.Block.{Register, register_with, image}
use Rattle.storage_search.specs.Table.{block_at, with_block}
use Rattle.storage_search.specs.Blocks.{lent_block, back_block, same_block}
use Rattle.storage.specs.declared.Change.{Change}
use Rattle.storage.specs.Operations.{changed, register_tests, block_by, RegisterSet, BlockSet}
use Rattle.storage.proofs.set_at.Goals as goal

-- what is stored in the lent block is stored in the table
in_table : (r : Register) (t n t' : List ℕ) (i : ℕ) (d : Result (Unit {0}) Refusal) → RegisterSet r (block_at t i) d n → t' ≡ with_block t i n → BlockSet r t i d t'
in_table r t n t' i d h e = record { done = h.done; table = rw (e, h.block) (by (first_due (register_tests r))) }
  where
    by : (o : Option Refusal) → with_block t i (block_by o (block_at t i) (image r)) ≡ block_by o t (with_block t i (image r))
    by None = refl
    by (Some x) = same_block t i

placed : (t x n t' key bytes : List ℕ) (i : ℕ) (change : Change) (d : Result (Unit {0}) Refusal) → x ≡ block_at t i → RegisterSet (changed change bytes (register_with key x)) x d n → t' ≡ with_block t i n → BlockSet (changed change bytes (register_with key (block_at t i))) t i d t'
placed t x n t' key bytes i change d ex h e = in_table (changed change bytes (register_with key (block_at t i))) t n t' i d (rw ex at h) e

pub set_in-requires : goal.set_in-requires
set_in-requires c = rw (lent_block _ _ _ _ _ c.split_at_mut-rest.ensures.front c.split_at_mut-rest.ensures.back c.in-Some.ensures.cases) c.requires.1

pub returns : goal.returns
returns c =
    placed _ _ _ _ c.args.key.now c.args.bytes.now _ c.args.change _ (lent_block _ _ _ _ _ c.split_at_mut-rest.ensures.front c.split_at_mut-rest.ensures.back c.in-Some.ensures.cases) c.set_in.ensures
    (back_block _ _ _ _ _ c.split_at_mut-rest.ensures.front c.split_at_mut-rest.ensures.back c.in-Some.ensures.cases _)
