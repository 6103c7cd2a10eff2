-- `storage::set` meets its contract: each return is a case of the set, in rank order.
-- Assumes nothing.
use Rattle.std.proofs.Common.{◌≡◌, ◌∙◌, true, List, ℕ, ◌+◌, ◌*◌, ◌≤◌, ◌<◌, ◌⊎◌, inl, inr, Result, length, map}
use Rattle.messages.specs.declared.answer.Refusal.{Refusal}
use Rattle.storage_block.specs.Block.{readable, register_with, slot_of}
use Rattle.storage_search.specs.declared.Found.{Found}
use Rattle.storage_search.specs.Table.{block_at, slots, where_is, LentAs}
use Rattle.storage_search.specs.Keys.{found_as, place_known, place_free, room_in, readable_in}
use Rattle.storage.specs.declared.Change.{Change}
use Rattle.storage.specs.Operations.{changed, KeySet, BlockSet}
use Rattle.storage.specs.Laws.{set_known, set_new, set_full, set_twice}
use Rattle.storage.proofs.set.Goals as goal

module _ (t : List ℕ) (n : ℕ) (k : List ℕ) (l : List (List ℕ)) (h : LentAs t n l) (found : Found) (ef : found ≡ where_is k (map slot_of l)) where
  where_found : (f : Found) → found ≡ f → where_is k (slots t n) ≡ f
  where_found f e = found_as t n l h k found ef ∙ e

  -- a block that has the key or takes it
  module _ (i : ℕ) (here : (found ≡ Found.At i) ⊎ (found ≡ Found.Free i)) where
    in_table : i < n
    in_table = elim here [ inl e ↦ place_known t n k i h.lent (where_found (Found.At i) e) | inr e ↦ place_free t n k i h.lent (where_found (Found.Free i) e) ]

    block_in : (i * 512 + 512 ≤ length t) × (readable (block_at t i) ≡ true)
    block_in = (room_in t n k i h.lent in_table, readable_in t n k i h.lent in_table)

    set_block : (c : Change) (v : List ℕ) (r : Result (Unit {0}) Refusal) (t' : List ℕ) → BlockSet (changed c v (register_with k (block_at t i))) t i r t' → KeySet t n k c v r t'
    set_block c v r t' b =
        elim here [
          | inl e ↦ set_known t n k c v h.lent i r t' (where_found (Found.At i) e) b
          | inr e ↦ set_new t n k c v h.lent i r t' (where_found (Found.Free i) e) b
        ]

pub set_at-requires : goal.set_at-requires
set_at-requires c = block_in _ _ _ _ c.in_ok-blocks.ensures _ c.locate.ensures _ c.in-At.is

pub returns-in-At : goal.returns-in-At
returns-in-At c = set_block _ _ _ _ c.in_ok-blocks.ensures _ c.locate.ensures _ c.in-At.is _ _ _ _ c.set_at.ensures

pub returns-in-Full : goal.returns-in-Full
returns-in-Full c = set_full _ _ _ _ _ c.in_ok-blocks.ensures.lent _ (where_found _ _ _ _ c.in_ok-blocks.ensures _ c.locate.ensures Found.Full c.in-Full.is) c.set_full.ensures

pub returns-in-Twice : goal.returns-in-Twice
returns-in-Twice c = set_twice _ _ _ _ _ c.in_ok-blocks.ensures.lent (where_found _ _ _ _ c.in_ok-blocks.ensures _ c.locate.ensures Found.Twice c.in-Twice.is)
