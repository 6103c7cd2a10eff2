-- `storage::block_of` meets its contract: the table's tests, two blocks, the key's length, and then where the key is.
-- Assumes nothing.
use Rattle.std.proofs.Common.{◌≡◌, List, [], ℕ, ◌≤◌, ◌<◌, length, map, get_or, rules}
use Rattle.std.specs.Prelude.{None, Some}
use borrow.Author.Tests.{le-leb}
use Rattle.messages.specs.Refusals.{first_due}
use Rattle.storage_block.specs.Block.{slot_of}
use Rattle.storage_search.specs.declared.Found.{Found}
use Rattle.storage_search.specs.Table.{slots, where_is, LentAs}
use Rattle.storage_search.specs.Laws.{block_in, length_as}
use Rattle.storage_search.specs.Keys.{found_as, place_known}
use Rattle.storage.specs.Operations.{key_tests, block_by_place}
use Rattle.storage.proofs.block_of.Goals as goal

module _ (t : List ℕ) (n : ℕ) (k : List ℕ) (l : List (List ℕ)) (i : ℕ) (h : LentAs t n l) (here : Found.At i ≡ where_is k (map slot_of l)) where
  at_i : where_is k (slots t n) ≡ Found.At i
  at_i = found_as t n l h k (Found.At i) here

  in_blocks : i < length l
  in_blocks = rw (length_as t n l h) (place_known t n k i h.lent at_i)

  due : length k ≤ 64 → first_due (key_tests t n k) ≡ None
  due short = rw (h.lent.sized, h.lent.sound, at_i, le-leb (length k) 64 short)

  block_here : Some (get_or l i []) ≡ block_by_place t (where_is k (slots t n))
  block_here = rw (h.is_table, block_in t n i (place_known t n k i h.lent at_i), at_i)

pub bounds-blocks-i : goal.bounds-blocks-i
bounds-blocks-i c = in_blocks _ _ _ _ _ c.in_ok-blocks.ensures c.in-At.ensures

pub offset_bounds-blocks-i : goal.offset_bounds-blocks-i
offset_bounds-blocks-i c =
    let lt = in_blocks _ _ _ _ _ c.in_ok-blocks.ensures c.in-At.ensures in
    search rules

pub returns-in-At : goal.returns-in-At
returns-in-At c =
    (due _ _ _ _ _ c.in_ok-blocks.ensures c.in-At.ensures c.if-key-gt-KEY_MOST.false, block_here _ _ _ _ _ c.in_ok-blocks.ensures c.in-At.ensures)
