-- `storage_search::next_holding` meets its contract. The outer loop's invariant: the search of what is left of the blocks gives the answer.
-- The inner loop's: what is left of the key is in its place where the whole key is.
-- Assumes nothing.
use Rattle.std.proofs.Common.{◌≡◌, sym, Bool, true, false, ◌&&◌, List, [], ℕ, suc, ◌+◌, ◌<◌, ◌≤◌, eqb, get_or, length, map, drop, drop-cons, arith, rules, add-one}
use borrow.Author.Tests.{tests, eq-eqb, ne_eqb}
use lib.ListN.{drop_of_length-le}
use Rattle.leaf_fields.specs.Fields.{byte}
use Rattle.storage_block.specs.Block.{slot_of}
use Rattle.storage_search.specs.Table.{none_bad, holds}
use Rattle.storage_search.specs.Laws.{sound_in, starts, holds_by_bytes, turn_on, turn_found, turn_past}
use Rattle.storage_search.proofs.next_holding.Goals as goal

-- what block i says of the key
by_bytes : (l : List (List ℕ)) (key : List ℕ) (i : ℕ) → length (get_or l i []) ≡ 512 → none_bad (map slot_of l) ≡ true → i < length l → holds key (slot_of (get_or l i [])) ≡ (eqb (byte (get_or l i []) 0) 1 && eqb (byte (get_or l i []) 1) (length key) && starts (drop 24 (get_or l i [])) key)
by_bytes l key i long sound h = holds_by_bytes key (get_or l i []) long (sound_in l i sound h)

-- the key in its place: from its byte j on
module _ (b key : List ℕ) (j : ℕ) (short : 24 + j < length b) (more : j < length key) (r : Bool) (left : starts (drop (24 + j) b) (drop j key) ≡ r) where
  differs : (byte b (24 + j) ≡ byte key j → ⊥) → r ≡ false
  unfolding starts
  differs ne = sym (rw (drop-cons b (24 + j) 0 short, drop-cons key j 0 more, ne_eqb _ _ ne) at left)

  equal : byte b (24 + j) ≡ byte key j → starts (drop (24 + (j + 1)) b) (drop (j + 1) key) ≡ r
  unfolding starts
  equal eq =
      let e : 24 + (j + 1) ≡ suc (24 + j) = omega arith in
      rw (e, add-one) (rw (drop-cons b (24 + j) 0 short, drop-cons key j 0 more, eq-eqb _ _ eq) at left)

passed : (b key : List ℕ) (j : ℕ) (r : Bool) → starts (drop (24 + j) b) (drop j key) ≡ r → length key ≤ j → r ≡ true
unfolding starts
passed b key j r left h = sym (rw (drop_of_length-le key h) at left)

pub blocks-2-preserved-then-b-ne1 : goal.blocks-2-preserved-then-b-ne1
blocks-2-preserved-then-b-ne1 c =
    let here = by_bytes _ c.args.key.now _ (c.told-blocks _ c.blocks-2-test.true) c.requires.sound c.blocks-2-test.true in
    turn_on _ _ _ _ c.blocks-2.invariant c.blocks-2-test.true (grind (arith, tests))

pub blocks-2-preserved : goal.blocks-2-preserved
blocks-2-preserved c =
    let long = c.told-blocks _ c.blocks-2-test.true in
    let here = by_bytes _ c.args.key.now _ long c.requires.sound c.blocks-2-test.true in
    let other = differs _ _ _ (omega arith) c.loop-j-test.true _ c.loop-j.invariant.1 c.if-b-j.true in
    turn_on _ _ _ _ c.blocks-2.invariant c.blocks-2-test.true (grind (arith, tests))

pub loop-j-preserved : goal.loop-j-preserved
loop-j-preserved c =
    let long = c.told-blocks _ c.blocks-2-test.true in
    (search rules, equal _ _ _ (omega arith) c.loop-j-test.true _ c.loop-j.invariant.1 c.if-b-j.false)

pub returns-in-blocks-2 : goal.returns-in-blocks-2
returns-in-blocks-2 c =
    let here = by_bytes _ c.args.key.now _ (c.told-blocks _ c.blocks-2-test.true) c.requires.sound c.blocks-2-test.true in
    let whole = passed _ _ c.loop-j.j _ c.loop-j.invariant.1 (omega arith) in
    turn_found _ _ _ _ c.blocks-2.invariant c.blocks-2-test.true (grind (arith, tests))

pub returns : goal.returns
returns c = turn_past _ _ _ _ c.blocks-2.invariant (omega arith)
