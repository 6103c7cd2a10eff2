-- `storage_search::locate` meets its contract: the key's first block counts one holder, and a search behind it says whether there is a second.
-- Assumes nothing.
use Rattle.std.proofs.Common.{◌≡◌, List, ℕ, Option, Some, None, suc, ◌+◌, ◌≤◌, length, map, drop, add-one, sym, rules, arith}
use Rattle.std.specs.Prelude.{MatchOption}
use Rattle.std.proofs.Math.Nat.{sub-zero}
use Rattle.std.proofs.lemmas.List.{length-map}
use borrow.Author.Tests.{lt-ltb, le-ltb}
use mir.Facts.{Fits-le}
use Rattle.storage_block.specs.Block.{Slot, slot_of}
use Rattle.storage_search.specs.declared.Found.{Found}
use Rattle.storage_search.specs.Table.{holds, is_free, count, first_from, found_by, where_is}
use Rattle.storage_search.specs.Laws.{first_in_lem, count-none, count-some, count_first}
use Rattle.storage_search.proofs.locate.Goals as goal

module _ (l : List Slot) (key : List ℕ) where
  abbrev after : ℕ → Option ℕ
  after i = first_from (holds key) i (drop i l)

  -- those behind the first are one less than all
  count_later : (i : ℕ) → Some i ≡ after 0 → count (holds key) l ≡ suc (count (holds key) (drop (i + 1) l))
  count_later i e = rw add-one (rw sub-zero at (count_first (holds key) 0 l i (sym e)))

  room_behind : (i : ℕ) → Some i ≡ after 0 → i + 1 ≤ length l
  room_behind i e = omega (arith, first_in_lem (holds key) 0 l i (sym e))

  two : (i j : ℕ) → Some i ≡ after 0 → Some j ≡ after (i + 1) → Found.Twice ≡ where_is key l
  unfolding where_is
  two i j e f =
      let later = count-some (holds key) (i + 1) (drop (i + 1) l) j (sym f) in
      let all = count_later i e in
      rw (lt-ltb 1 (count (holds key) l) (omega arith))

  one : (i : ℕ) → Some i ≡ after 0 → None ≡ after (i + 1) → Found.At i ≡ where_is key l
  unfolding where_is
  one i e f =
      let later = count-none (holds key) (i + 1) (drop (i + 1) l) (sym f) in
      let all = count_later i e in
      rw (le-ltb 1 (count (holds key) l) (omega arith), ← e)

  by_free : (o : Option ℕ) (r : Found) → MatchOption o (r ≡ Found.Full) (λ x. r ≡ Found.Free x) → r ≡ found_by None o
  by_free None r e = e
  by_free (Some i) r e = e

  new : (o : Option ℕ) (r : Found) → None ≡ after 0 → o ≡ first_from is_free 0 l → MatchOption o (r ≡ Found.Full) (λ x. r ≡ Found.Free x) → r ≡ where_is key l
  unfolding where_is
  new o r e f g =
      let none = count-none (holds key) 0 l (sym e) in
      rw (le-ltb 1 (count (holds key) l) (omega arith), ← e, ← f) (by_free o r g)

room_in : (l : List (List ℕ)) (key : List ℕ) (i : ℕ) → Some i ≡ first_from (holds key) 0 (map slot_of l) → i + 1 ≤ length l
room_in l key i e = omega (arith, room_behind (map slot_of l) key i e, length-map l slot_of)

pub overflow_add-i : goal.overflow_add-i
overflow_add-i c = search (Fits-le, room_in, rules)

pub next_holding-requires-2-clause-start_le_len : goal.next_holding-requires-2-clause-start_le_len
next_holding-requires-2-clause-start_le_len c = search (room_in, rules)

pub returns-in-Some-next_holding : goal.returns-in-Some-next_holding
returns-in-Some-next_holding c = two _ _ _ _ c.in-Some.ensures c.in-Some-next_holding.ensures

pub returns-in-None : goal.returns-in-None
returns-in-None c = one _ _ _ c.in-Some.ensures c.in-None.ensures

pub returns-in_default : goal.returns-in_default
returns-in_default c = new _ _ _ _ c.in_default.ensures c.lowest_free.ensures c.map_or.ensures
