-- The laws of a table's slots: each is its block's, one block replaced is one slot set, what a search finds, what the bytes say of a slot, and one turn of a search.
-- Assumes nothing.
use Rattle.std.proofs.Math.Path.{◌≡◌, refl}
use Rattle.std.proofs.Common.{sym, ap, ◌∙◌, add-zero, zero-add, add-one, eqb-true, length-set, length-drop, ext_get_or, get_or-set_same, get_or-set_other, drop-cons}
use Rattle.std.specs.Prelude.{Bool, not, cond, ◌&&◌, List, [], ◌∷◌, eqb, get_or, take, drop, set, map}
use Rattle.std.proofs.Math.Bool.{true, false}
use Rattle.std.proofs.lemmas.Bool.{false≢true, not-true}
use Rattle.std.specs.Prelude.{Option, None, Some}
use Prim.Native.Nat.{ℕ, zero, suc, ◌+◌, ◌-◌, ◌*◌, ◌≤◌, ◌<◌}
use Rattle.std.proofs.Math.Nat.{sub-zero}
use native.Mathlib.Omega.{arith}
use Rattle.std.proofs.Math.Decide.{ℕ_discrete}
use Rattle.std.proofs.Math.Dec.{ltb, eqb-suc-suc, eqb-zero-suc, eqb-suc-zero}
use Rattle.std.proofs.Math.ListN.{length, drop_of_length-le}
use Rattle.std.proofs.lemmas.List.{length-map, get_or-map}
use Rattle.leaf_fields.specs.Fields.{byte, all_zero, same}
use Rattle.leaf_fields.specs.Laws.{and_true, same-true}
use Rattle.messages.specs.Message.{Key}
use Rattle.messages.specs.Limits.{key_most}
use Rattle.storage_block.specs.Block.{Slot, free, used, bad, Register, block_bytes, key_length, register_of, good, state_of, slot_of}
use Rattle.storage_block.specs.Read.{Good, good_of}
use Rattle.storage_search.specs.declared.Found.{Found}
use Rattle.storage_search.specs.Table.{block_at, with_block, blocks_from, blocks_of, slots_from, slots, is_bad, none_bad, holds, is_free, count, first_from, found_by, where_is, Lent, LentAs}
use Rattle.storage_search.specs.Blocks.{sized_of, room_for, length_block, byte_block, drop_block, block_same, block_other}

-- ---- each slot is its block's

length_from : (t : List ℕ) (i m : ℕ) → length (slots_from t i m) ≡ m
unfolding slots_from
length_from t i zero = refl
length_from t i (suc m) = ap suc (length_from t (suc i) m)

pub length-slots : (t : List ℕ) (n : ℕ) → length (slots t n) ≡ n
unfolding slots
length-slots t n = length_from t 0 n

block_from : (t : List ℕ) (i m j : ℕ) → j < m → get_or (blocks_from t i m) j [] ≡ block_at t (i + j)
unfolding blocks_from
block_from t i zero j h = absurd (omega arith)
block_from t i (suc m) zero h = rw add-zero
block_from t i (suc m) (suc j) h =
    let e : suc i + j ≡ i + suc j = omega arith in
    block_from t (suc i) m j (omega arith) ∙ ap (block_at t) e

pub block_in : (t : List ℕ) (n i : ℕ) → i < n → get_or (blocks_of t n) i [] ≡ block_at t i
unfolding blocks_of
block_in t n i h = block_from t 0 n i h ∙ ap (block_at t) (zero-add i)

-- a table's slots are those of its blocks
slots_of_from : (t : List ℕ) (i m : ℕ) → map slot_of (blocks_from t i m) ≡ slots_from t i m
unfolding blocks_from slots_from
slots_of_from t i zero = refl
slots_of_from t i (suc m) = ap (λ l. slot_of (block_at t i) ∷ l) (slots_of_from t (suc i) m)

pub slots_of_blocks : (t : List ℕ) (n : ℕ) (l : List (List ℕ)) → l ≡ blocks_of t n → map slot_of l ≡ slots t n
unfolding blocks_of slots
slots_of_blocks t n l e = rw e (slots_of_from t 0 n)

from_at : (t : List ℕ) (i m j : ℕ) → j < m → get_or (slots_from t i m) j free ≡ slot_of (block_at t (i + j))
unfolding slots_from
from_at t i zero j h = absurd (omega arith)
from_at t i (suc m) zero h = rw add-zero
from_at t i (suc m) (suc j) h =
    let e : suc i + j ≡ i + suc j = omega arith in
    from_at t (suc i) m j (omega arith) ∙ ap (λ (k : ℕ). slot_of (block_at t k)) e

pub slot_at : (t : List ℕ) (n i : ℕ) → i < n → get_or (slots t n) i free ≡ slot_of (block_at t i)
slot_at t n i h =
    let values = slots_of_blocks t n (blocks_of t n) refl in
    let long : i < length (blocks_of t n) = omega (arith, length-map (blocks_of t n) slot_of, ap length values, length-slots t n) in
    rw (← values, get_or-map slot_of (blocks_of t n) i [] free long, block_in t n i h)

pub length_as : (t : List ℕ) (n : ℕ) (l : List (List ℕ)) → LentAs t n l → length l ≡ n
length_as t n l h = sym (length-map l slot_of) ∙ ap length h.values ∙ length-slots t n

none_bad_at : (l : List Slot) (j : ℕ) → none_bad l ≡ true → j < length l → is_bad (get_or l j free) ≡ false
unfolding none_bad
none_bad_at [] j h lt = refl
none_bad_at (s ∷ l) zero h lt = not-true (is_bad s) (and_true (not (is_bad s)) (none_bad l) h).0
none_bad_at (s ∷ l) (suc j) h lt = none_bad_at l j (and_true (not (is_bad s)) (none_bad l) h).1 (omega arith)

-- no block of a sound table is bad
pub sound_in : (l : List (List ℕ)) (i : ℕ) → none_bad (map slot_of l) ≡ true → i < length l → is_bad (slot_of (get_or l i [])) ≡ false
sound_in l i h lt = rw (get_or-map slot_of l i [] free lt) at (none_bad_at (map slot_of l) i h (omega (arith, length-map l slot_of)))

pub sound_at : (t : List ℕ) (n i : ℕ) → none_bad (slots t n) ≡ true → i < n → is_bad (slot_of (block_at t i)) ≡ false
sound_at t n i h lt = rw (slot_at t n i lt) at (none_bad_at (slots t n) i h (omega (arith, length-slots t n)))

-- one block replaced is one slot set
pub slots_with : (t : List ℕ) (n i : ℕ) (b : List ℕ) → length t ≡ n * block_bytes → length b ≡ block_bytes → i < n → slots (with_block t i b) n ≡ set (slots t n) i (slot_of b)
slots_with t n i b lt lb h =
    ext_get_or free (slots (with_block t i b) n) (set (slots t n) i (slot_of b)) (length-slots (with_block t i b) n ∙ sym (length-set (slots t n) i (slot_of b) ∙ length-slots t n)) (λ j hj. go j (omega (arith, length-slots (with_block t i b) n)))
  where
    room : i * block_bytes + block_bytes ≤ length t
    room = room_for t n i lt h

    go : (j : ℕ) → j < n → get_or (slots (with_block t i b) n) j free ≡ get_or (set (slots t n) i (slot_of b)) j free
    go j hj =
        slot_at (with_block t i b) n j hj ∙
        elim (ℕ_discrete j i) [
          | yes e ↦ rw e (ap slot_of (block_same t i b lb room) ∙ sym (get_or-set_same (slots t n) i (slot_of b) free (omega (arith, length-slots t n))))
          | no ne ↦ ap slot_of (block_other t i b lb room j ne) ∙ sym (get_or-set_other (slots t n) i j (slot_of b) free ne ∙ slot_at t n j hj)
        ]

-- ---- what a search finds

pub first_in_lem : (p : Slot → Bool) (i : ℕ) (l : List Slot) (k : ℕ) → first_from p i l ≡ Some k → (i ≤ k) × (k < i + length l) × (p (get_or l (k - i) free) ≡ true)
unfolding first_from
first_in_lem p i [] k e = let z : ◌≡◌ {A = ℕ} 0 1 = cc in absurd (omega arith)
first_in_lem p i (s ∷ l) k e = go (p s) refl (first_in_lem p (suc i) l k)
  where
    go : (h : Bool) → p s ≡ h → (first_from p (suc i) l ≡ Some k → (suc i ≤ k) × (k < suc i + length l) × (p (get_or l (k - suc i) free) ≡ true)) → (i ≤ k) × (k < i + suc (length l)) × (p (get_or (s ∷ l) (k - i) free) ≡ true)
    go true eh later =
        let f : Some i ≡ Some k = rw eh at e in
        let same_place : i ≡ k = cc in
        let at_front : k - i ≡ 0 = omega arith in
        (omega arith, omega arith, rw at_front eh)
    go false eh later =
        let r = later (rw eh at e) in
        let behind : k - i ≡ suc (k - suc i) = omega arith in
        (omega arith, omega arith, rw behind r.2)

-- where no block is found, none is counted
pub count-none : (p : Slot → Bool) (i : ℕ) (l : List Slot) → first_from p i l ≡ None → count p l ≡ 0
unfolding first_from count
count-none p i [] e = refl
count-none p i (s ∷ l) e = go (p s) refl (count-none p (suc i) l)
  where
    go : (h : Bool) → p s ≡ h → (first_from p (suc i) l ≡ None → count p l ≡ 0) → cond (p s) (suc (count p l)) (count p l) ≡ 0
    go true eh later =
        let f : Some i ≡ None = rw eh at e in
        let z : ◌≡◌ {A = ℕ} 0 1 = cc in
        omega arith
    go false eh later = rw eh (later (rw eh at e))

-- where one is found, one is counted at least
pub count-some : (p : Slot → Bool) (i : ℕ) (l : List Slot) (k : ℕ) → first_from p i l ≡ Some k → 0 < count p l
unfolding first_from count
count-some p i [] k e = let z : ◌≡◌ {A = ℕ} 0 1 = cc in omega arith
count-some p i (s ∷ l) k e = go (p s) refl (count-some p (suc i) l k)
  where
    go : (h : Bool) → p s ≡ h → (first_from p (suc i) l ≡ Some k → 0 < count p l) → 0 < cond (p s) (suc (count p l)) (count p l)
    go true eh later = rw eh (omega arith)
    go false eh later = rw eh (later (rw eh at e))

-- the first one, and those behind it
pub count_first : (p : Slot → Bool) (i : ℕ) (l : List Slot) (k : ℕ) → first_from p i l ≡ Some k → count p l ≡ suc (count p (drop (suc k - i) l))
unfolding first_from count
count_first p i [] k e = let z : ◌≡◌ {A = ℕ} 0 1 = cc in omega arith
count_first p i (s ∷ l) k e = go (p s) refl (count_first p (suc i) l k)
  where
    go : (h : Bool) → p s ≡ h → (first_from p (suc i) l ≡ Some k → count p l ≡ suc (count p (drop (suc k - suc i) l))) → cond (p s) (suc (count p l)) (count p l) ≡ suc (count p (drop (suc k - i) (s ∷ l)))
    go true eh later =
        let f : Some i ≡ Some k = rw eh at e in
        let same_place : k ≡ i = cc in
        let left : suc i - i ≡ 1 = omega arith in
        rw (eh, same_place, left)
    go false eh later =
        let f = rw eh at e in
        let behind = (first_in_lem p (suc i) l k f).0 in
        let left : suc k - i ≡ suc (suc k - suc i) = omega arith in
        rw (eh, left) (later f)

free_is : (s : Slot) → is_free s ≡ true → s ≡ free
free_is free h = refl
free_is (used r) h = absurd (false≢true h)
free_is bad h = absurd (false≢true h)

module _ (k : Key) (l : List Slot) (i : ℕ) where
  by_at : (o f : Option ℕ) → found_by o f ≡ Found.At i → o ≡ Some i
  by_at None None e = cc
  by_at None (Some j) e = cc
  by_at (Some j) f e = cc

  by_free : (o f : Option ℕ) → found_by o f ≡ Found.Free i → f ≡ Some i
  by_free None None e = cc
  by_free None (Some j) e = cc
  by_free (Some j) f e = cc

  -- the place that is found is one of the table's, and holds the key
  pub where_at : where_is k l ≡ Found.At i → (i < length l) × (holds k (get_or l i free) ≡ true)
  unfolding where_is
  where_at e = go (ltb 1 (count (holds k) l)) refl
    where
      go : (h : Bool) → ltb 1 (count (holds k) l) ≡ h → (i < length l) × (holds k (get_or l i free) ≡ true)
      go true eh =
          let f : Found.Twice ≡ Found.At i = rw eh at e in
          let z : ◌≡◌ {A = ℕ} 0 1 = cc in
          absurd (omega arith)
      go false eh =
          let r = first_in_lem (holds k) 0 l i (by_at (first_from (holds k) 0 l) (first_from is_free 0 l) (rw eh at e)) in
          (omega arith, rw sub-zero at r.2)

  -- and that of a new key is free
  pub where_free : where_is k l ≡ Found.Free i → (i < length l) × (get_or l i free ≡ free)
  unfolding where_is
  where_free e = go (ltb 1 (count (holds k) l)) refl
    where
      go : (h : Bool) → ltb 1 (count (holds k) l) ≡ h → (i < length l) × (get_or l i free ≡ free)
      go true eh =
          let f : Found.Twice ≡ Found.Free i = rw eh at e in
          let z : ◌≡◌ {A = ℕ} 0 1 = cc in
          absurd (omega arith)
      go false eh =
          let r = first_in_lem is_free 0 l i (by_free (first_from (holds k) 0 l) (first_from is_free 0 l) (rw eh at e)) in
          (omega arith, free_is (get_or l i free) (rw sub-zero at r.2))

-- a slot that holds a key has its register
pub record Held (k : Key) (s : Slot) : Type 0 where
  pub register : Register
  pub is_used : s ≡ used register
  pub has_key : register.key ≡ k

pub held_at : (k : Key) (s : Slot) → holds k s ≡ true → Held k s
held_at k free h = absurd (false≢true h)
held_at k (used r) h = record { register = r; is_used = refl; has_key = same-true r.key k h }
held_at k bad h = absurd (false≢true h)

-- ---- what a slot's bytes say

-- l begins with k
unfoldable pub starts : List ℕ → List ℕ → Bool
starts l [] = true
starts [] (y ∷ k) = false
starts (x ∷ l) (y ∷ k) = eqb x y && starts l k

-- what is known of a block that is not bad
pub data Fine (b : List ℕ) : Type 0 where
  unused : slot_of b ≡ free → byte b 0 ≡ 0 → Fine b
  held : slot_of b ≡ used (register_of b) → Good b → Fine b

first_zero : (l : List ℕ) → all_zero l ≡ true → byte l 0 ≡ 0
unfolding all_zero
first_zero [] h = refl
first_zero (x ∷ l) h = eqb-true x 0 (and_true (eqb x 0) (all_zero l) h).0

pub fine_of : (b : List ℕ) → is_bad (slot_of b) ≡ false → Fine b
unfolding slot_of state_of
fine_of b h = by_zeros (all_zero b) refl
  where
    by_good : (g : Bool) → all_zero b ≡ false → good b ≡ g → Fine b
    by_good true ez eg = held (rw (ez, eg)) (good_of b eg)
    by_good false ez eg = absurd (false≢true (sym (rw (ez, eg) at h)))

    by_zeros : (z : Bool) → all_zero b ≡ z → Fine b
    by_zeros true ez = unused (rw ez) (first_zero b ez)
    by_zeros false ez = by_good (good b) ez refl

-- it is free where its first byte is 0
pub free_by_bytes : (b : List ℕ) → is_bad (slot_of b) ≡ false → is_free (slot_of b) ≡ eqb (byte b 0) 0
free_by_bytes b h = elim (fine_of b h) [ unused e z ↦ rw (e, z) | held e g ↦ rw (e, g.head.version) ]

-- a row's first n elements are k where n is its length and the row begins with it
same-take : (n : ℕ) (l k : List ℕ) → n ≤ length l → same (take n l) k ≡ (eqb n (length k) && starts l k)
unfolding same starts
same-take zero l [] h = refl
same-take zero l (y ∷ k) h = rw eqb-zero-suc
same-take (suc n) [] k h = absurd (omega arith)
same-take (suc n) (x ∷ l) [] h = rw eqb-suc-zero
same-take (suc n) (x ∷ l) (y ∷ k) h = rw eqb-suc-suc (go (eqb x y) (eqb n (length k)) (same-take n l k (omega arith)))
  where
    go : (u v : Bool) → same (take n l) k ≡ (v && starts l k) → (u && same (take n l) k) ≡ (v && (u && starts l k))
    go true v e = e
    go false true e = refl
    go false false e = refl

-- it holds a key where its first byte is 1, its second the key's length, and the key stands from byte 24 on
pub holds_by_bytes : (k : Key) (b : List ℕ) → length b ≡ block_bytes → is_bad (slot_of b) ≡ false → holds k (slot_of b) ≡ (eqb (byte b 0) 1 && eqb (byte b 1) (length k) && starts (drop 24 b) k)
unfolding register_of
holds_by_bytes k b len h =
    elim (fine_of b h) [
      | unused e z ↦ rw (e, z)
      | held e g ↦ rw (e, g.head.version) (same-take (key_length b) (drop 24 b) k (omega (arith, length-drop 24 b, g.head.key_short)))
    ]

-- ---- and what a table's bytes say of its slots

starts-take : (n : ℕ) (l k : List ℕ) → length k ≤ n → starts (take n l) k ≡ starts l k
unfolding starts
starts-take n l [] h = refl
starts-take zero l (y ∷ k) h = absurd (omega arith)
starts-take (suc n) [] (y ∷ k) h = refl
starts-take (suc n) (x ∷ l) (y ∷ k) h = ap (λ (r : Bool). eqb x y && r) (starts-take n l k (omega arith))

module _ (t : List ℕ) (n i : ℕ) (lent : Lent t n) (lt : i < n) where
  fine_at : Fine (block_at t i)
  fine_at = fine_of (block_at t i) (sound_at t n i lent.sound lt)

  first_byte : byte (block_at t i) 0 ≡ byte t (i * block_bytes)
  first_byte = rw add-zero at (byte_block t i 0 (omega arith))

  -- a block that is in use has a key within the limits
  pub key_short_at : byte t (i * block_bytes) ≡ 1 → byte t (i * block_bytes + 1) ≤ key_most
  key_short_at one =
      let first = first_byte in
      let second = byte_block t i 1 (omega arith) in
      elim fine_at [ unused e z ↦ absurd (omega arith) | held e g ↦ omega (arith, g.head.key_short) ]

  pub free_by_table : is_free (slot_of (block_at t i)) ≡ eqb (byte t (i * block_bytes)) 0
  free_by_table = rw first_byte at (free_by_bytes (block_at t i) (sound_at t n i lent.sound lt))

  pub holds_by_table : (k : Key) → holds k (slot_of (block_at t i)) ≡ (eqb (byte t (i * block_bytes)) 1 && eqb (byte t (i * block_bytes + 1)) (length k) && starts (drop (i * block_bytes + 24) t) k)
  holds_by_table k =
      rw (first_byte, byte_block t i 1 (omega arith), drop_block t i 24 488 refl) at
      (holds_by_bytes k (block_at t i) (length_block t i (room_for t n i (sized_of t n lent.sized).bytes lt)) (sound_at t n i lent.sound lt))
      ∙ go (eqb (byte t (i * block_bytes)) 1) (eqb (byte t (i * block_bytes + 1)) (length k)) refl refl
    where
      behind : List ℕ
      behind = drop (i * block_bytes + 24) t

      -- where the lengths are equal the key is within the block
      go : (x y : Bool) → eqb (byte t (i * block_bytes)) 1 ≡ x → eqb (byte t (i * block_bytes + 1)) (length k) ≡ y → (x && y && starts (take 488 behind) k) ≡ (x && y && starts behind k)
      go true true ex ey =
          let short = key_short_at (eqb-true (byte t (i * block_bytes)) 1 ex) in
          let long = eqb-true (byte t (i * block_bytes + 1)) (length k) ey in
          starts-take 488 behind k (omega arith)
      go true false ex ey = refl
      go false y ex ey = refl

-- ---- one turn of a search of the blocks from i on

module _ (p : Slot → Bool) (l : List (List ℕ)) (i : ℕ) (o : Option ℕ) (left : first_from p i (drop i (map slot_of l)) ≡ o) where
  turned : i < length l → cond (p (slot_of (get_or l i []))) (Some i) (first_from p (suc i) (drop (suc i) (map slot_of l))) ≡ o
  unfolding first_from
  turned more = rw (drop-cons (map slot_of l) i free (omega (arith, length-map l slot_of)), get_or-map slot_of l i [] free more) at left

  pub turn_on : i < length l → p (slot_of (get_or l i [])) ≡ false → first_from p (i + 1) (drop (i + 1) (map slot_of l)) ≡ o
  turn_on more h = rw add-one (rw h at (turned more))

  pub turn_found : i < length l → p (slot_of (get_or l i [])) ≡ true → Some i ≡ o
  turn_found more h = rw h at (turned more)

  pub turn_past : length l ≤ i → None ≡ o
  unfolding first_from
  turn_past past = rw (drop_of_length-le (map slot_of l) {i = i} (omega (arith, length-map l slot_of))) at left
