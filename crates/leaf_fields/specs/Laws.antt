-- The laws of fields: what is stored is read back, at any width, and every other field is as it was.
-- Assumes nothing.
use Rattle.std.specs.Prelude.{◌≡◌, refl, Bool, true, false, ◌&&◌, List, [], ◌∷◌, ◌++◌, ℕ, zero, suc, ◌+◌, ◌-◌, ◌*◌, ◌/◌, ◌%◌, ◌^◌, ◌≤◌, ◌<◌, eqb, length, take, drop, set, replicate}
use Rattle.std.proofs.Common.{ap, ◌∙◌, pow-suc, arith, eqb-true, eq-eqb, lit<, length-take, length-drop, length-append, drop-cons, get_or-drop, get_or-set_same, get_or-set_other, drop_at, take_at, drop-set-lt}
use Rattle.std.proofs.lemmas.Bool.{false≢true}
use Rattle.std.proofs.Math.Decide.{ℕ_discrete}
use Rattle.std.proofs.lemmas.List.Edits.{sets, sets-eq}
use Rattle.std.proofs.lemmas.List.{take-set-le, drop-set-add, drop-append-le}
use Rattle.leaf_fields.specs.Fields.{from_le, to_le, part, byte, all_zero, same, Bytes}

pub length-to_le : (w x : ℕ) → length (to_le w x) ≡ w
unfolding to_le
length-to_le zero x = refl
length-to_le (suc w) x = ap suc (length-to_le w (x / 256))

-- a number that fits w bytes is read back from them
pub from_le-to_le : (w x : ℕ) → x < 256 ^ w → from_le (to_le w x) ≡ x
unfolding to_le from_le
from_le-to_le zero x h = omega arith
from_le-to_le (suc w) x h =
    let e : from_le (to_le w (x / 256)) ≡ x / 256 = from_le-to_le w (x / 256) (omega (arith, pow-suc 256 w)) in
    omega arith

-- and bytes are written back as they were
pub to_le-from_le : (l : List ℕ) → Bytes l → to_le (length l) (from_le l) ≡ l
unfolding to_le from_le Bytes
to_le-from_le [] h = refl
to_le-from_le (b ∷ l) h =
    let hb : b < 256 = h 0 in
    let m : (b + 256 * from_le l) % 256 ≡ b = omega arith in
    let d : (b + 256 * from_le l) / 256 ≡ from_le l = omega arith in
    rw (m, d, to_le-from_le l (λ i. h (suc i)))

-- one byte more at the front of a part
pub part_front : (s : List ℕ) (a m : ℕ) → a < length s → from_le (part s a (suc m)) ≡ byte s a + 256 * from_le (part s (suc a) m)
unfolding from_le
part_front s a m h = rw (drop-cons s a 0 h)

pub length-part : (s : List ℕ) (a n : ℕ) → a + n ≤ length s → length (part s a n) ≡ n
length-part s a n room = simp (length-take, length-drop) (omega arith)

pub bytes_take : (n : ℕ) (l : List ℕ) → Bytes l → Bytes (take n l)
unfolding Bytes
bytes_take zero l h = λ i. lit< tt
bytes_take (suc n) [] h = λ i. lit< tt
bytes_take (suc n) (b ∷ l) h = λ i. elim i as (λ k. byte (take (suc n) (b ∷ l)) k < 256) [ zero ↦ h 0 | suc j ↦ bytes_take n l (λ k. h (suc k)) j ]

pub bytes_drop : (n : ℕ) (l : List ℕ) → Bytes l → Bytes (drop n l)
unfolding Bytes
bytes_drop n l h = λ i. rw get_or-drop (h (n + i))

pub bytes_part : (b : List ℕ) (a n : ℕ) → Bytes b → Bytes (part b a n)
bytes_part b a n h = bytes_take n (drop a b) (bytes_drop a b h)

pub bytes_set : (b : List ℕ) (i u : ℕ) → i < length b → u < 256 → Bytes b → Bytes (set b i u)
unfolding Bytes
bytes_set b i u hi hu h =
    λ k. elim (ℕ_discrete k i) [ yes e ↦ rw e (rw (get_or-set_same b i u 0 hi) hu) | no ne ↦ rw (get_or-set_other b i k u 0 ne) (h k) ]

-- after a run of stores a part is what was stored, or what was there before
pub part_same : (l : List ℕ) (at : ℕ) (vs : List ℕ) → at + length vs ≤ length l → part (sets l at vs) at (length vs) ≡ vs
part_same l at vs room =
    let e : length (take at l) ≡ at = simp length-take (omega arith) in
    rw (
      sets-eq vs l at room,
      drop-append-le at (take at l ++ vs) (drop (at + length vs) l) (omega (arith, length-append (take at l) vs)),
      drop_at (take at l) vs at e,
      take_at vs (drop (at + length vs) l) (length vs) refl,
    )

pub part_before : (l : List ℕ) (at : ℕ) (vs : List ℕ) (a n : ℕ) → a + n ≤ at → part (sets l at vs) a n ≡ part l a n
part_before l at [] a n h = refl
part_before l at (v ∷ vs) a n h =
    let e : at ≡ a + (at - a) = omega arith in
    part_before (set l at v) (suc at) vs a n (omega arith)
    ∙ ap (take n) (ap (λ (k : ℕ). drop a (set l k v)) e ∙ drop-set-add a l (at - a) v)
    ∙ take-set-le n (drop a l) (at - a) v (omega arith)

pub part_after : (l : List ℕ) (at : ℕ) (vs : List ℕ) (a n : ℕ) → at + length vs ≤ a → part (sets l at vs) a n ≡ part l a n
part_after l at [] a n h = refl
part_after l at (v ∷ vs) a n h = part_after (set l at v) (suc at) vs a n (omega arith) ∙ ap (take n) (drop-set-lt a l at v (omega arith))

-- what a test of two parts says of each
pub and_true : (x y : Bool) → (x && y) ≡ true → (x ≡ true) × (y ≡ true)
and_true true y h = (refl, h)
and_true false y h = absurd (false≢true h)

-- a row of zeros is that many zeros
pub zeros_are : (l : List ℕ) → all_zero l ≡ true → l ≡ replicate (length l) 0
unfolding all_zero
zeros_are [] h = refl
zeros_are (x ∷ l) h =
    let p = and_true (eqb x 0) (all_zero l) h in
    rw (eqb-true x 0 p.0) (ap (λ (r : List ℕ). 0 ∷ r) (zeros_are l p.1))

pub zeros_zero : (n : ℕ) → all_zero (replicate n 0) ≡ true
unfolding all_zero
zeros_zero zero = refl
zeros_zero (suc n) = zeros_zero n

pub same-true : (l m : List ℕ) → same l m ≡ true → l ≡ m
unfolding same
same-true [] [] h = refl
same-true [] (y ∷ m) h = absurd (false≢true h)
same-true (x ∷ l) [] h = absurd (false≢true h)
same-true (x ∷ l) (y ∷ m) h =
    let p = and_true (eqb x y) (same l m) h in
    rw (eqb-true x y p.0, same-true l m p.1)

pub same_refl : (l : List ℕ) → same l l ≡ true
unfolding same
same_refl [] = refl
same_refl (x ∷ l) = rw (eq-eqb x x refl) (same_refl l)

pub same-length : (l m : List ℕ) → (length l ≡ length m → ⊥) → same l m ≡ false
unfolding same
same-length [] [] ne = absurd (ne refl)
same-length [] (y ∷ m) ne = refl
same-length (x ∷ l) [] ne = refl
same-length (x ∷ l) (y ∷ m) ne = go (eqb x y) (same-length l m (λ e. ne (ap suc e)))
  where
    go : (t : Bool) → same l m ≡ false → (t && same l m) ≡ false
    go true h = h
    go false h = refl
