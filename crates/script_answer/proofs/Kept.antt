-- How many bytes stand before the zeros at the end: none in a row of zeros, and some in any other.
-- Assumes nothing.
use Rattle.std.proofs.Common.{◌≤◌, length, take, length-take-le}
use mathlib.Core.Path.{◌≡◌, refl, sym, ap, ◌∙◌}
use mathlib.Core.Bool.{Bool, true, false, cond, and-false}
use mathlib.Core.List.{List, [], ◌∷◌}
use Prim.Native.Nat.{ℕ, zero, suc}
use lib.ListN.{get_or}
use borrow.Author.Tests.{ne_eqb}
use native.Mathlib.Omega.{arith}
use lib.Dec.{eqb}
use Rattle.leaf_fields.specs.Fields.{all_zero}
use Rattle.script_answer.specs.Lines.{kept_of}

pub zeros_kept : (l : List ℕ) → all_zero l ≡ true → kept_of l ≡ 0
unfolding kept_of
zeros_kept [] h = refl
zeros_kept (x ∷ l) h = rw h

-- a byte that is not zero
pub not_zeros : (l : List ℕ) (m : ℕ) → (get_or l m 0 ≡ 0 → ⊥) → all_zero l ≡ false
unfolding all_zero
not_zeros [] m h = absurd (h refl)
not_zeros (x ∷ l) zero h = rw (ne_eqb x 0 h)
not_zeros (x ∷ l) (suc m) h = rw (not_zeros l m h) (and-false (eqb x 0))

chosen : (t : Bool) (k : ℕ) → cond t 0 (suc k) ≡ 0 → t ≡ true
chosen true k h = refl
chosen false k h = absurd (omega arith)

pub none_kept : (l : List ℕ) → kept_of l ≡ 0 → all_zero l ≡ true
unfolding kept_of all_zero
none_kept [] h = refl
none_kept (x ∷ l) h = chosen (all_zero (x ∷ l)) (kept_of l) h

not_true : (t : Bool) (l : List ℕ) → all_zero l ≡ t → (kept_of l ≡ 0 → ⊥) → t ≡ false
not_true true l e h = absurd (h (zeros_kept l e))
not_true false l e h = refl

pub some_kept : (l : List ℕ) → (kept_of l ≡ 0 → ⊥) → all_zero l ≡ false
some_kept l h = not_true (all_zero l) l refl h

-- no more than there are
pub within : (l : List ℕ) → kept_of l ≤ length l
unfolding kept_of
within [] = omega arith
within (x ∷ l) = by_test (all_zero (x ∷ l)) (within l)
  where
    by_test : (t : Bool) → kept_of l ≤ length l → cond t 0 (suc (kept_of l)) ≤ suc (length l)
    by_test true h = omega arith
    by_test false h = omega arith

-- what is kept is none of the bytes only in a row of zeros
pub nothing_kept : (l k : List ℕ) → k ≡ take (kept_of l) l → length k ≡ 0 → all_zero l ≡ true
nothing_kept l k e h = none_kept l (sym (length-take-le (kept_of l) l (within l)) ∙ sym (ap length e) ∙ h)

pub something_kept : (l k : List ℕ) → k ≡ take (kept_of l) l → (length k ≡ 0 → ⊥) → all_zero l ≡ false
something_kept l k e h = some_kept l (λ z. h (ap length e ∙ length-take-le (kept_of l) l (within l) ∙ z))
