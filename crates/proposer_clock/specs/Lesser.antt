-- The lesser of two values by a number, and the least of a list: the first where they are equal.
-- Assumes nothing.
use Rattle.std.specs.Prelude.{◌≡◌, refl, cond, List, [], ◌∷◌, ℕ, Option, None, Some}
use Rattle.std.proofs.Common.{sym, ap, ◌∙◌, arith}
use lib.Dec.{ltb}
use Rattle.std.specs.List.{fold, reduce}
use Rattle.std.specs.Ordering.{nat_cmp, min_by_ordering}
use Rattle.std.proofs.lemmas.Bool.Decides.{nat_tests}

abbrev pub lesser : {B : Type 0} → (B → ℕ) → B → B → B
lesser n p z = min_by_ordering (nat_cmp (n p) (n z)) p z

module _ {B : Type 0} (n : B → ℕ) where
  pub lesser_is : (x y : B) → lesser n x y ≡ cond (ltb (n y) (n x)) y x
  lesser_is x y = grind (arith, nat_tests)

  lesser_assoc : (x y z : B) → lesser n (lesser n x y) z ≡ lesser n x (lesser n y z)
  lesser_assoc x y z = grind (arith, nat_tests)

  -- x, or a lesser one behind it
  abbrev pub first_or : B → Option B → B
  first_or x None = x
  first_or x (Some y) = lesser n x y

  swap_in : (x y : B) (o : Option B) → first_or (lesser n x y) o ≡ lesser n x (first_or y o)
  swap_in x y None = refl
  swap_in x y (Some z) = lesser_assoc x y z

  fold_least : (x : B) (xs : List B) → fold (lesser n) x xs ≡ first_or x (reduce (lesser n) xs)
  fold_least x [] = refl
  fold_least x (y ∷ ys) =
      fold_least (lesser n x y) ys ∙ swap_in x y (reduce (lesser n) ys) ∙ ap (lesser n x) (sym (fold_least y ys))

  pub least_cons : (x : B) (xs : List B) → reduce (lesser n) (x ∷ xs) ≡ Some (first_or x (reduce (lesser n) xs))
  least_cons x xs = ap Some (fold_least x xs)
