-- `leaf_fields::same` meets its contract: the comparison of two slices is the test by recursion.
-- Assumes nothing.
use mathlib.Core.Path.{◌≡◌, refl, ap, ◌∙◌}
use mathlib.Core.Bool.{◌&&◌}
use mathlib.Core.List.{List, [], ◌∷◌}
use Prim.Native.Nat.{ℕ}
use lib.Dec.{eqb}
use lib.Pointwise.{pointwise}
use Rattle.leaf_fields.specs.Fields.{same}
use Rattle.leaf_fields.proofs.same.Goals as goal

compared : (a b : List ℕ) → pointwise eqb a b ≡ same a b
unfolding same
compared [] [] = refl
compared [] (y ∷ b) = refl
compared (x ∷ a) [] = refl
compared (x ∷ a) (y ∷ b) = ap (λ r. eqb x y && r) (compared a b)

pub returns : goal.returns
returns c = c.eq.ensures ∙ compared c.args.a.now c.args.b.now
