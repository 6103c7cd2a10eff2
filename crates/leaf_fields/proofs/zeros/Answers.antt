-- `leaf_fields::zeros` meets its contract: what `all` says of the bytes is the test by recursion.
-- Assumes nothing.
use mathlib.Core.Path.{◌≡◌, ◌∙◌, refl}
use mathlib.Core.Bool.{◌&&◌}
use mathlib.Core.List.{List}
use Prim.Native.Nat.{ℕ}
use Rattle.std.specs.List.{list_all}
use Rattle.std.proofs.Common.{eqb}
use Rattle.std.proofs.lemmas.Iterator.{YieldsList-from_slice}
use Rattle.std.proofs.lemmas.Iterator.Search.{all_from_yields_List}
use Rattle.std.proofs.lemmas.List.Recursion.{same_from_clauses}
use borrow.Author.Rules.{rules}
use borrow.Author.Tests.{tests}
use Rattle.leaf_fields.specs.Fields.{all_zero}
use Rattle.leaf_fields.proofs.zeros.Goals as goal

each : (l : List ℕ) → list_all (λ b. eqb b 0) l ≡ all_zero l
unfolding all_zero
each l = same_from_clauses (list_all (λ b. eqb b 0)) all_zero (λ b r. eqb b 0 && r) refl (λ _ _. refl) (λ _ _. refl) l

pub returns : goal.returns
returns c =
    all_from_yields_List (λ b. eqb b 0) _ _ _ c.all.ensures.ran (YieldsList-from_slice c.args.s.now cc) (λ x b q k. search (rules, tests))
    ∙ each c.args.s.now
