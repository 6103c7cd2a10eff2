-- `messages::limits::none_zero` meets its contract: what `all` says of the entries is the test by recursion.
-- Assumes nothing.
use mathlib.Core.Path.{◌≡◌, ◌∙◌, refl}
use mathlib.Core.Bool.{not, ◌&&◌}
use mathlib.Core.List.{List}
use Prim.Native.Nat.{ℕ}
use Rattle.std.specs.List.{list_all}
use Rattle.std.proofs.Common.{eqb}
use Rattle.std.proofs.lemmas.Iterator.{YieldsList-from_slice}
use Rattle.std.proofs.lemmas.Iterator.Search.{all_from_yields_List}
use Rattle.std.proofs.lemmas.List.Recursion.{same_from_clauses}
use borrow.Author.Rules.{rules}
use borrow.Author.Tests.{tests}
use Rattle.messages.specs.Limits.{none_zero}
use Rattle.messages.proofs.limits.none_zero.Goals as goal

each : (l : List ℕ) → list_all (λ a. not (eqb a 0)) l ≡ none_zero l
unfolding none_zero
each l = same_from_clauses (list_all (λ a. not (eqb a 0))) none_zero (λ a r. not (eqb a 0) && r) refl (λ _ _. refl) (λ _ _. refl) l

pub returns : goal.returns
returns c =
    all_from_yields_List (λ a. not (eqb a 0)) _ _ _ c.all.ensures.ran (YieldsList-from_slice c.args.list.now cc) (λ a b q k. search (rules, tests))
    ∙ each c.args.list.now
