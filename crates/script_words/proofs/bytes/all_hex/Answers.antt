-- `script_words::bytes::all_hex` meets its contract: it is `all` of the bytes.
-- Assumes nothing.
use Rattle.std.proofs.Common.{rules, tests, ◌≡◌, ◌∙◌, refl, ℕ, ◌&&◌, List}
use Rattle.std.specs.List.{list_all}
use Rattle.std.proofs.lemmas.Iterator.{YieldsList-from_slice}
use Rattle.std.proofs.lemmas.Iterator.Search.{all_from_yields_List}
use Rattle.std.proofs.lemmas.List.Recursion.{same_from_clauses}
use Rattle.script_words.specs.Text.{is_hex, all_hex}
use Rattle.script_words.proofs.bytes.all_hex.Goals as goal

each : (l : List ℕ) → list_all is_hex l ≡ all_hex l
unfolding all_hex
each l = same_from_clauses (list_all is_hex) all_hex (λ x r. is_hex x && r) refl (λ _ _. refl) (λ _ _. refl) l

pub returns : goal.returns
returns c =
    all_from_yields_List is_hex _ _ _ c.all.ensures.ran (YieldsList-from_slice c.args.s.now cc) (λ x b q k. search (rules, tests))
    ∙ each c.args.s.now
