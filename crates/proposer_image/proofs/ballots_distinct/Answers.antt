-- `proposer_image::ballots_distinct` meets its contract: a test of each place against those behind it.
-- Assumes nothing.
use Rattle.std.proofs.Common.{rules, tests, List, ℕ, ◌∙◌}
use Rattle.std.proofs.lemmas.Iterator.{YieldsList-from_slice}
use Rattle.std.proofs.lemmas.Iterator.Consumers.{YieldsList-from_enumerate, YieldsList-at}
use Rattle.std.proofs.lemmas.Iterator.Search.{all_from_yields_List}
use Rattle.proposer_image.specs.Each.{apart, apart_all}
use Rattle.proposer_image.proofs.ballots_distinct.Goals as goal

pub returns : goal.returns
returns c =
    let l = c.args.places.now in
    all_from_yields_List (λ (p : ℕ × List ℕ). apart l p.0 p.1) _ _ c.all.result c.all.ensures.ran (YieldsList-from_enumerate (YieldsList-at c.enumerate.ensures.source (YieldsList-from_slice l c.iter.ensures.rest)) c.enumerate.ensures.count) (λ x b q k. search (rules, tests))
    ∙ apart_all l
