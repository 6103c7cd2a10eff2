-- `proposer_area::search::held` meets its contract: a test of each place.
-- Assumes nothing.
use Rattle.std.proofs.Common.{rules, tests, not, ◌&&◌, eqb, ◌∙◌}
use Rattle.std.proofs.lemmas.Iterator.{YieldsList-from_slice}
use Rattle.std.proofs.lemmas.Iterator.Search.{any_from_yields_List}
use Rattle.std.proofs.Common.{map}
use Rattle.leaf_fields.specs.Fields.{byte}
use Rattle.proposer_rules.specs.Rules.{is_ballot}
use Rattle.proposer_place.specs.Area.{read_pending, read_place}
use Rattle.proposer_area.specs.Chunks.{any_place, listed_any}
use Rattle.proposer_area.proofs.search.held.Goals as goal

pub returns : goal.returns
returns c =
    any_from_yields_List (λ b. not (eqb (byte b 0) 0) && is_ballot c.args.ballot (read_pending b)) _ _ c.any.result c.any.ensures.ran (YieldsList-from_slice c.args.places.now c.iter.ensures.rest) (λ x b q k. search (rules, tests))
    ∙ any_place (is_ballot c.args.ballot) c.args.places.now
    ∙ listed_any c.args.ballot (map read_place c.args.places.now)
