-- `proposer_area::search::lowest_free` meets its contract: the first free chunk.
-- Assumes nothing.
use Rattle.std.proofs.Common.{rules, tests, ◌≡◌, eqb, ◌∙◌}
use Rattle.std.proofs.lemmas.Iterator.{YieldsList-from_slice}
use Rattle.std.proofs.lemmas.Iterator.Search.{position_from_yields_List}
use Rattle.leaf_fields.specs.Fields.{byte}
use Rattle.proposer_place.specs.Area.{read_area}
use Rattle.proposer_area.specs.Places.{places_in}
use Rattle.proposer_area.specs.Chunks.{chunks_all, free_by}
use Rattle.proposer_area.proofs.search.lowest_free.Goals as goal

pub returns : goal.returns
unfolding read_area
returns c =
    let f = chunks_all _ _ _ c.args.area.now.held.sized c.places_in.ensures in
    let all : c.iter.result.rest.now ≡ places_in c.args.area.now.bytes.now c.args.area.now.places = c.iter.ensures.rest ∙ f.0 in
    free_by _ _ _ (position_from_yields_List (λ b. eqb (byte b 0) 0) _ _ c.position.result c.position.ensures.ran (YieldsList-from_slice (places_in c.args.area.now.bytes.now c.args.area.now.places) all) (λ x b q k. search (rules, tests)))
