-- `proposer_area::places::fill_place` meets its contract: what is lent is the place, which is of zeros.
-- Assumes nothing.
use Rattle.std.proofs.Common.{rules, ◌∙◌, ap, length}
use Rattle.std.proofs.lemmas.List.Edits.{sets}
use Rattle.proposer_place.specs.Area.{place_image}
use Rattle.proposer_area.specs.Places.{place_at}
use Rattle.proposer_place.specs.PlaceRows.{length-rows}
use Rattle.proposer_area.specs.PlaceLent.{free_room, lent_is, put_place}
use Rattle.proposer_area.proofs.places.fill_place.Goals as goal

pub write-requires : goal.write-requires
unfolding place_image
write-requires c =
    (lent_is _ _ _ _ _ _ c.start.ensures c.split_at_mut-rest.ensures.front c.split_at_mut-rest.ensures.back c.in-Some.ensures.cases ∙ c.requires.0, search rules, search rules)

pub returns : goal.returns
returns c =
    put_place _ _ _ _ _ _ c.start.ensures c.split_at_mut-rest.ensures.front c.split_at_mut-rest.ensures.back c.in-Some.ensures.cases c.write.new.b (free_room c.args.area.now c.args.i c.requires.0) (ap length c.write.ensures ∙ length-rows c.args.f c.args.rows c.requires.2)
    ∙ ap (sets c.args.area.now (place_at c.args.i)) c.write.ensures
