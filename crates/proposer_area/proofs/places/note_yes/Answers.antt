-- `proposer_area::places::note_yes` meets its contract: what is lent is the place.
-- Assumes nothing.
use Rattle.std.proofs.Common.{List, ℕ, Some, length, ◌<◌}
use Rattle.proposer_rules.specs.State.{with_yes}
use Rattle.proposer_place.specs.Area.{place_image, read_pending}
use Rattle.proposer_place.specs.Front.{Used}
use Rattle.proposer_place.specs.PlaceRows.{length-yes}
use Rattle.proposer_area.specs.Places.{place_in}
use Rattle.proposer_area.specs.PlaceLent.{used_room, lent_has, place_worked}
use Rattle.proposer_area.proofs.places.note_yes.Goals as goal

pub note_yes-requires : goal.note_yes-requires
note_yes-requires c = (lent_has _ _ _ _ _ _ c.start.ensures c.split_at_mut-rest.ensures.front c.split_at_mut-rest.ensures.back c.in-Some.ensures.cases Used c.requires.0, lent_has _ _ _ _ _ _ c.start.ensures c.split_at_mut-rest.ensures.front c.split_at_mut-rest.ensures.back c.in-Some.ensures.cases (λ (b : List ℕ). length (read_pending b).acks_from < 15) c.requires.1)

pub returns : goal.returns
returns c =
    place_worked _ _ _ _ _ _ c.start.ensures c.split_at_mut-rest.ensures.front c.split_at_mut-rest.ensures.back c.in-Some.ensures.cases (λ (b : List ℕ). place_image (Some (with_yes (read_pending b) c.args.from (read_pending b).promised (read_pending b).value))) c.note_yes.new.b (used_room c.args.area.now c.args.i c.requires.0) (length-yes (place_in c.args.area.now c.args.i) c.requires.0 c.args.from (read_pending (place_in c.args.area.now c.args.i)).promised (read_pending (place_in c.args.area.now c.args.i)).value c.requires.1 c.requires.0.lawful.promised.short) c.note_yes.ensures
