-- `proposer_area::places::second_phase` meets its contract: what is lent is the place.
-- Assumes nothing.
use Rattle.std.proofs.Common.{rules, List, ℕ, Some}
use Rattle.proposer_place.specs.Rows.{numbers}
use Rattle.proposer_rules.specs.State.{second_phase}
use Rattle.proposer_place.specs.Area.{place_image, read_pending}
use Rattle.proposer_place.specs.Front.{Used}
use Rattle.proposer_place.specs.PlaceRows.{length-second}
use Rattle.proposer_area.specs.Places.{place_in}
use Rattle.std.proofs.lemmas.List.{length-map}
use Rattle.leaf_fields.specs.Fields.{from_le, part}
use Rattle.proposer_area.specs.PlaceLent.{used_room, lent_has, place_worked}
use Rattle.proposer_area.proofs.places.second_phase.Goals as goal

pub second_phase-requires : goal.second_phase-requires
second_phase-requires c = (lent_has _ _ _ _ _ _ c.start.ensures c.split_at_mut-rest.ensures.front c.split_at_mut-rest.ensures.back c.in-Some.ensures.cases Used c.requires.0, search rules)

pub returns : goal.returns
returns c =
    place_worked _ _ _ _ _ _ c.start.ensures c.split_at_mut-rest.ensures.front c.split_at_mut-rest.ensures.back c.in-Some.ensures.cases (λ (b : List ℕ). place_image (Some (second_phase (numbers c.args.list.now) (read_pending b)))) c.second_phase.new.b (used_room c.args.area.now c.args.i c.requires.0) (length-second (place_in c.args.area.now c.args.i) c.requires.0 (numbers c.args.list.now) (rw (length-map c.args.list.now (λ (e : List ℕ). from_le (part e 0 2))) c.requires.1)) c.second_phase.ensures
