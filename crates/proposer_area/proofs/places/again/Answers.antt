-- `proposer_area::places::again` meets its contract: what is lent is the place.
-- Assumes nothing.
use Rattle.std.proofs.Common.{rules, List, ℕ, Some}
use Rattle.proposer_place.specs.Rows.{numbers}
use Rattle.proposer_rules.specs.State.{asked_again}
use Rattle.proposer_place.specs.Area.{place_image, read_pending}
use Rattle.proposer_place.specs.Front.{Used}
use Rattle.proposer_place.specs.PlaceRows.{length-again}
use Rattle.proposer_area.specs.Places.{place_in}
use Rattle.std.proofs.lemmas.List.{length-map}
use Rattle.leaf_fields.specs.Fields.{from_le, part}
use Rattle.proposer_area.specs.PlaceLent.{used_room, lent_has, place_worked}
use Rattle.proposer_area.proofs.places.again.Goals as goal

pub again-requires : goal.again-requires
again-requires c = (lent_has _ _ _ _ _ _ c.start.ensures c.split_at_mut-rest.ensures.front c.split_at_mut-rest.ensures.back c.in-Some.ensures.cases Used c.requires.0, search rules)

pub returns : goal.returns
returns c =
    place_worked _ _ _ _ _ _ c.start.ensures c.split_at_mut-rest.ensures.front c.split_at_mut-rest.ensures.back c.in-Some.ensures.cases (λ (b : List ℕ). place_image (Some (asked_again c.args.ballot (numbers c.args.list.now) (read_pending b)))) c.again.new.b (used_room c.args.area.now c.args.i c.requires.0) (length-again (place_in c.args.area.now c.args.i) c.requires.0 c.args.ballot (numbers c.args.list.now) (rw (length-map c.args.list.now (λ (e : List ℕ). from_le (part e 0 2))) c.requires.1)) c.again.ensures
