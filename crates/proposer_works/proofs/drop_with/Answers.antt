-- `proposer_works::drop_with` meets its contract: the place is made free, the counter put back, and the client told.
-- Assumes nothing.
use Rattle.std.proofs.Common.{arith, refl}
use Rattle.std.specs.Prelude.{None}
use Rattle.proposer_area.specs.Held.{Held}
use Rattle.proposer_area.specs.HeldLaws.{place_held, counter_held}
use Rattle.proposer_works.specs.Dropped.{dropped, dropped_told}
use Rattle.proposer_works.specs.Room.{held_room, held_header}
use borrow.Author.Rules.{rules}
use Rattle.proposer_works.proofs.drop_with.Goals as goal
use Rattle.proposer_works.proofs.drop_with.Goals.{After-drop_place}

dropped_held : (c : After-drop_place) → Held c.drop_place.new.area c.args.area.now.places
dropped_held c = place_held _ _ _ None _ c.args.area.now.held c.requires.within tt c.drop_place.ensures

pub take_place-f-requires : goal.take_place-f-requires
take_place-f-requires c = c.requires.within

pub drop_place-requires : goal.drop_place-requires
drop_place-requires c = held_room _ _ _ c.args.area.now.held c.requires

pub invariant_of-area : goal.invariant_of-area
invariant_of-area c =
    record { held = dropped_held (goal.at.invariant_of-area c).After-drop_place }

pub put_counter-requires : goal.put_counter-requires
put_counter-requires c = omega (arith, held_header _ _ (dropped_held (goal.at.put_counter-requires c).After-drop_place))

pub invariant_of-area-2 : goal.invariant_of-area-2
invariant_of-area-2 c =
    record { held = counter_held _ _ c.args.counter _ (dropped_held (goal.at.invariant_of-area-2 c).After-drop_place) (search rules) c.put_counter.ensures }

pub returns : goal.returns
returns c = (
  search dropped_told,
  record {
    image = dropped _ _ _ _ _ _ c.args.area.now.held c.requires c.drop_place.ensures c.put_counter.ensures;
    lent = refl;
    places = refl;
  },
)
