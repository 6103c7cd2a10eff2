-- `proposer_acceptance::settle` meets its contract: what it stores has room, and the dropped place and the told value are the rules'.
-- Assumes nothing.
use Rattle.std.proofs.Common.{refl, arith}
use Rattle.std.specs.Prelude.{None}
use Rattle.proposer_area.specs.HeldLaws.{place_held}
use Rattle.proposer_works.specs.Lent.{new_short}
use Rattle.proposer_works.specs.Room.{held_room}
use Rattle.proposer_acceptance.specs.AcceptanceLaws.{request_settled}
use Rattle.proposer_acceptance.proofs.settle.Goals as goal

pub copy-requires : goal.copy-requires
copy-requires c =
    rw (c.new_value-value.ensures, c.change-change.ensures, c.request_at-request.ensures) (omega (arith, c.requires.0, new_short _ _ _ c.args.area.now.held c.requires.1))

pub drop_place-requires : goal.drop_place-requires
drop_place-requires c = held_room _ _ _ c.args.area.now.held c.requires.1

pub invariant_of-area : goal.invariant_of-area
invariant_of-area c =
    record { held = place_held _ _ _ None _ c.args.area.now.held c.requires.1.within tt c.drop_place.ensures }

pub returns : goal.returns
returns c =
    record {
      worked =
          request_settled _ _ _ _ _ c.args.area.now.held c.requires.1 (rw c.request_at-request.ensures at c.request_at-request.result.taken) _ _ _ _ (rw (c.change-change.ensures, c.request_at-request.ensures) at c.response-told.ensures)
          (rw (c.change-change.ensures, c.request_at-request.ensures) at c.new_value-value.ensures) c.copy.ensures c.drop_place.ensures;
      lent = refl;
      places = refl;
    }
