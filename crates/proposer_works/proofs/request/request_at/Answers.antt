-- `proposer_works::request::request_at` meets its contract: the place's bytes are chunk i of the places.
-- Assumes nothing.
use Rattle.std.proofs.Common.{ap, arith, ◌≡◌, sym, subst, length}
use Rattle.std.specs.Prelude.{get_or, []}
use Rattle.proposer_place.specs.Area.{read_pending}
use Rattle.proposer_place.specs.Front.{Used}
use Rattle.proposer_area.specs.Places.{place_in, places_in}
use Rattle.proposer_area.specs.Turns.{sized_of}
use Rattle.proposer_area.specs.Chunks.{chunks_all, place_chunk}
use Rattle.proposer_works.specs.Room.{held_used}
use Rattle.proposer_works.proofs.request.request_at.Goals as goal
use Rattle.proposer_works.proofs.request.request_at.Goals.{After-places_in}

places_at : (c : After-places_in) → (c.places_in.result.now ≡ places_in c.args.area.now.bytes.now c.args.area.now.places) × (length c.places_in.result.now ≡ c.args.area.now.places)
places_at c =
    chunks_all _ _ _ c.args.area.now.held.sized (rw c.bytes.ensures at c.places_in.ensures)

place_here : (c : After-places_in) → get_or c.places_in.result.now c.args.i [] ≡ place_in c.args.area.now.bytes.now c.args.i
place_here c = rw (places_at c).0 (place_chunk _ _ _ c.requires.within)

pub places_in-requires : goal.places_in-requires
places_in-requires c = rw c.bytes.ensures (omega (arith, sized_of _ _ c.args.area.now.held.sized))

pub offset_bounds-places_in-i : goal.offset_bounds-places_in-i
offset_bounds-places_in-i c = omega (arith, sized_of _ _ c.args.area.now.held.sized, c.requires.within)

pub bounds-places_in-i : goal.bounds-places_in-i
bounds-places_in-i c = rw (places_at c).1 c.requires.within

pub invariant_of-result : goal.invariant_of-result
invariant_of-result c =
    record {
      used = subst Used (sym (place_here (goal.at.invariant_of-result c).After-places_in)) (held_used _ _ _ c.args.area.now.held c.requires);
      taken = c.take.ensures.0;
    }

pub returns : goal.returns
returns c = ap read_pending (place_here (goal.at.returns c).After-places_in)
