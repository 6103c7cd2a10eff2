-- `proposer_area::places::take_place` meets its contract: chunk i of the places is place i.
-- Assumes nothing.
use Rattle.std.proofs.Common.{rules, ◌≡◌, List, [], ℕ, length, get_or, ◌∙◌, ap}
use Rattle.proposer_place.specs.Area.{read_pending}
use Rattle.proposer_place.specs.Front.{front_of}
use Rattle.proposer_area.specs.Places.{place_in, places_in}
use Rattle.proposer_area.specs.Chunks.{chunks_all, place_chunk}
use Rattle.proposer_area.proofs.places.take_place.Goals as goal
use Rattle.proposer_area.proofs.places.take_place.Goals.{After-places_in}

places_at : (c : After-places_in) → (c.places_in.result.now ≡ places_in c.args.area.now.bytes.now c.args.area.now.places) × (length c.places_in.result.now ≡ c.args.area.now.places)
places_at c = chunks_all _ _ _ c.args.area.now.held.sized c.places_in.ensures

pub bounds-places_in-i : goal.bounds-places_in-i
bounds-places_in-i c = rw (places_at c).1 c.requires

place_here : (c : After-places_in) → get_or c.places_in.result.now c.args.i [] ≡ place_in c.args.area.now.bytes.now c.args.i
place_here c = rw (places_at c).0 (place_chunk _ _ _ c.requires)

pub returns : goal.returns
returns c =
    (c.take.ensures.0 ∙ ap (λ (b : List ℕ). front_of (read_pending b)) (place_here (goal.at.returns c).After-places_in), search rules, search rules, search rules)
