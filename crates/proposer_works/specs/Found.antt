-- The place that a search for a ballot has found.
-- Assumes nothing.
use Rattle.std.specs.Prelude.{◌≡◌, ℕ, ◌<◌}
use Rattle.messages.specs.declared.Ballot.{Ballot}
use Rattle.proposer_place.specs.declared.front.Front.{Front}
use Rattle.proposer_place.specs.Front.{front_of}
use Rattle.proposer_area.specs.declared.area.Area.{Area}
use Rattle.proposer_area.specs.Places.{place_of}
use Rattle.proposer_area.specs.State.{state, pending}

-- it is that of the request at the ballot, whose front is f
pub record Found (a : Area) (i : ℕ) (ballot : Ballot) (f : Front) : Type 0 where
  pub place : i ≡ place_of ballot (state a).places
  pub within : i < a.places
  pub front : f ≡ front_of (pending a i)
