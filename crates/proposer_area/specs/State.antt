-- The state that a lent area is the image of, a request that it holds, and the area with another state.
-- Assumes nothing.
use Rattle.std.specs.Prelude.{◌≡◌, ℕ}
use Rattle.proposer_rules.specs.State.{Pending, Proposer}
use Rattle.proposer_place.specs.Area.{area_image, read_area, read_pending}
use Rattle.proposer_area.specs.declared.area.Area.{Area}
use Rattle.proposer_area.specs.Places.{place_in}
use Rattle.proposer_area.specs.Held.{Pends}

abbrev pub state : Area → Proposer
state a = read_area a.bytes.now a.places

-- what place i holds, where it holds a request
abbrev pub pending : Area → ℕ → Pending
pending a i = read_pending (place_in a.bytes.now i)

-- place i holds a request
abbrev pub HasPending : Area → ℕ → Type 0
HasPending a i = Pends a.bytes.now a.places i

-- the same lent bytes, as the image of another state
pub record Becomes (a b : Area) (s : Proposer) : Type 0 where
  pub image : b.bytes.now ≡ area_image s
  pub lent : b.bytes.ghost_name ≡ a.bytes.ghost_name
  pub places : b.places ≡ a.places
