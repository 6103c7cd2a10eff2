-- The places of a lent area: where each stands, and which of them a request or a free place is.
-- Assumes nothing.
use Rattle.std.specs.Simd.{first_chunks}
use Rattle.std.specs.Prelude.{drop, cond, List, [], ◌∷◌, ℕ, suc, ◌+◌, ◌*◌}
use Rattle.std.specs.Prelude.{Option, None, Some}
use Rattle.leaf_fields.specs.Fields.{part, byte}
use Rattle.messages.specs.declared.Ballot.{Ballot}
use Rattle.proposer_rules.specs.State.{Pending}
use Rattle.proposer_rules.specs.Rules.{is_ballot}
use Rattle.proposer_place.specs.Area.{counter_at, timeout_at, accept_count_at, propose_count_at, header_bytes, place_bytes, long_at}
use Rattle.proposer_area.specs.declared.Header.{Header}

-- ---- where they stand

abbrev pub place_at : ℕ → ℕ
place_at i = header_bytes + place_bytes * i

abbrev pub place_in : List ℕ → ℕ → List ℕ
place_in a i = part a (place_at i) place_bytes

-- the n places, each as its bytes
abbrev pub places_in : List ℕ → ℕ → List (List ℕ)
places_in a n = first_chunks place_bytes n (drop header_bytes a)

-- the header as a struct: the numbers, and how many entries the lists have
abbrev pub header_in : List ℕ → Header
header_in a = record { counter = long_at a counter_at; timeout = long_at a timeout_at; accept = byte a accept_count_at; propose = byte a propose_count_at }

-- ---- which of them, or their number if none

-- the request at a ballot
unfoldable pub place_of : Ballot → List (Option Pending) → ℕ
place_of b [] = 0
place_of b (None ∷ l) = suc (place_of b l)
place_of b (Some p ∷ l) = cond (is_ballot b p) 0 (suc (place_of b l))

-- the lowest free place
unfoldable pub free_of : List (Option Pending) → ℕ
free_of [] = 0
free_of (None ∷ l) = 0
free_of (Some p ∷ l) = suc (free_of l)
