-- The test of refusal 2 in parts, as the code takes them: the header, each place, the ballots. specs/GoodLaws.antt shows that it is the test `is_image`.
-- Assumes nothing.
use Rattle.std.specs.Prelude.{◌≡◌, Bool, true, false, not, cond, ◌&&◌, List, [], ◌∷◌, ℕ, zero, suc, ◌+◌, ◌*◌, ◌≤◌, eqb, leb, length}
use Rattle.std.specs.Prelude.{Some}
use Rattle.leaf_fields.specs.Fields.{span, part, byte, all_zero, same}
use Rattle.messages.specs.Limits.{list_most, none_zero}
use Rattle.messages.specs.Answers.{entries}
use Rattle.proposer_rules.specs.State.{listed}
use Rattle.proposer_place.specs.declared.front.Front.{Front}
use Rattle.proposer_place.specs.Front.{front_of, Small}
use Rattle.proposer_place.specs.Area.{accept_count_at, propose_count_at, accept_list_at, propose_list_at, header_bytes, used_at, place_bytes, place_image, read_pending, promise_fits, sizes_fit, answers_fit}

-- the header: two lists within the limits, and zeros behind them
unfoldable pub header_good : List ℕ → Bool
header_good a =
    leb (byte a accept_count_at) list_most
    && leb (byte a propose_count_at) list_most
    && eqb (byte a 18) 0
    && eqb (byte a 19) 0
    && all_zero (span a (accept_list_at + 2 * byte a accept_count_at) propose_list_at)
    && all_zero (span a (propose_list_at + 2 * byte a propose_count_at) header_bytes)
    && none_zero (entries a accept_list_at (byte a accept_count_at))
    && none_zero (entries a propose_list_at (byte a propose_count_at))

-- a used place: what is read and written again is the same bytes, and the request may be lent under counter c
unfoldable pub used_good : ℕ → List ℕ → Bool
used_good c b =
    sizes_fit (read_pending b)
    && same b (place_image (Some (read_pending b)))
    && answers_fit (read_pending b)
    && promise_fits (read_pending b).promised (read_pending b).value
    && leb 1 (read_pending b).ballot.0
    && leb (read_pending b).ballot.0 c

-- a free place is all zeros
unfoldable pub place_good : ℕ → List ℕ → Bool
place_good c b = cond (eqb (byte b used_at) 0) (all_zero b) (used_good c b)

-- n places, from `at` on
unfoldable pub places_good : ℕ → List ℕ → ℕ → ℕ → Bool
places_good c a at zero = true
places_good c a at (suc n) = place_good c (part a at place_bytes) && places_good c a (at + place_bytes) n

-- the test has the wanted outcome
abbrev pub is_wanted : Bool → Bool → Bool
is_wanted true t = t
is_wanted false t = not t

-- each of the first stands in the second, or none of them does, as is wanted
unfoldable pub each_listed : Bool → List ℕ → List ℕ → Bool
each_listed w [] l = true
each_listed w (x ∷ xs) l = is_wanted w (listed x l) && each_listed w xs l

-- ---- for the functions below

-- a struct that was taken out of a place
pub record TakenFrom (b : List ℕ) (f : Front) : Type 0 where
  pub sized : length b ≡ place_bytes
  pub front : f ≡ front_of (read_pending b)
  pub small : Small f
  pub values : f.first_len + f.second_len ≤ 768
  pub promised : f.value_len ≤ 256
