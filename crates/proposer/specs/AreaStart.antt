-- The start state: its image is an image, and it is read back as the start state.
-- Assumes nothing.
use Rattle.std.specs.Prelude.{◌≡◌, refl, true, List, [], ℕ, zero, suc, ◌^◌, ◌≤◌, ◌<◌, length, get_or}
use Rattle.std.proofs.Common.{ap, lit<}
use Rattle.messages.specs.Limits.{pending_most, list_fits}
use Rattle.proposer_rules.specs.Rules.{empty_places, start}
use Rattle.proposer_place.specs.Area.{area_image, read_area, distinct, places_fit, ballots_of, may_be_lent, is_image}
use Rattle.std.specs.Prelude.{None}
use Rattle.proposer_place.specs.AreaLaws.{ShortList, LawfulPlace, LawfulPlaces, LawfulState, read_written, image_is}

-- "It starts with counter 0, nothing pending and one given list as both lists"

length_empty : (n : ℕ) → length (empty_places n) ≡ n
unfolding empty_places
length_empty zero = refl
length_empty (suc n) = ap suc (length_empty n)

lawful_empty : (n : ℕ) → LawfulPlaces (empty_places n)
unfolding empty_places LawfulPlaces
lawful_empty zero = λ i. tt
lawful_empty (suc n) = λ i. elim i as (λ z. LawfulPlace (get_or (empty_places (suc n)) z None)) [ zero ↦ tt | suc j ↦ lawful_empty n j ]

pub lawful_start : (t : ℕ) (l : List ℕ) (n : ℕ) → t < 256 ^ 8 → ShortList l → LawfulState (start t l n) n
unfolding start
lawful_start t l n fits ok =
    record { counter_fits = lit< tt; timeout_fits = fits; accept = ok; propose = ok; full = length_empty n; each = lawful_empty n }

pub read_start : (t : ℕ) (l : List ℕ) (n : ℕ) → t < 256 ^ 8 → ShortList l → read_area (area_image (start t l n)) n ≡ start t l n
read_start t l n fits ok = read_written (start t l n) n (lawful_start t l n fits ok)

-- nothing is pending, so nothing is out of its limits
empty_fits : (c n : ℕ) → places_fit c (empty_places n) ≡ true
unfolding places_fit empty_places
empty_fits c zero = refl
empty_fits c (suc n) = empty_fits c n

empty_ballots : (n : ℕ) → ballots_of (empty_places n) ≡ []
unfolding ballots_of empty_places
empty_ballots zero = refl
empty_ballots (suc n) = empty_ballots n

pub lent_start : (t : ℕ) (l : List ℕ) (n : ℕ) → list_fits l ≡ true → may_be_lent (start t l n) ≡ true
unfolding may_be_lent start distinct
lent_start t l n fits = rw (fits, empty_fits 0 n, empty_ballots n)

pub image_start : (t : ℕ) (l : List ℕ) (n : ℕ) → t < 256 ^ 8 → ShortList l → list_fits l ≡ true → 1 ≤ n → n ≤ pending_most → is_image (area_image (start t l n)) n ≡ true
image_start t l n fits ok within some-places few-places =
    image_is (start t l n) n (lawful_start t l n fits ok) some-places few-places (lent_start t l n within)
