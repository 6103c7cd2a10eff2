-- `proposer_image::is_image` meets its contract: the header, the places and the ballots are the parts of the test.
-- Assumes nothing.
use Rattle.std.proofs.Common.{◌≡◌, Bool, List, ℕ, ◌&&◌, length, map, sym, ap, ◌∙◌, true}
use Rattle.std.proofs.Common.{arith}
use Rattle.std.proofs.lemmas.Grind.{common_steps}
use Rattle.std.specs.List.{list_all}
use Rattle.leaf_fields.specs.Fields.{Bytes}
use Rattle.proposer_place.specs.Area.{area_bytes, sized, is_image, long_at, read_place, ballots_of, distinct}
use Rattle.proposer_area.specs.Places.{places_in}
use Rattle.proposer_area.specs.Chunks.{places_read}
use Rattle.proposer_area.specs.Turns.{sized_of}
use Rattle.proposer_image.specs.Good.{header_good, place_good}
use Rattle.proposer_image.specs.Each.{places_good_all}
use Rattle.proposer_image.specs.GoodLaws.{image_parts}
use Rattle.proposer_image.proofs.is_image.Goals as goal

-- the tests of all places are those of the image
by_places : (a : List ℕ) (l : List (List ℕ)) (r : Bool) → Bytes a → ((n : ℕ) → length a ≡ area_bytes n → l ≡ places_in a n) → r ≡ (header_good a && list_all (place_good (long_at a 0)) l && distinct (ballots_of (map read_place l))) → (n : ℕ) → sized a n ≡ true → r ≡ is_image a n
by_places a l r bytes all e n h =
    e
    ∙ ap (λ k. header_good a && list_all (place_good (long_at a 0)) k && distinct (ballots_of (map read_place k))) (all n (sized_of a n h).bytes)
    ∙ rw (places_good_all (long_at a 0) a n, ← places_read a n) (sym (image_parts a n bytes h))

pub returns-then-places_good : goal.returns-then-places_good
unfolding Bytes
returns-then-places_good c = by_places _ _ _ (λ i. (c.type_inv.area i).fits) c.places_in-places.ensures (grind (arith, common_steps))

pub returns-else-places_good : goal.returns-else-places_good
unfolding Bytes
returns-else-places_good c = by_places _ _ _ (λ i. (c.type_inv.area i).fits) c.places_in-places.ensures (grind (arith, common_steps))
