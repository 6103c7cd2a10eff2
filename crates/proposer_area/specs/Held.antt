-- An area that is the image of a state that fits its fields, and a place of it that holds a pending request.
-- Assumes nothing.
use Rattle.std.specs.Prelude.{◌≡◌, true, List, ℕ, ◌<◌, get_or}
use Rattle.std.specs.Prelude.{None, Some}
use Rattle.proposer_place.specs.Area.{area_image, read_area, read_pending, sized}
use Rattle.proposer_place.specs.AreaLaws.{LawfulState}
use Rattle.proposer_area.specs.Places.{place_in}

pub record Held (a : List ℕ) (n : ℕ) : Type 0 where
  pub sized : sized a n ≡ true
  pub image : a ≡ area_image (read_area a n)
  pub lawful : LawfulState (read_area a n) n

pub record Pends (a : List ℕ) (n i : ℕ) : Type 0 where
  pub within : i < n
  pub used : get_or (read_area a n).places i None ≡ Some (read_pending (place_in a i))
