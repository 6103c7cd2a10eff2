-- The size of an area, and what a place's test says of it.
-- Assumes nothing.
use Rattle.std.specs.Prelude.{◌≡◌, refl, Bool, true, false, not, cond, ◌&&◌, List, eqb, leb, length}
use Rattle.std.proofs.Common.{ap, eqb-true, leb-true}
use Rattle.std.proofs.lemmas.Bool.{false≢true}
use Rattle.std.specs.Prelude.{Option, None, Some}
use Prim.Native.Nat.{ℕ, zero, suc, ◌+◌, ◌≤◌}
use Rattle.leaf_fields.specs.Fields.{byte}
use Rattle.leaf_fields.specs.Laws.{and_true}
use Rattle.messages.specs.Limits.{pending_most}
use Rattle.proposer_rules.specs.State.{Pending}
use Rattle.proposer_place.specs.Area.{used_at, place_bytes, area_bytes, read_pending, read_place, read_places, sized}

-- ---- places

-- what a size that is not refused says
pub record Sized (a : List ℕ) (n : ℕ) : Type 0 where
  pub least : 1 ≤ n
  pub most : n ≤ pending_most
  pub bytes : length a ≡ area_bytes n

pub sized_of : (a : List ℕ) (n : ℕ) → sized a n ≡ true → Sized a n
unfolding sized
sized_of a n h =
    let to_bytes = and_true (leb 1 n && leb n pending_most) (eqb (length a) (area_bytes n)) h in
    let toMost = and_true (leb 1 n) (leb n pending_most) to_bytes.0 in
    record { least = leb-true 1 n toMost.0; most = leb-true n pending_most toMost.1; bytes = eqb-true (length a) (area_bytes n) to_bytes.1 }

-- as many are read as there are
pub length_read : (a : List ℕ) (at n : ℕ) → length (read_places a at n) ≡ n
unfolding read_places
length_read a at zero = refl
length_read a at (suc n) = ap suc (length_read a (at + place_bytes) n)

-- ---- tests of a place

-- a test of a used place, which no free one passes
abbrev pub passes : (Pending → Bool) → Option Pending → Bool
passes f None = false
passes f (Some p) = f p

pub used_passes : (f : Pending → Bool) (b : List ℕ) → (not (eqb (byte b used_at) 0) && f (read_pending b)) ≡ passes f (read_place b)
unfolding read_place
used_passes f b = go (eqb (byte b used_at) 0)
  where
    go : (z : Bool) → (not z && f (read_pending b)) ≡ passes f (cond z None (Some (read_pending b)))
    go true = refl
    go false = refl

-- a place that passes is used
pub used_place : (f : Pending → Bool) (b : List ℕ) → passes f (read_place b) ≡ true → (read_place b ≡ Some (read_pending b)) × (f (read_pending b) ≡ true)
unfolding read_place
used_place f b h = go (eqb (byte b used_at) 0) h
  where
    go : (z : Bool) → passes f (cond z None (Some (read_pending b))) ≡ true → (cond z None (Some (read_pending b)) ≡ Some (read_pending b)) × (f (read_pending b) ≡ true)
    go true h' = absurd (false≢true h')
    go false h' = (refl, h')
