-- `proposer_clock::expire` meets its contract. The loop's invariant: what is left to drop and to tell gives what the rules drop and tell.
-- Assumes nothing.
use mathlib.Core.Path.{◌≡◌, refl, sym, subst}
use Rattle.std.specs.Prelude.{None}
use mathlib.Core.List.{List, [], ◌∷◌}
use Prim.Native.Nat.{ℕ, ◌+◌, ◌*◌, ◌≤◌, ◌<◌}
use native.Mathlib.Numerals.{add-one}
use native.Mathlib.Omega.{arith}
use lib.ListN.{length}
use lib.Seq.{sets}
use Rattle.messages.specs.Answers.{rows_at, row_bytes, rows_bytes}
use Rattle.proposer_rules.specs.Rules.{moved, in_time, late_ones, rows_of}
use Rattle.proposer_place.specs.declared.front.Front.{Front}
use Rattle.proposer_place.specs.Front.{front_of}
use Rattle.proposer_place.specs.Area.{header_bytes, place_image, area_image, read_pending, read_places, read_area}
use Rattle.proposer_area.specs.Places.{place_at, place_in}
use Rattle.proposer_clock.specs.Late.{late_of}
use Rattle.proposer_area.specs.HeldLaws.{place_room, place_held}
use Rattle.proposer_clock.specs.TickLaws.{Expiring, Expired, expire_begins, expire_ends, expire_full, expire_goes_on}
use Rattle.proposer_clock.proofs.expire.Goals as goal

-- ---- the turns

one_more : (a w : List ℕ) (n t k : ℕ) (a' w' : List ℕ) (i : ℕ) (f : Front) (a₁ w₁ : List ℕ) → Expiring a w n t k a' w' → i ≡ late_of (read_area a' n) t (read_places a' header_bytes n) → i < n → f ≡ front_of (read_pending (place_in a' i)) → w₁ ≡ sets w' (rows_at + row_bytes * k) (rows_bytes (record { client = f.client; id = f.id } ∷ [])) → a₁ ≡ sets a' (place_at i) (place_image None) → Expiring a w n t (k + 1) a₁ w₁
one_more a w n t k a' w' i f a₁ w₁ here ei within ef ew ea = rw add-one (expire_goes_on a w n t k a' w' here i f a₁ w₁ ei within ef ew ea)

abbrev Dropped : (a w : List ℕ) (n t k : ℕ) (a' w' : List ℕ) → Type 0
Dropped a w n t k a' w' = (k ≡ length (late_ones (read_area a n) t (read_area a n).places)) × (a' ≡ area_image (moved (read_area a n) (read_area a n).counter (in_time (read_area a n) t (read_area a n).places))) × (w' ≡ sets w rows_at (rows_bytes (rows_of (late_ones (read_area a n) t (read_area a n).places))))

dropped : (a w : List ℕ) (n t k : ℕ) (a' w' : List ℕ) → Expired a w n t k a' w' → Dropped a w n t k a' w'
dropped a w n t k a' w' done = (done.told, done.area, done.rows)

none_late : (a w : List ℕ) (n t k : ℕ) (a' w' : List ℕ) (i : ℕ) → Expiring a w n t k a' w' → i ≡ late_of (read_area a' n) t (read_places a' header_bytes n) → i ≡ n → Dropped a w n t k a' w'
none_late a w n t k a' w' i here ei e = dropped a w n t k a' w' (expire_ends a w n t k a' w' here i ei e)

all_told : (a w : List ℕ) (n t k : ℕ) (a' w' : List ℕ) → Expiring a w n t k a' w' → k ≤ n → n ≤ k → Dropped a w n t k a' w'
all_told a w n t k a' w' here most least = dropped a w n t k a' w' (expire_full a w n t k a' w' here (omega (arith, most, least)))

-- ---- the area of a turn has as many places

none_late_here : (a w : List ℕ) (n n' t k : ℕ) (a' w' : List ℕ) → n' ≡ n → Expiring a w n t k a' w' → late_of (read_area a' n') t (read_area a' n').places ≡ n' → Dropped a w n t k a' w'
unfolding read_area
none_late_here a w n n' t k a' w' en here e =
    none_late a w n t k a' w' n here (subst (λ (m : ℕ). m ≡ late_of (read_area a' m) t (read_places a' header_bytes m)) en (sym e)) refl

one_more_here : (a w : List ℕ) (n n' t k : ℕ) (a' w' : List ℕ) (i : ℕ) (f : Front) (a₁ w₁ : List ℕ) → n' ≡ n → Expiring a w n t k a' w' → i ≡ late_of (read_area a' n') t (read_area a' n').places → i < n' → f ≡ front_of (read_pending (place_in a' i)) → w₁ ≡ sets w' (rows_at + row_bytes * k) (rows_bytes (record { client = f.client; id = f.id } ∷ [])) → a₁ ≡ sets a' (place_at i) (place_image None) → Expiring a w n t (k + 1) a₁ w₁
unfolding read_area
one_more_here a w n n' t k a' w' i f a₁ w₁ en here ei within ef ew ea =
    one_more a w n t k a' w' i f a₁ w₁ here
    (subst (λ (m : ℕ). i ≡ late_of (read_area a' m) t (read_places a' header_bytes m)) en ei)
    (subst (λ (m : ℕ). i < m) en within) ef ew ea

pub loop-k-init : goal.loop-k-init
loop-k-init c = (expire_begins _ _ _ _ c.args.area.now.held c.requires, refl, refl)

pub returns-in_default : goal.returns-in_default
returns-in_default c =
    let d = none_late_here _ _ _ _ _ _ _ _ c.loop-k.invariant.2 c.loop-k.invariant.0 c.in_default.ensures in
    (d.0, record { image = d.1; lent = c.loop-k.invariant.1; places = c.loop-k.invariant.2 }, d.2)

pub drop_place-requires : goal.drop_place-requires
drop_place-requires c = place_room _ _ _ c.loop-k.area.held.sized c.in-Some.ensures.1

pub invariant_of-area : goal.invariant_of-area
invariant_of-area c =
    record { held = place_held _ _ _ None _ c.loop-k.area.held c.in-Some.ensures.1 tt c.drop_place.ensures }

pub loop-k-preserved : goal.loop-k-preserved
loop-k-preserved c =
    (one_more_here _ _ _ _ _ _ _ _ _ _ _ _ c.loop-k.invariant.2 c.loop-k.invariant.0 c.in-Some.ensures.0 c.in-Some.ensures.1 c.take_place-f.ensures.0 c.put_row.ensures c.drop_place.ensures, c.loop-k.invariant.1, c.loop-k.invariant.2)

pub returns : goal.returns
returns c =
    let d = all_told _ _ _ _ _ _ _ c.loop-k.invariant.0 c.loop-k.auto.k-end c.loop-k-test.false in
    (omega (arith, d.0, c.loop-k.auto.k-end, c.loop-k-test.false, c.loop-k.invariant.2), record { image = d.1; lent = c.loop-k.invariant.1; places = c.loop-k.invariant.2 }, d.2)
