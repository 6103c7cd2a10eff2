-- The search for the late request with the lowest ballot, among the places as chunks of bytes.
-- Assumes nothing.
use Rattle.std.specs.Prelude.{◌≡◌, refl, Bool, true, false, not, cond, ◌&&◌, List, [], ◌∷◌, map, filter, eqb, length, Option, None, Some, MatchOption}
use Rattle.std.proofs.Common.{sym, ap, ◌∙◌, arith, subst}
use Rattle.std.proofs.Math.Bool.{and-true}
use Prim.Native.Nat.{ℕ, suc, ◌+◌, ◌-◌, ◌<◌}
use lib.Dec.{ltb}
use Rattle.std.specs.List.{reduce, enumerate_from}
use Rattle.std.specs.Option.{option_map}
use Rattle.leaf_fields.specs.Fields.{byte}
use Rattle.messages.specs.declared.Ballot.{Ballot}
use Rattle.messages.specs.Ballots.{above}
use Rattle.proposer_rules.specs.State.{Pending, Proposer}
use Rattle.proposer_rules.specs.Rules.{late}
use Rattle.proposer_place.specs.Area.{header_bytes, used_at, read_pending, read_place, read_places, read_area}
use Rattle.proposer_area.specs.Places.{places_in}
use Rattle.proposer_area.specs.Turns.{passes, used_passes, used_place, length_read}
use Rattle.proposer_area.specs.Chunks.{places_read}
use Rattle.proposer_clock.specs.Late.{none_below, late_of}
use Rattle.proposer_clock.specs.LateLaws.{lower_decides, higher_drops}
use Rattle.proposer_clock.specs.Lesser.{lesser, lesser_is, first_or, least_cons}

-- the ballot of a chunk that stands with its number
abbrev pub ballot_in : ℕ × List ℕ → ℕ
ballot_in p = (read_pending p.1).ballot.0

-- what the late one with the lowest ballot says of the places from number k on
abbrev Told : Proposer → ℕ → ℕ → List (Option Pending) → Option (ℕ × List ℕ) → Type 0
Told s t k l None = (late_of s t l ≡ length l) × ((b : Ballot) → none_below s t b l ≡ true)
Told s t k l (Some p) = (p.0 ≡ k + late_of s t l) × (late_of s t l < length l) × ((b : Ballot) → none_below s t b l ≡ not (above b (read_pending p.1).ballot))

module _ (s : Proposer) (t k : ℕ) (l : List (Option Pending)) where
  passed : (q : Option Pending) (o : Option (ℕ × List ℕ)) → passes (late s t) q ≡ false → Told s t (k + 1) l o → Told s t k (q ∷ l) o
  unfolding late_of none_below
  passed None None h told = (ap suc told.0, told.1)
  passed None (Some p) h told = (omega (arith, told.0), omega (arith, told.1), told.2)
  passed (Some q) None h told = (rw h (ap suc told.0), λ b. rw h (told.1 b))
  passed (Some q) (Some p) h told = (rw h (omega (arith, told.0)), rw h (omega (arith, told.1)), λ b. rw h (told.2 b))

  module _ (b : List ℕ) (here : late s t (read_pending b) ≡ true) where
    taken : (o : Option (ℕ × List ℕ)) → Told s t (k + 1) l o → Told s t k (Some (read_pending b) ∷ l) (Some (first_or ballot_in (k, b) o))
    unfolding late_of none_below
    taken None told = (rw (here, told.1 (read_pending b).ballot) (omega arith), rw (here, told.1 (read_pending b).ballot) (omega arith), λ c. rw (here, told.1 c) (and-true (not (above c (read_pending b).ballot))))
    taken (Some p) told = go (above (read_pending b).ballot (read_pending p.1).ballot) refl
      where
        q : Ballot
        q = (read_pending b).ballot

        low : Ballot
        low = (read_pending p.1).ballot

        go : (m : Bool) → above (read_pending b).ballot (read_pending p.1).ballot ≡ m → Told s t k (Some (read_pending b) ∷ l) (Some (lesser ballot_in (k, b) p))
        go true em =
            let pick : lesser ballot_in (k, b) p ≡ p = lesser_is ballot_in (k, b) p ∙ rw em in
            subst (λ w. Told s t k (Some (read_pending b) ∷ l) (Some w)) (sym pick)
            (rw (here, told.2 (read_pending b).ballot, em) (omega (arith, told.0)), rw (here, told.2 (read_pending b).ballot, em) (omega (arith, told.1)), λ c. rw (here, told.2 c) (higher_drops c (read_pending b).ballot (read_pending p.1).ballot em))
        go false em =
            let pick : lesser ballot_in (k, b) p ≡ (k, b) = lesser_is ballot_in (k, b) p ∙ rw em in
            subst (λ w. Told s t k (Some (read_pending b) ∷ l) (Some w)) (sym pick)
            (rw (here, told.2 (read_pending b).ballot, em) (omega arith), rw (here, told.2 (read_pending b).ballot, em) (omega arith), λ c. rw (here, told.2 c) (lower_decides c (read_pending b).ballot (read_pending p.1).ballot em))

-- the late ones of chunks that are numbered from k on
abbrev late_from : Proposer → ℕ → ℕ → List (List ℕ) → List (ℕ × List ℕ)
late_from s t k l = filter (λ p. not (eqb (byte p.1 used_at) 0) && late s t (read_pending p.1)) (enumerate_from k l)

-- and of them the one with the lowest ballot
told : (s : Proposer) (t k : ℕ) (l : List (List ℕ)) → Told s t k (map read_place l) (reduce (lesser ballot_in) (late_from s t k l))
unfolding late_of none_below
told s t k [] = (refl, λ b. refl)
told s t k (b ∷ l) = go (not (eqb (byte b used_at) 0) && late s t (read_pending b)) refl (told s t (k + 1) l)
  where
    go : (m : Bool) → (not (eqb (byte b used_at) 0) && late s t (read_pending b)) ≡ m → Told s t (k + 1) (map read_place l) (reduce (lesser ballot_in) (late_from s t (k + 1) l)) → Told s t k (read_place b ∷ map read_place l) (reduce (lesser ballot_in) (cond m ((k, b) ∷ late_from s t (k + 1) l) (late_from s t (k + 1) l)))
    go false em rest = passed s t k (map read_place l) (read_place b) (reduce (lesser ballot_in) (late_from s t (k + 1) l)) (sym (used_passes (late s t) b) ∙ em) rest
    go true em rest =
        let used = used_place (late s t) b (sym (used_passes (late s t) b) ∙ em) in
        rw used.0
        (subst (λ w. Told s t k (Some (read_pending b) ∷ map read_place l) w) (sym (least_cons ballot_in (k, b) (late_from s t (k + 1) l)))
        (taken s t k (map read_place l) b used.1 (reduce (lesser ballot_in) (late_from s t (k + 1) l)) rest))

-- its number, if there is one
numbered : (s : Proposer) (t n : ℕ) (l : List (Option Pending)) (o : Option (ℕ × List ℕ)) → length l ≡ n → Told s t 0 l o → MatchOption (option_map (λ p. p.0) o) (late_of s t l ≡ n) (λ i. (i ≡ late_of s t l) × (i < n))
numbered s t n l None many h = h.0 ∙ many
numbered s t n l (Some p) many h = (omega (arith, h.0), omega (arith, h.0, h.1, many))

pub late_by : (a : List ℕ) (n t timeout : ℕ) (r : Option ℕ) (w : Option (ℕ × List ℕ)) → timeout ≡ (read_area a n).timeout → w ≡ reduce (lesser ballot_in) (filter (λ p. not (eqb (byte p.1 used_at) 0) && ltb timeout (t - (read_pending p.1).received_at)) (enumerate_from 0 (places_in a n))) → r ≡ option_map (λ p. p.0) w → MatchOption r (late_of (read_area a n) t (read_places a header_bytes n) ≡ n) (λ i. (i ≡ late_of (read_area a n) t (read_places a header_bytes n)) × (i < n))
late_by a n t timeout r w et ew er =
    let s = read_area a n in
    let same = ew ∙ ap (λ m. reduce (lesser ballot_in) (filter (λ (p : ℕ × List ℕ). not (eqb (byte p.1 used_at) 0) && ltb m (t - (read_pending p.1).received_at)) (enumerate_from 0 (places_in a n)))) et in
    let h = told s t 0 (places_in a n) in
    let many : length (map read_place (places_in a n)) ≡ n = ap length (sym (places_read a n)) ∙ length_read a header_bytes n in
    rw (er, same, places_read a n) (numbered s t n (map read_place (places_in a n)) (reduce (lesser ballot_in) (late_from s t 0 (places_in a n))) many h)
