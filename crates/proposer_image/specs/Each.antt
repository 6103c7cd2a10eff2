-- The tests of the entries of a list and of the places of an area, as tests of every one of them.
-- Assumes nothing.
use Rattle.std.specs.Prelude.{◌≡◌, refl, Bool, true, false, not, cond, ◌&&◌, ◌||◌, List, [], ◌∷◌, eqb, map, take, drop, length}
use Rattle.std.proofs.Common.{ap, sym, ◌∙◌, drop-drop}
use Prim.Native.Nat.{ℕ, zero, suc, ◌+◌, ◌-◌}
use Rattle.std.specs.Prelude.{Option, None, Some}
use Rattle.std.proofs.lemmas.List.{take_rest}
use Rattle.std.specs.List.{list_all, enumerate_from}
use Rattle.std.specs.Simd.{first_chunks}
use Rattle.leaf_fields.specs.Fields.{from_le, part, byte}
use Rattle.proposer_place.specs.Rows.{numbers}
use Rattle.proposer_rules.specs.State.{Pending, listed}
use Rattle.proposer_place.specs.Area.{header_bytes, used_at, place_bytes, read_pending, read_place, ballots_of, distinct}
use Rattle.proposer_area.specs.Places.{places_in}
use Rattle.proposer_image.specs.Good.{is_wanted, each_listed, place_good, places_good}

-- ---- entries

pub each_entry : (l : List (List ℕ)) (others : List ℕ) (w : Bool) → list_all (λ e. is_wanted w (listed (from_le (part e 0 2)) others)) l ≡ each_listed w (numbers l) others
unfolding each_listed
each_entry [] others w = refl
each_entry (e ∷ l) others w = ap (λ r. is_wanted w (listed (from_le (part e 0 2)) others) && r) (each_entry l others w)

-- entry i of all stands nowhere behind it
apart_entries : (all : List (List ℕ)) (k : ℕ) (l : List (List ℕ)) → drop k all ≡ l → list_all (λ p. not (listed (from_le (part p.1 0 2)) (numbers (take (length all - (p.0 + 1)) (drop (p.0 + 1) all))))) (enumerate_from k l) ≡ distinct (numbers l)
unfolding distinct
apart_entries all k [] e = refl
apart_entries all k (x ∷ l) e =
    let behind : drop (k + 1) all ≡ l = sym (drop-drop 1 k all) ∙ ap (drop 1) e in
    let rest : take (length all - (k + 1)) (drop (k + 1) all) ≡ l = take_rest all (k + 1) ∙ behind in
    rw rest (ap (λ r. not (listed (from_le (part x 0 2)) (numbers l)) && r) (apart_entries all (k + 1) l behind))

pub distinct_entries : (l : List (List ℕ)) → list_all (λ p. not (listed (from_le (part p.1 0 2)) (numbers (take (length l - (p.0 + 1)) (drop (p.0 + 1) l))))) (enumerate_from 0 l) ≡ distinct (numbers l)
distinct_entries l = apart_entries l 0 l refl

-- ---- places

good_from : (c : ℕ) (a : List ℕ) (at n : ℕ) → list_all (place_good c) (first_chunks place_bytes n (drop at a)) ≡ places_good c a at n
unfolding places_good
good_from c a at zero = refl
good_from c a at (suc n) =
    ap (λ r. place_good c (part a at place_bytes) && r) (rw (drop-drop 976 at a) (good_from c a (at + 976) n))

pub places_good_all : (c : ℕ) (a : List ℕ) (n : ℕ) → list_all (place_good c) (places_in a n) ≡ places_good c a header_bytes n
places_good_all c a n = good_from c a header_bytes n

-- one more place in front, whose ballot stands nowhere behind it
turn_of : (b : List ℕ) (l : List (Option Pending)) → distinct (ballots_of (read_place b ∷ l)) ≡ ((eqb (byte b used_at) 0 || not (listed (read_pending b).ballot.0 (ballots_of l))) && distinct (ballots_of l))
unfolding distinct ballots_of read_place
turn_of b l = go (eqb (byte b used_at) 0)
  where
    go : (z : Bool) → distinct (ballots_of (cond z None (Some (read_pending b)) ∷ l)) ≡ ((z || not (listed (read_pending b).ballot.0 (ballots_of l))) && distinct (ballots_of l))
    go true = refl
    go false = refl

-- place i of all is free, or its ballot stands nowhere behind it
abbrev pub apart : List (List ℕ) → ℕ → List ℕ → Bool
apart all i b = eqb (byte b used_at) 0 || not (listed (read_pending b).ballot.0 (ballots_of (map read_place (take (length all - (i + 1)) (drop (i + 1) all)))))

apart_from : (all : List (List ℕ)) (k : ℕ) (l : List (List ℕ)) → drop k all ≡ l → list_all (λ p. apart all p.0 p.1) (enumerate_from k l) ≡ distinct (ballots_of (map read_place l))
unfolding distinct ballots_of
apart_from all k [] e = refl
apart_from all k (b ∷ l) e =
    let behind : drop (k + 1) all ≡ l = sym (drop-drop 1 k all) ∙ ap (drop 1) e in
    let rest : take (length all - (k + 1)) (drop (k + 1) all) ≡ l = take_rest all (k + 1) ∙ behind in
    rw rest
    (ap (λ r. (eqb (byte b used_at) 0 || not (listed (read_pending b).ballot.0 (ballots_of (map read_place l)))) && r) (apart_from all (k + 1) l behind) ∙ sym (turn_of b (map read_place l)))

pub apart_all : (all : List (List ℕ)) → list_all (λ p. apart all p.0 p.1) (enumerate_from 0 all) ≡ distinct (ballots_of (map read_place all))
apart_all all = apart_from all 0 all refl
