-- The places of an area as chunks of it: how many, where each stands, and what is read of them.
-- Assumes nothing.
use Rattle.std.specs.Prelude.{◌≡◌, refl, Bool, true, false, cond, not, ◌&&◌, List, [], ◌∷◌, map, length, get_or, take, drop}
use Rattle.std.proofs.Common.{ap, sym, ◌∙◌, drop-drop, eqb, ltb-true, ltb-false}
use lib.Dec.{ltb}
use Rattle.std.proofs.lemmas.List.{get_or-map}
use Rattle.std.proofs.lemmas.List.Sums.{prefix_len-le-length}
use Prim.Native.Nat.{ℕ, zero, suc, ◌+◌, ◌*◌, ◌≤◌, ◌<◌}
use native.Mathlib.Omega.{arith}
use Rattle.std.specs.Simd.{first_chunks}
use Rattle.std.specs.List.{list_any, position, position_or_len}
use Rattle.leaf_fields.specs.Fields.{part, byte}
use Rattle.std.specs.Prelude.{Option, None, Some, MatchOption, ◌||◌}
use Rattle.messages.specs.declared.Ballot.{Ballot}
use Rattle.proposer_rules.specs.Rules.{is_ballot}
use Rattle.proposer_rules.specs.State.{Pending, listed}
use Rattle.proposer_place.specs.Area.{header_bytes, place_bytes, area_bytes, used_at, read_pending, read_place, read_places, ballots_of, sized}
use Rattle.proposer_area.specs.Places.{place_in, places_in, place_of, free_of}
use Rattle.proposer_area.specs.Turns.{sized_of, passes, used_passes}

pub length-chunks : (m k : ℕ) (xs : List ℕ) → length (first_chunks m k xs) ≡ k
length-chunks m zero xs = refl
length-chunks m (suc k) xs = ap suc (length-chunks m k (drop m xs))

chunks_read : (a : List ℕ) (at n : ℕ) → read_places a at n ≡ map read_place (first_chunks place_bytes n (drop at a))
unfolding read_places
chunks_read a at zero = refl
chunks_read a at (suc n) =
    ap (λ l. read_place (part a at place_bytes) ∷ l) (rw (drop-drop 976 at a) (chunks_read a (at + 976) n))

pub places_read : (a : List ℕ) (n : ℕ) → read_places a header_bytes n ≡ map read_place (places_in a n)
places_read a n = chunks_read a header_bytes n

-- of an area of that size
pub chunks_all : (a : List ℕ) (n : ℕ) (l : List (List ℕ)) → sized a n ≡ true → ((k : ℕ) → length a ≡ area_bytes k → l ≡ places_in a k) → (l ≡ places_in a n) × (length l ≡ n)
chunks_all a n l h all =
    let e = all n (sized_of a n h).bytes in
    (e, ap length e ∙ length-chunks 976 n (drop 80 a))

-- a test of chunks that is the test of a place
pub any_place : (f : Pending → Bool) (l : List (List ℕ)) → list_any (λ b. not (eqb (byte b used_at) 0) && f (read_pending b)) l ≡ list_any (passes f) (map read_place l)
any_place f [] = refl
any_place f (b ∷ l) = rw (used_passes f b, any_place f l)

-- ---- searches

pub listed_any : (b : Ballot) (l : List (Option Pending)) → list_any (passes (is_ballot b)) l ≡ listed b.0 (ballots_of l)
unfolding listed ballots_of
listed_any b [] = refl
listed_any b (None ∷ l) = listed_any b l
listed_any b (Some p ∷ l) = ap (λ r. is_ballot b p || r) (listed_any b l)

-- the first of n that passes, which is number k, or none
first_of : (k m n : ℕ) → m ≡ n → k ≤ n → MatchOption (cond (ltb k m) (Some k) None) (k ≡ n) (λ i. (i ≡ k) × (i < n))
first_of k m n e h = go (ltb k m) refl
  where
    go : (t : Bool) → ltb k m ≡ t → MatchOption (cond t (Some k) None) (k ≡ n) (λ i. (i ≡ k) × (i < n))
    go true et = (refl, omega (arith, ltb-true k m et))
    go false et = omega (arith, ltb-false k m et)

-- the lowest number of a list that is counted so
located : (test : List ℕ → Bool) (count : List (Option Pending) → ℕ) (a : List ℕ) (n : ℕ) (r : Option ℕ) → ((l : List (List ℕ)) → count (map read_place l) ≡ position_or_len test l) → r ≡ position test (places_in a n) → MatchOption r (count (read_places a header_bytes n) ≡ n) (λ i. (i ≡ count (read_places a header_bytes n)) × (i < n))
located test count a n r counts e =
    let same : position_or_len test (places_in a n) ≡ count (read_places a header_bytes n) = sym (ap count (places_read a n) ∙ counts (places_in a n)) in
    let many = length-chunks 976 n (drop 80 a) in
    let below = prefix_len-le-length (λ s. not (test s)) (places_in a n) in
    rw (e, ← same) (first_of (position_or_len test (places_in a n)) (length (places_in a n)) n many (omega arith))

turn : (t : Bool) (m : ℕ) → cond t 0 (suc m) ≡ cond (not t) (1 + m) 0
turn true m = refl
turn false m = omega arith

-- one more place in front, which passes or not
place_turn : (b : Ballot) (q : Option Pending) (l : List (Option Pending)) (t : Bool) (k : ℕ) → t ≡ passes (is_ballot b) q → place_of b l ≡ k → place_of b (q ∷ l) ≡ cond (not t) (1 + k) 0
unfolding place_of
place_turn b None l t k e h = rw e (omega arith)
place_turn b (Some p) l t k e h = rw (e, h) (turn (is_ballot b p) k)

place_first : (b : Ballot) (l : List (List ℕ)) → place_of b (map read_place l) ≡ position_or_len (λ s. not (eqb (byte s used_at) 0) && is_ballot b (read_pending s)) l
unfolding place_of
place_first b [] = refl
place_first b (s ∷ l) = place_turn b (read_place s) (map read_place l) (not (eqb (byte s used_at) 0) && is_ballot b (read_pending s)) (position_or_len (λ s. not (eqb (byte s used_at) 0) && is_ballot b (read_pending s)) l) (used_passes (is_ballot b) s) (place_first b l)

pub place_by : (b : Ballot) (a : List ℕ) (n : ℕ) (r : Option ℕ) → r ≡ position (λ s. not (eqb (byte s used_at) 0) && is_ballot b (read_pending s)) (places_in a n) → MatchOption r (place_of b (read_places a header_bytes n) ≡ n) (λ i. (i ≡ place_of b (read_places a header_bytes n)) × (i < n))
place_by b a n r e = located (λ s. not (eqb (byte s used_at) 0) && is_ballot b (read_pending s)) (place_of b) a n r (place_first b) e

free_turn : (s : List ℕ) (l : List (Option Pending)) (k : ℕ) → free_of l ≡ k → free_of (read_place s ∷ l) ≡ cond (not (eqb (byte s used_at) 0)) (1 + k) 0
unfolding free_of read_place
free_turn s l k h = go (eqb (byte s used_at) 0)
  where
    go : (z : Bool) → free_of (cond z None (Some (read_pending s)) ∷ l) ≡ cond (not z) (1 + k) 0
    go true = refl
    go false = omega arith

free_first : (l : List (List ℕ)) → free_of (map read_place l) ≡ position_or_len (λ s. eqb (byte s used_at) 0) l
unfolding free_of
free_first [] = refl
free_first (s ∷ l) = free_turn s (map read_place l) (position_or_len (λ s. eqb (byte s used_at) 0) l) (free_first l)

pub free_by : (a : List ℕ) (n : ℕ) (r : Option ℕ) → r ≡ position (λ s. eqb (byte s used_at) 0) (places_in a n) → MatchOption r (free_of (read_places a header_bytes n) ≡ n) (λ i. (i ≡ free_of (read_places a header_bytes n)) × (i < n))
free_by a n r e = located (λ s. eqb (byte s used_at) 0) free_of a n r free_first e

-- chunk i of an area's places is place i
chunk_at : (m k i : ℕ) (xs : List ℕ) → i < k → get_or (first_chunks m k xs) i [] ≡ take m (drop (m * i) xs)
chunk_at m zero i xs h = absurd (omega (arith, h))
chunk_at m (suc k) zero xs h =
    let e : m * 0 ≡ 0 = omega arith in
    rw e
chunk_at m (suc k) (suc i) xs h =
    let e : m + m * i ≡ m * suc i = grind arith in
    chunk_at m k i (drop m xs) (omega (arith, h)) ∙ ap (take m) (drop-drop (m * i) m xs ∙ ap (λ (j : ℕ). drop j xs) e)

pub place_chunk : (a : List ℕ) (n i : ℕ) → i < n → get_or (places_in a n) i [] ≡ place_in a i
place_chunk a n i h = chunk_at 976 n i (drop 80 a) h ∙ ap (take 976) (drop-drop (976 * i) 80 a)

-- so what is read there is what stands at place i
pub read_at : (a : List ℕ) (n i : ℕ) → i < n → get_or (read_places a header_bytes n) i None ≡ read_place (place_in a i)
read_at a n i h =
    ap (λ l. get_or l i None) (places_read a n)
    ∙ get_or-map read_place (places_in a n) i [] None (omega (arith, h, length-chunks 976 n (drop 80 a)))
    ∙ ap read_place (place_chunk a n i h)
