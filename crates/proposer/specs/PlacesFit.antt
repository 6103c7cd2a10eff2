-- Answers and places that fit a state that may be lent still fit it after each change that a message or a tick makes, and pending ballots stay distinct.
-- Assumes nothing.
use Rattle.std.specs.Prelude.{◌≡◌, refl, Bool, true, false, not, cond, ◌&&◌, List, [], ◌∷◌, ◌++◌, ℕ, ◌≤◌, ◌<◌, eqb, leb}
use Rattle.std.proofs.Common.{sym, ap, ◌∙◌, arith, eqb-true, eq-eqb, ne_eqb, leb-true, le-leb}
use Rattle.std.proofs.lemmas.Bool.{false≢true, not-true}
use Rattle.std.specs.Prelude.{Option, None, Some}
use Rattle.leaf_fields.specs.Laws.{and_true}
use Rattle.messages.specs.declared.Ballot.{Ballot}
use Rattle.proposer_rules.specs.State.{Pending, Proposer, listed}
use Rattle.proposer_rules.specs.Rules.{is_ballot, replace_at, take_place, late, in_time}
use Rattle.proposer_place.specs.Area.{distinct, all_listed, promise_fits, sizes_fit, answers_fit, pending_fits, places_fit, ballots_of}
use Rattle.proposer_image.specs.Good.{each_listed}
use Rattle.proposer_works.specs.Answerers.{or_false}
use Rattle.proposer_image.specs.Lists.{all_listed_append, distinct_append}

-- ---- lists of numbers

eqb_turn : (x y : ℕ) → eqb x y ≡ false → eqb y x ≡ false
eqb_turn x y h = ne_eqb y x (λ e. absurd (false≢true (sym h ∙ eq-eqb x y (sym e))))

-- none of a list stands in the list of one number that it lacks
none_of_one : (x : ℕ) (l : List ℕ) → listed x l ≡ false → each_listed false l (x ∷ []) ≡ true
unfolding each_listed listed
none_of_one x [] h = refl
none_of_one x (y ∷ l) h =
    let parts = or_false (eqb y x) (listed x l) h in
    rw (eqb_turn y x parts.0, none_of_one x l parts.1)

none_append : (l m k : List ℕ) → each_listed false (l ++ m) k ≡ (each_listed false l k && each_listed false m k)
unfolding each_listed
none_append [] m k = refl
none_append (x ∷ l) m k = go (not (listed x k)) (none_append l m k)
  where
    go : (t : Bool) → each_listed false (l ++ m) k ≡ (each_listed false l k && each_listed false m k) → (t && each_listed false (l ++ m) k) ≡ (t && each_listed false l k && each_listed false m k)
    go true e = e
    go false e = refl

listed_last : (x y : ℕ) (l : List ℕ) → listed y l ≡ false → eqb x y ≡ false → listed y (l ++ (x ∷ [])) ≡ false
unfolding listed
listed_last x y [] h e = rw e
listed_last x y (z ∷ l) h e =
    let parts = or_false (eqb z y) (listed y l) h in
    rw (parts.0, listed_last x y l parts.1 e)

-- and none stands in a longer list
none_longer : (x : ℕ) (l k : List ℕ) → listed x l ≡ false → each_listed false l k ≡ true → each_listed false l (k ++ (x ∷ [])) ≡ true
unfolding each_listed listed
none_longer x [] k h n = refl
none_longer x (y ∷ l) k h n =
    let parts = or_false (eqb y x) (listed x l) h in
    let apart = and_true (not (listed y k)) (each_listed false l k) n in
    rw (listed_last x y k (not-true _ apart.0) (eqb_turn y x parts.0), none_longer x l k parts.1 apart.1)

-- ---- one more answer

module _ (yeses noes waited : List ℕ) (x : ℕ) (fits : (all_listed (yeses ++ noes) waited && distinct (yeses ++ noes)) ≡ true) (fresh-yes : listed x yeses ≡ false) (fresh-no : listed x noes ≡ false) (there : listed x waited ≡ true) where
  all_there : (all_listed yeses waited ≡ true) × (all_listed noes waited ≡ true)
  all_there =
      and_true (all_listed yeses waited) (all_listed noes waited) (sym (all_listed_append yeses noes waited) ∙ (and_true (all_listed (yeses ++ noes) waited) (distinct (yeses ++ noes)) fits).0)

  all_apart : (distinct yeses ≡ true) × (distinct noes ≡ true) × (each_listed false yeses noes ≡ true)
  all_apart =
      let whole = sym (distinct_append yeses noes) ∙ (and_true (all_listed (yeses ++ noes) waited) (distinct (yeses ++ noes)) fits).1 in
      let front = and_true (distinct yeses && distinct noes) (each_listed false yeses noes) whole in
      let both = and_true (distinct yeses) (distinct noes) front.0 in
      (both.0, both.1, front.1)

  one_there : all_listed (x ∷ []) waited ≡ true
  unfolding all_listed
  one_there = rw there

  longer_apart : (l : List ℕ) → distinct l ≡ true → listed x l ≡ false → distinct (l ++ (x ∷ [])) ≡ true
  unfolding distinct listed
  longer_apart l d fresh = rw (distinct_append l (x ∷ []), d, none_of_one x l fresh)

  one_apart : each_listed false (x ∷ []) noes ≡ true
  unfolding each_listed
  one_apart = rw fresh-no

  pub yes_fits : (all_listed ((yeses ++ (x ∷ [])) ++ noes) waited && distinct ((yeses ++ (x ∷ [])) ++ noes)) ≡ true
  yes_fits =
      rw (
        all_listed_append (yeses ++ (x ∷ [])) noes waited,
        all_listed_append yeses (x ∷ []) waited,
        all_there.0,
        all_there.1,
        one_there,
        distinct_append (yeses ++ (x ∷ [])) noes,
        longer_apart yeses all_apart.0 fresh-yes,
        all_apart.1,
        none_append yeses (x ∷ []) noes,
        all_apart.2,
        one_apart,
      )

  pub no_fits : (all_listed (yeses ++ (noes ++ (x ∷ []))) waited && distinct (yeses ++ (noes ++ (x ∷ [])))) ≡ true
  no_fits =
      rw (
        all_listed_append yeses (noes ++ (x ∷ [])) waited,
        all_listed_append noes (x ∷ []) waited,
        all_there.0,
        all_there.1,
        one_there,
        distinct_append yeses (noes ++ (x ∷ [])),
        all_apart.0,
        longer_apart noes all_apart.1 fresh-no,
        none_longer x yeses noes fresh-yes all_apart.2,
      )

-- ---- places

-- a request that fits fits under a higher counter
fits_higher : (c c' : ℕ) (p : Pending) → c ≤ c' → pending_fits c p ≡ true → pending_fits c' p ≡ true
unfolding pending_fits
fits_higher c c' p h fits =
    let front = sizes_fit p && answers_fit p && promise_fits p.promised p.value && leb 1 p.ballot.0 in
    let parts = and_true front (leb p.ballot.0 c) fits in
    rw (parts.0, le-leb p.ballot.0 c' (omega (arith, h, leb-true p.ballot.0 c parts.1)))

pub places_higher : (c c' : ℕ) (l : List (Option Pending)) → c ≤ c' → places_fit c l ≡ true → places_fit c' l ≡ true
unfolding places_fit
places_higher c c' [] h fits = refl
places_higher c c' (None ∷ l) h fits = places_higher c c' l h fits
places_higher c c' (Some p ∷ l) h fits =
    let parts = and_true (pending_fits c p) (places_fit c l) fits in
    rw (fits_higher c c' p h parts.0, places_higher c c' l h parts.1)

-- what a place may hold
abbrev pub place_fits : ℕ → Option Pending → Bool
place_fits c None = true
place_fits c (Some p) = pending_fits c p

places_cons : (c : ℕ) (q : Option Pending) (l : List (Option Pending)) → place_fits c q ≡ true → places_fit c l ≡ true → places_fit c (q ∷ l) ≡ true
unfolding places_fit
places_cons c None l h fits = fits
places_cons c (Some p) l h fits = rw (h, fits)

pub places_replaced : (c : ℕ) (b : Ballot) (q : Option Pending) (l : List (Option Pending)) → place_fits c q ≡ true → places_fit c l ≡ true → places_fit c (replace_at b q l) ≡ true
unfolding places_fit replace_at
places_replaced c b q [] hq fits = refl
places_replaced c b q (None ∷ l) hq fits = places_replaced c b q l hq fits
places_replaced c b q (Some p ∷ l) hq fits =
    let parts = and_true (pending_fits c p) (places_fit c l) fits in
    go (is_ballot b p) (places_cons c q l hq parts.1) (places_cons c (Some p) (replace_at b q l) parts.0 (places_replaced c b q l hq parts.1))
  where
    go : (t : Bool) → places_fit c (q ∷ l) ≡ true → places_fit c (Some p ∷ replace_at b q l) ≡ true → places_fit c (cond t (q ∷ l) (Some p ∷ replace_at b q l)) ≡ true
    go true h h' = h
    go false h h' = h'

pub places_taken : (c : ℕ) (p : Pending) (l : List (Option Pending)) → pending_fits c p ≡ true → places_fit c l ≡ true → places_fit c (take_place p l) ≡ true
unfolding places_fit take_place
places_taken c p [] hp fits = refl
places_taken c p (None ∷ l) hp fits = rw (hp, fits)
places_taken c p (Some q ∷ l) hp fits =
    let parts = and_true (pending_fits c q) (places_fit c l) fits in
    rw (parts.0, places_taken c p l hp parts.1)

-- ---- their ballots

-- no ballot is above the counter
pub ballots_low : (c x : ℕ) (l : List (Option Pending)) → places_fit c l ≡ true → c < x → listed x (ballots_of l) ≡ false
unfolding places_fit ballots_of listed pending_fits
ballots_low c x [] fits h = refl
ballots_low c x (None ∷ l) fits h = ballots_low c x l fits h
ballots_low c x (Some p ∷ l) fits h =
    let parts = and_true (pending_fits c p) (places_fit c l) fits in
    let front = sizes_fit p && answers_fit p && promise_fits p.promised p.value && leb 1 p.ballot.0 in
    let low = leb-true p.ballot.0 c (and_true front (leb p.ballot.0 c) parts.0).1 in
    rw (ne_eqb p.ballot.0 x (λ e. omega (arith, low, h, e)), ballots_low c x l parts.1 h)

-- a request with the same ballot in its place
pub ballots_kept : (b : Ballot) (p : Pending) (l : List (Option Pending)) → p.ballot ≡ b → ballots_of (replace_at b (Some p) l) ≡ ballots_of l
unfolding ballots_of replace_at
ballots_kept b p [] e = refl
ballots_kept b p (None ∷ l) e = ballots_kept b p l e
ballots_kept b p (Some q ∷ l) e = go (eqb q.ballot.0 b.0) (eqb-true q.ballot.0 b.0) (ballots_kept b p l e)
  where
    go : (t : Bool) → (t ≡ true → q.ballot.0 ≡ b.0) → ballots_of (replace_at b (Some p) l) ≡ ballots_of l → ballots_of (cond t (Some p ∷ l) (Some q ∷ replace_at b (Some p) l)) ≡ q.ballot.0 ∷ ballots_of l
    go true same rest = ap (λ (x : ℕ). x ∷ ballots_of l) (ap (λ (x : Ballot). x.0) e ∙ sym (same refl))
    go false same rest = ap (λ (r : List ℕ). q.ballot.0 ∷ r) rest

-- a request dropped
not_listed_dropped : (x : ℕ) (b : Ballot) (l : List (Option Pending)) → listed x (ballots_of l) ≡ false → listed x (ballots_of (replace_at b None l)) ≡ false
unfolding ballots_of replace_at listed
not_listed_dropped x b [] h = refl
not_listed_dropped x b (None ∷ l) h = not_listed_dropped x b l h
not_listed_dropped x b (Some q ∷ l) h =
    let parts = or_false (eqb q.ballot.0 x) (listed x (ballots_of l)) h in
    go (is_ballot b q) parts.1 (rw (parts.0, not_listed_dropped x b l parts.1))
  where
    go : (t : Bool) → listed x (ballots_of l) ≡ false → listed x (ballots_of (Some q ∷ replace_at b None l)) ≡ false → listed x (ballots_of (cond t (None ∷ l) (Some q ∷ replace_at b None l))) ≡ false
    go true hl hr = hl
    go false hl hr = hr

pub distinct_dropped : (b : Ballot) (l : List (Option Pending)) → distinct (ballots_of l) ≡ true → distinct (ballots_of (replace_at b None l)) ≡ true
unfolding ballots_of replace_at distinct
distinct_dropped b [] d = refl
distinct_dropped b (None ∷ l) d = distinct_dropped b l d
distinct_dropped b (Some q ∷ l) d =
    let parts = and_true (not (listed q.ballot.0 (ballots_of l))) (distinct (ballots_of l)) d in
    go (is_ballot b q) parts.1 (rw (not_listed_dropped q.ballot.0 b l (not-true _ parts.0), distinct_dropped b l parts.1))
  where
    go : (t : Bool) → distinct (ballots_of l) ≡ true → distinct (ballots_of (Some q ∷ replace_at b None l)) ≡ true → distinct (ballots_of (cond t (None ∷ l) (Some q ∷ replace_at b None l))) ≡ true
    go true hl hr = hl
    go false hl hr = hr

-- a request at a ballot that no other has
not_listed_fresh : (x : ℕ) (b : Ballot) (p : Pending) (l : List (Option Pending)) → listed x (ballots_of l) ≡ false → eqb p.ballot.0 x ≡ false → listed x (ballots_of (replace_at b (Some p) l)) ≡ false
unfolding ballots_of replace_at listed
not_listed_fresh x b p [] h ne = refl
not_listed_fresh x b p (None ∷ l) h ne = not_listed_fresh x b p l h ne
not_listed_fresh x b p (Some q ∷ l) h ne =
    let parts = or_false (eqb q.ballot.0 x) (listed x (ballots_of l)) h in
    go (is_ballot b q) (rw (ne, parts.1)) (rw (parts.0, not_listed_fresh x b p l parts.1 ne))
  where
    go : (t : Bool) → listed x (ballots_of (Some p ∷ l)) ≡ false → listed x (ballots_of (Some q ∷ replace_at b (Some p) l)) ≡ false → listed x (ballots_of (cond t (Some p ∷ l) (Some q ∷ replace_at b (Some p) l))) ≡ false
    go true hl hr = hl
    go false hl hr = hr

pub distinct_fresh : (b : Ballot) (p : Pending) (l : List (Option Pending)) → distinct (ballots_of l) ≡ true → listed p.ballot.0 (ballots_of l) ≡ false → distinct (ballots_of (replace_at b (Some p) l)) ≡ true
unfolding ballots_of replace_at distinct listed
distinct_fresh b p [] d fresh = refl
distinct_fresh b p (None ∷ l) d fresh = distinct_fresh b p l d fresh
distinct_fresh b p (Some q ∷ l) d fresh =
    let parts = and_true (not (listed q.ballot.0 (ballots_of l))) (distinct (ballots_of l)) d in
    let new = or_false (eqb q.ballot.0 p.ballot.0) (listed p.ballot.0 (ballots_of l)) fresh in
    go (is_ballot b q) (rw (new.1, parts.1))
    (rw (not_listed_fresh q.ballot.0 b p l (not-true _ parts.0) (eqb_turn q.ballot.0 p.ballot.0 new.0), distinct_fresh b p l parts.1 new.1))
  where
    go : (t : Bool) → distinct (ballots_of (Some p ∷ l)) ≡ true → distinct (ballots_of (Some q ∷ replace_at b (Some p) l)) ≡ true → distinct (ballots_of (cond t (Some p ∷ l) (Some q ∷ replace_at b (Some p) l))) ≡ true
    go true hl hr = hl
    go false hl hr = hr

not_listed_taken : (x : ℕ) (p : Pending) (l : List (Option Pending)) → listed x (ballots_of l) ≡ false → eqb p.ballot.0 x ≡ false → listed x (ballots_of (take_place p l)) ≡ false
unfolding ballots_of take_place listed
not_listed_taken x p [] h ne = refl
not_listed_taken x p (None ∷ l) h ne = rw (ne, h)
not_listed_taken x p (Some q ∷ l) h ne =
    let parts = or_false (eqb q.ballot.0 x) (listed x (ballots_of l)) h in
    rw (parts.0, not_listed_taken x p l parts.1 ne)

pub distinct_taken : (p : Pending) (l : List (Option Pending)) → distinct (ballots_of l) ≡ true → listed p.ballot.0 (ballots_of l) ≡ false → distinct (ballots_of (take_place p l)) ≡ true
unfolding ballots_of take_place distinct listed
distinct_taken p [] d fresh = refl
distinct_taken p (None ∷ l) d fresh = rw (fresh, d)
distinct_taken p (Some q ∷ l) d fresh =
    let parts = and_true (not (listed q.ballot.0 (ballots_of l))) (distinct (ballots_of l)) d in
    let new = or_false (eqb q.ballot.0 p.ballot.0) (listed p.ballot.0 (ballots_of l)) fresh in
    rw (not_listed_taken q.ballot.0 p l (not-true _ parts.0) (eqb_turn q.ballot.0 p.ballot.0 new.0), distinct_taken p l parts.1 new.1)

-- ---- late requests dropped

pub places_in_time : (s : Proposer) (t c : ℕ) (l : List (Option Pending)) → places_fit c l ≡ true → places_fit c (in_time s t l) ≡ true
unfolding places_fit in_time
places_in_time s t c [] fits = refl
places_in_time s t c (None ∷ l) fits = places_in_time s t c l fits
places_in_time s t c (Some p ∷ l) fits =
    let parts = and_true (pending_fits c p) (places_fit c l) fits in
    go (late s t p) (places_in_time s t c l parts.1) parts.0
  where
    go : (z : Bool) → places_fit c (in_time s t l) ≡ true → pending_fits c p ≡ true → places_fit c (cond z None (Some p) ∷ in_time s t l) ≡ true
    go true h hp = h
    go false h hp = rw (hp, h)

not_listed_in_time : (s : Proposer) (t x : ℕ) (l : List (Option Pending)) → listed x (ballots_of l) ≡ false → listed x (ballots_of (in_time s t l)) ≡ false
unfolding ballots_of in_time listed
not_listed_in_time s t x [] h = refl
not_listed_in_time s t x (None ∷ l) h = not_listed_in_time s t x l h
not_listed_in_time s t x (Some p ∷ l) h =
    let parts = or_false (eqb p.ballot.0 x) (listed x (ballots_of l)) h in
    go (late s t p) (not_listed_in_time s t x l parts.1) parts.0
  where
    go : (z : Bool) → listed x (ballots_of (in_time s t l)) ≡ false → eqb p.ballot.0 x ≡ false → listed x (ballots_of (cond z None (Some p) ∷ in_time s t l)) ≡ false
    go true hl he = hl
    go false hl he = rw (he, hl)

pub distinct-in_time : (s : Proposer) (t : ℕ) (l : List (Option Pending)) → distinct (ballots_of l) ≡ true → distinct (ballots_of (in_time s t l)) ≡ true
unfolding ballots_of in_time distinct
distinct-in_time s t [] d = refl
distinct-in_time s t (None ∷ l) d = distinct-in_time s t l d
distinct-in_time s t (Some p ∷ l) d =
    let parts = and_true (not (listed p.ballot.0 (ballots_of l))) (distinct (ballots_of l)) d in
    go (late s t p) (distinct-in_time s t l parts.1) (not_listed_in_time s t p.ballot.0 l (not-true _ parts.0))
  where
    go : (z : Bool) → distinct (ballots_of (in_time s t l)) ≡ true → listed p.ballot.0 (ballots_of (in_time s t l)) ≡ false → distinct (ballots_of (cond z None (Some p) ∷ in_time s t l)) ≡ true
    go true hd hl = hd
    go false hd hl = rw (hl, hd)
