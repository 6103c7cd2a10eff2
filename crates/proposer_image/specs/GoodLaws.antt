-- The test of refusal 2 is its parts: an area is an image where its header and each of its places are good and no ballot stands twice.
-- Assumes nothing.
use Rattle.std.specs.Prelude.{◌≡◌, refl, Bool, false, cond, ◌&&◌, ℕ, zero, suc, ◌+◌, ◌-◌, ◌*◌, ◌≤◌, eqb, leb, take, drop, replicate}
use Rattle.std.proofs.Math.Path.{sym, ap}
use Rattle.std.proofs.Common.{◌∙◌, arith, eqb-true, eq-eqb, leb-true, le-leb, length-take, take-append-drop, drop-cons, drop-drop, take-add}
use Rattle.std.proofs.Math.Bool.{true}
use mathlib.Core.List.{List, [], ◌∷◌, ◌++◌, append_assoc}
use Rattle.std.specs.Prelude.{Option, None, Some}
use Rattle.std.proofs.Math.ListN.{length, length-drop}
use Rattle.std.proofs.lemmas.List.{length-replicate}
use Rattle.leaf_fields.specs.Fields.{to_le, part, span, byte, all_zero, same, Bytes, padded}
use Rattle.leaf_fields.specs.Laws.{to_le-from_le, length-part, bytes_part, and_true, zeros_are, zeros_zero, same-true, same_refl}
use Rattle.messages.specs.Limits.{list_most, none_zero, list_fits}
use Rattle.messages.specs.Answers.{entries, entry_bytes}
use Rattle.proposer_rules.specs.State.{Pending}
use Rattle.proposer_place.specs.Area.{counter_at, accept_count_at, propose_count_at, accept_list_at, propose_list_at, header_bytes, list_bytes, used_at, place_bytes, list_row, place_image, places_image, header_front, area_image, long_at, read_pending, read_place, read_places, read_area, promise_fits, sizes_fit, answers_fit, pending_fits, places_fit, distinct, ballots_of, may_be_lent, sized, is_image}
use Rattle.proposer_place.specs.AreaRows.{length_entries, length_list, row_there, row_behind, behind_content}
use Rattle.proposer_place.specs.AreaLaws.{LawfulPlaces, LawfulState, length_place, written_read}
use Rattle.proposer_place.specs.AreaRead.{lawful_read, image_lent}
use Rattle.proposer_image.specs.Good.{header_good, used_good, place_good, places_good}
use Rattle.proposer_place.specs.Rows.{entries-length, entries_bytes}
use Rattle.proposer_area.specs.Turns.{sized_of}

-- ---- one place

-- a used place is good where it is its request's image and the request fits
used_parts : (c : ℕ) (b : List ℕ) → used_good c b ≡ (same b (place_image (Some (read_pending b))) && pending_fits c (read_pending b))
unfolding used_good pending_fits
used_parts c b = go (sizes_fit (read_pending b)) (same b (place_image (Some (read_pending b))))
  where
    answers : Bool
    answers = answers_fit (read_pending b)

    promise : Bool
    promise = promise_fits (read_pending b).promised (read_pending b).value

    go : (x y : Bool) → (x && y && answers && promise && leb 1 (read_pending b).ballot.0 && leb (read_pending b).ballot.0 c) ≡ (y && (x && answers && promise && leb 1 (read_pending b).ballot.0 && leb (read_pending b).ballot.0 c))
    go true true = refl
    go true false = refl
    go false true = refl
    go false false = refl

abbrev place_fits : ℕ → Option Pending → Bool
place_fits c None = true
place_fits c (Some p) = pending_fits c p

-- the first of the places, and the others
fits_both : (c : ℕ) (q : Option Pending) (l : List (Option Pending)) → places_fit c (q ∷ l) ≡ (place_fits c q && places_fit c l)
unfolding places_fit
fits_both c None l = refl
fits_both c (Some p) l = refl

free_good : (b : List ℕ) → b ≡ place_image None → all_zero b ≡ true
unfolding place_image
free_good b e = ap all_zero e ∙ zeros_zero place_bytes

free_image : (b : List ℕ) → length b ≡ place_bytes → all_zero b ≡ true → b ≡ place_image None
unfolding place_image
free_image b size h = zeros_are b h ∙ ap (λ (k : ℕ). replicate k 0) size

used_good_lem : (c : ℕ) (b : List ℕ) → b ≡ place_image (Some (read_pending b)) → pending_fits c (read_pending b) ≡ true → used_good c b ≡ true
used_good_lem c b e fits =
    let equal : same b (place_image (Some (read_pending b))) ≡ true = ap (same b) (sym e) ∙ same_refl b in
    used_parts c b ∙ rw (equal, fits)

used_image : (c : ℕ) (b : List ℕ) → used_good c b ≡ true → (b ≡ place_image (Some (read_pending b))) × (pending_fits c (read_pending b) ≡ true)
used_image c b h =
    let parts = and_true (same b (place_image (Some (read_pending b)))) (pending_fits c (read_pending b)) (sym (used_parts c b) ∙ h) in
    (same-true b (place_image (Some (read_pending b))) parts.0, parts.1)

place_good_lem : (c : ℕ) (b : List ℕ) → b ≡ place_image (read_place b) → place_fits c (read_place b) ≡ true → place_good c b ≡ true
unfolding place_good read_place
place_good_lem c b e fits = go (eqb (byte b used_at) 0) e fits
  where
    go : (z : Bool) → b ≡ place_image (cond z None (Some (read_pending b))) → place_fits c (cond z None (Some (read_pending b))) ≡ true → cond z (all_zero b) (used_good c b) ≡ true
    go true e' f = free_good b e'
    go false e' f = used_good_lem c b e' f

place_image_lem : (c : ℕ) (b : List ℕ) → length b ≡ place_bytes → place_good c b ≡ true → (b ≡ place_image (read_place b)) × (place_fits c (read_place b) ≡ true)
unfolding place_good read_place
place_image_lem c b size h = go (eqb (byte b used_at) 0) h
  where
    go : (z : Bool) → cond z (all_zero b) (used_good c b) ≡ true → (b ≡ place_image (cond z None (Some (read_pending b)))) × (place_fits c (cond z None (Some (read_pending b))) ≡ true)
    go true g = (free_image b size g, refl)
    go false g = used_image c b g

-- ---- n places, from `at` on

places_good_lem : (c : ℕ) (a : List ℕ) (at n : ℕ) → drop at a ≡ places_image (read_places a at n) → places_fit c (read_places a at n) ≡ true → LawfulPlaces (read_places a at n) → places_good c a at n ≡ true
unfolding places_good read_places places_image LawfulPlaces
places_good_lem c a at zero found fits each = refl
places_good_lem c a at (suc n) found fits each =
    let first = read_place (part a at place_bytes) in
    let others = read_places a (at + place_bytes) n in
    let size : length (place_image first) ≡ place_bytes = length_place first (each 0) in
    let parts = and_true (place_fits c first) (places_fit c others) (sym (fits_both c first others) ∙ fits) in
    let good = place_good_lem c (part a at place_bytes) (row_there a at (place_image first) (places_image others) place_bytes found size) parts.0 in
    rw good (places_good_lem c a (at + place_bytes) n (row_behind a at (place_image first) (places_image others) place_bytes found size) parts.1 (λ i. each (suc i)))

empty : (l : List ℕ) → length l ≡ 0 → l ≡ []
empty [] h = refl
empty (x ∷ l) h = absurd (omega arith)

places_image_lem : (c : ℕ) (a : List ℕ) (at n : ℕ) → length (drop at a) ≡ place_bytes * n → places_good c a at n ≡ true → (drop at a ≡ places_image (read_places a at n)) × (places_fit c (read_places a at n) ≡ true)
unfolding places_good read_places places_image places_fit
places_image_lem c a at zero size h = (empty (drop at a) (omega arith), refl)
places_image_lem c a at (suc n) size h =
    let b = part a at place_bytes in
    let others = read_places a (at + place_bytes) n in
    let parts = and_true (place_good c b) (places_good c a (at + place_bytes) n) h in
    let long : length b ≡ place_bytes = simp length-take (omega arith) in
    let behind : length (drop (at + place_bytes) a) ≡ place_bytes * n = omega (arith, length-drop at a, length-drop (at + place_bytes) a) in
    let first = place_image_lem c b long parts.0 in
    let rest = places_image_lem c a (at + place_bytes) n behind parts.1 in (
      sym (take-append-drop place_bytes (drop at a))
          ∙ ap (λ (r : List ℕ). b ++ r) (drop-drop place_bytes at a ∙ rest.0)
          ∙ ap (λ (r : List ℕ). r ++ places_image others) first.0,
      fits_both c (read_place b) others ∙ rw (first.1, rest.1),
    )

-- ---- a list in its row

-- a row with zeros behind its entries
row_of : (a : List ℕ) (at n : ℕ) → Bytes a → at + list_bytes ≤ length a → n ≤ list_most → all_zero (span a (at + 2 * n) (at + list_bytes)) ≡ true → part a at list_bytes ≡ list_row (entries a at n)
unfolding list_row padded
row_of a at n h room few zeros =
    let left : at + 30 - (at + 2 * n) ≡ 30 - 2 * n = omega arith in
    let zeros' = rw left at zeros in
    let content = entries_bytes a at n (omega arith) h in
    let size : length (part a at (2 * n)) ≡ 2 * n = length-part a at (2 * n) (omega arith) in
    let long : length (part a (at + 2 * n) (30 - 2 * n)) ≡ 30 - 2 * n = length-part a (at + 2 * n) (30 - 2 * n) (omega arith) in
    let tail : part a (at + 2 * n) (30 - 2 * n) ≡ replicate (30 - 2 * n) 0 = zeros_are (part a (at + 2 * n) (30 - 2 * n)) zeros' ∙ ap (λ (k : ℕ). replicate k 0) long in
    let both : 30 ≡ 2 * n + (30 - 2 * n) = omega arith in
    rw (content, size)
    (ap (λ (k : ℕ). take k (drop at a)) both ∙ take-add (2 * n) (30 - 2 * n) (drop at a)
    ∙ ap (λ (r : List ℕ). part a at (2 * n) ++ take (30 - 2 * n) r) (drop-drop (2 * n) at a)
    ∙ ap (λ (r : List ℕ). part a at (2 * n) ++ r) tail)

-- and the other way round
zeros_behind : (a : List ℕ) (at : ℕ) (l rest : List ℕ) → length l ≤ list_most → drop at a ≡ list_row l ++ rest → all_zero (span a (at + 2 * length l) (at + list_bytes)) ≡ true
unfolding list_row
zeros_behind a at l rest few found =
    let long = length_entries l in
    let left : 30 - length (entry_bytes l) ≡ at + 30 - (at + 2 * length l) = omega arith in
    let zeros : List ℕ = replicate (30 - length (entry_bytes l)) 0 in
    let behind : drop (at + 2 * length l) a ≡ zeros ++ rest = row_behind a at (entry_bytes l) (zeros ++ rest) (2 * length l) (found ∙ behind_content list_bytes (entry_bytes l) rest) long in
    ap all_zero (row_there a (at + 2 * length l) zeros rest (at + 30 - (at + 2 * length l)) behind (length-replicate {A = ℕ} (30 - length (entry_bytes l)) 0 ∙ left))
    ∙ zeros_zero (30 - length (entry_bytes l))

-- ---- the header

list_of_lem : (l : List ℕ) → list_fits l ≡ true → (length l ≤ list_most) × (none_zero l ≡ true)
unfolding list_fits
list_of_lem l h =
    let parts = and_true (leb (length l) list_most) (none_zero l) h in
    (leb-true (length l) list_most parts.0, parts.1)

list_fits_lem : (l : List ℕ) → length l ≤ list_most → none_zero l ≡ true → list_fits l ≡ true
unfolding list_fits
list_fits_lem l few none_zero_lem = rw (le-leb (length l) list_most few, none_zero_lem)

-- what a good header says
record Header (a : List ℕ) : Type 0 where
  accept_few : byte a accept_count_at ≤ list_most
  propose_few : byte a propose_count_at ≤ list_most
  first_gap : byte a 18 ≡ 0
  second_gap : byte a 19 ≡ 0
  accept_rest : all_zero (span a (accept_list_at + 2 * byte a accept_count_at) propose_list_at) ≡ true
  propose_rest : all_zero (span a (propose_list_at + 2 * byte a propose_count_at) header_bytes) ≡ true
  accept_some : none_zero (entries a accept_list_at (byte a accept_count_at)) ≡ true
  propose_some : none_zero (entries a propose_list_at (byte a propose_count_at)) ≡ true

header_of : (a : List ℕ) → header_good a ≡ true → Header a
unfolding header_good
header_of a h =
    let acceptFew = leb (byte a accept_count_at) list_most in
    let proposeFew = leb (byte a propose_count_at) list_most in
    let gap₁ = eqb (byte a 18) 0 in
    let gap₂ = eqb (byte a 19) 0 in
    let rest₁ = all_zero (span a (accept_list_at + 2 * byte a accept_count_at) propose_list_at) in
    let rest₂ = all_zero (span a (propose_list_at + 2 * byte a propose_count_at) header_bytes) in
    let Some₁ = none_zero (entries a accept_list_at (byte a accept_count_at)) in
    let Some₂ = none_zero (entries a propose_list_at (byte a propose_count_at)) in
    let p₇ = and_true (acceptFew && proposeFew && gap₁ && gap₂ && rest₁ && rest₂ && Some₁) Some₂ h in
    let p₆ = and_true (acceptFew && proposeFew && gap₁ && gap₂ && rest₁ && rest₂) Some₁ p₇.0 in
    let p₅ = and_true (acceptFew && proposeFew && gap₁ && gap₂ && rest₁) rest₂ p₆.0 in
    let p₄ = and_true (acceptFew && proposeFew && gap₁ && gap₂) rest₁ p₅.0 in
    let p₃ = and_true (acceptFew && proposeFew && gap₁) gap₂ p₄.0 in
    let p₂ = and_true (acceptFew && proposeFew) gap₁ p₃.0 in
    let p₁ = and_true acceptFew proposeFew p₂.0 in
    record {
      accept_few = leb-true (byte a accept_count_at) list_most p₁.0;
      propose_few = leb-true (byte a propose_count_at) list_most p₁.1;
      first_gap = eqb-true (byte a 18) 0 p₂.1;
      second_gap = eqb-true (byte a 19) 0 p₃.1;
      accept_rest = p₄.1;
      propose_rest = p₅.1;
      accept_some = p₆.1;
      propose_some = p₇.1;
    }

header_good_lem : (a : List ℕ) → Header a → header_good a ≡ true
unfolding header_good
header_good_lem a h =
    rw (
      le-leb (byte a accept_count_at) list_most h.accept_few,
      le-leb (byte a propose_count_at) list_most h.propose_few,
      eq-eqb (byte a 18) 0 h.first_gap,
      eq-eqb (byte a 19) 0 h.second_gap,
      h.accept_rest,
      h.propose_rest,
      h.accept_some,
      h.propose_some,
    )

-- ---- the area

-- two tests that pass together are one
both_ways : (x y : Bool) → (x ≡ true → y ≡ true) → (y ≡ true → x ≡ true) → x ≡ y
both_ways true y f g = sym (f refl)
both_ways false true f g = g refl
both_ways false false f g = refl

-- k bytes of a row, and those behind them
row_and_rest : (a : List ℕ) (at k : ℕ) → drop at a ≡ part a at k ++ drop (at + k) a
row_and_rest a at k = sym (take-append-drop k (drop at a)) ∙ ap (λ (r : List ℕ). part a at k ++ r) (drop-drop k at a)

joined : (x y z r : List ℕ) → (x ++ (y ++ z)) ++ r ≡ x ++ (y ++ (z ++ r))
joined x y z r = append_assoc x (y ++ z) r ∙ ap (λ (l : List ℕ). x ++ l) (append_assoc y z r)

-- what a state that may be lent says
record Lent (a : List ℕ) (n : ℕ) : Type 0 where
  accept_fits : list_fits (entries a accept_list_at (byte a accept_count_at)) ≡ true
  propose_fits : list_fits (entries a propose_list_at (byte a propose_count_at)) ≡ true
  places_fit_lem : places_fit (long_at a counter_at) (read_places a header_bytes n) ≡ true
  ballots : distinct (ballots_of (read_places a header_bytes n)) ≡ true

lent_of : (a : List ℕ) (n : ℕ) → may_be_lent (read_area a n) ≡ true → Lent a n
unfolding may_be_lent read_area
lent_of a n h =
    let accept = list_fits (entries a accept_list_at (byte a accept_count_at)) in
    let propose = list_fits (entries a propose_list_at (byte a propose_count_at)) in
    let fit = places_fit (long_at a counter_at) (read_places a header_bytes n) in
    let toBallots = and_true (accept && propose && fit) (distinct (ballots_of (read_places a header_bytes n))) h in
    let toPlaces = and_true (accept && propose) fit toBallots.0 in
    let lists = and_true accept propose toPlaces.0 in
    record { accept_fits = lists.0; propose_fits = lists.1; places_fit_lem = toPlaces.1; ballots = toBallots.1 }

may_be_lent_lem : (a : List ℕ) (n : ℕ) → Lent a n → may_be_lent (read_area a n) ≡ true
unfolding may_be_lent read_area
may_be_lent_lem a n l = rw (l.accept_fits, l.propose_fits, l.places_fit_lem, l.ballots)

module _ (a : List ℕ) (n : ℕ) where
  abbrev accept : List ℕ
  accept = entries a accept_list_at (byte a accept_count_at)

  abbrev propose : List ℕ
  propose = entries a propose_list_at (byte a propose_count_at)

  abbrev behind_header : List ℕ
  behind_header = places_image (read_places a header_bytes n)

  -- from the image to its parts
  module _ (bytes : Bytes a) (image : is_image a n ≡ true) where
    lent : Lent a n
    lent = lent_of a n (image_lent a n image)

    lawful : LawfulState (read_area a n) n
    lawful = lawful_read a n bytes (image_lent a n image)

    rows : a ≡ header_front (read_area a n) ++ (list_row accept ++ (list_row propose ++ behind_header))
    unfolding area_image read_area
    rows = sym (written_read a n image)

    accept_row : drop accept_list_at a ≡ list_row accept ++ (list_row propose ++ behind_header)
    unfolding header_front to_le
    accept_row = ap (drop accept_list_at) rows

    propose_row : drop propose_list_at a ≡ list_row propose ++ behind_header
    propose_row = row_behind a accept_list_at (list_row accept) _ list_bytes accept_row (length_list accept (list_of_lem accept lent.accept_fits).0)

    places_row : drop header_bytes a ≡ behind_header
    places_row = row_behind a propose_list_at (list_row propose) _ list_bytes propose_row (length_list propose (list_of_lem propose lent.propose_fits).0)

    gap₁ : byte a 18 ≡ 0
    unfolding header_front to_le
    gap₁ = ap (λ (r : List ℕ). byte r 18) rows

    gap₂ : byte a 19 ≡ 0
    unfolding header_front to_le
    gap₂ = ap (λ (r : List ℕ). byte r 19) rows

    header : Header a
    header =
        let count₁ = entries-length a accept_list_at (byte a accept_count_at) in
        let count₂ = entries-length a propose_list_at (byte a propose_count_at) in
        let list₁ = list_of_lem accept lent.accept_fits in
        let list₂ = list_of_lem propose lent.propose_fits in
        record {
          accept_few = omega arith;
          propose_few = omega arith;
          first_gap = gap₁;
          second_gap = gap₂;
          accept_rest = rw count₁ at (zeros_behind a accept_list_at accept _ list₁.0 accept_row);
          propose_rest = rw count₂ at (zeros_behind a propose_list_at propose _ list₂.0 propose_row);
          accept_some = list₁.1;
          propose_some = list₂.1;
        }

    parts_of : (header_good a && places_good (long_at a counter_at) a header_bytes n && distinct (ballots_of (read_places a header_bytes n))) ≡ true
    unfolding read_area
    parts_of = rw (header_good_lem a header, places_good_lem (long_at a counter_at) a header_bytes n places_row lent.places_fit_lem lawful.each, lent.ballots)

  -- and back
  module _ (bytes : Bytes a) (size : sized a n ≡ true) (h : Header a) where
    room : header_bytes ≤ length a
    room = omega (arith, sized_of a n size)

    -- a number of eight bytes
    long_back : (at : ℕ) → at + 8 ≤ header_bytes → to_le 8 (long_at a at) ≡ part a at 8
    long_back at within = ap (λ (k : ℕ). to_le k (long_at a at)) (sym (length-part a at 8 (omega (arith, room)))) ∙ to_le-from_le (part a at 8) (bytes_part a at 8 bytes)

    accept_there : part a accept_list_at list_bytes ≡ list_row accept
    accept_there = row_of a accept_list_at (byte a accept_count_at) bytes (omega (arith, room)) h.accept_few h.accept_rest

    propose_there : part a propose_list_at list_bytes ≡ list_row propose
    propose_there = row_of a propose_list_at (byte a propose_count_at) bytes (omega (arith, room)) h.propose_few h.propose_rest

    counts_there : drop accept_count_at a ≡ byte a accept_count_at ∷ byte a propose_count_at ∷ 0 ∷ 0 ∷ drop accept_list_at a
    counts_there =
        drop-cons a 16 0 (omega (arith, room))
        ∙ ap (λ (r : List ℕ). byte a 16 ∷ r) (drop-cons a 17 0 (omega (arith, room))
        ∙ ap (λ (r : List ℕ). byte a 17 ∷ r) (drop-cons a 18 0 (omega (arith, room))
        ∙ ap (λ (r : List ℕ). byte a 18 ∷ r) (drop-cons a 19 0 (omega (arith, room)))
        ∙ rw (h.first_gap, h.second_gap)))

    rows_there : drop header_bytes a ≡ behind_header → a ≡ part a 0 8 ++ (part a 8 8 ++ (byte a accept_count_at ∷ byte a propose_count_at ∷ 0 ∷ 0 ∷ (list_row accept ++ (list_row propose ++ behind_header))))
    rows_there tail =
        row_and_rest a 0 8
        ∙ ap (λ (r : List ℕ). part a 0 8 ++ r) (row_and_rest a 8 8
        ∙ ap (λ (r : List ℕ). part a 8 8 ++ r) (counts_there
        ∙ ap (λ (r : List ℕ). byte a accept_count_at ∷ byte a propose_count_at ∷ 0 ∷ 0 ∷ r) (row_and_rest a 20 30 ∙ rw (accept_there, row_and_rest a 50 30, propose_there, tail))))

    written_back : drop header_bytes a ≡ behind_header → a ≡ area_image (read_area a n)
    unfolding area_image header_front read_area
    written_back tail =
        rows_there tail
        ∙ sym (
        rw (
          long_back 0 (omega arith),
          long_back 8 (omega arith),
          entries-length a accept_list_at (byte a accept_count_at),
          entries-length a propose_list_at (byte a propose_count_at),
        ) (joined (part a 0 8) (part a 8 8) (byte a accept_count_at ∷ byte a propose_count_at ∷ 0 ∷ 0 ∷ []) (list_row accept ++ (list_row propose ++ behind_header)))
        )

    lent_back_lem : places_fit (long_at a counter_at) (read_places a header_bytes n) ≡ true → distinct (ballots_of (read_places a header_bytes n)) ≡ true → Lent a n
    lent_back_lem fit ballots =
        let count₁ = entries-length a accept_list_at (byte a accept_count_at) in
        let count₂ = entries-length a propose_list_at (byte a propose_count_at) in
        let few₁ = h.accept_few in
        let few₂ = h.propose_few in
        record {
          accept_fits = list_fits_lem accept (omega arith) h.accept_some;
          propose_fits = list_fits_lem propose (omega arith) h.propose_some;
          places_fit_lem = fit;
          ballots = ballots;
        }

    image_of : places_good (long_at a counter_at) a header_bytes n ≡ true → distinct (ballots_of (read_places a header_bytes n)) ≡ true → is_image a n ≡ true
    unfolding is_image
    image_of good ballots =
        let z = sized_of a n size in
        let long : length (drop header_bytes a) ≡ place_bytes * n = omega (arith, length-drop header_bytes a) in
        let places = places_image_lem (long_at a counter_at) a header_bytes n long good in
        let equal : same a (area_image (read_area a n)) ≡ true = ap (same a) (sym (written_back places.0)) ∙ same_refl a in
        rw (size, equal) (may_be_lent_lem a n (lent_back_lem places.1 ballots))

  pub image_parts : Bytes a → sized a n ≡ true → is_image a n ≡ (header_good a && places_good (long_at a counter_at) a header_bytes n && distinct (ballots_of (read_places a header_bytes n)))
  image_parts bytes size =
      let places = places_good (long_at a counter_at) a header_bytes n in
      let ballots = distinct (ballots_of (read_places a header_bytes n)) in
      both_ways (is_image a n) (header_good a && places && ballots) (parts_of bytes)
      (λ h.
      let toBallots = and_true (header_good a && places) ballots h in
      let toPlaces = and_true (header_good a) places toBallots.0 in
      image_of bytes size (header_of a toPlaces.0) toPlaces.1 toBallots.1)
