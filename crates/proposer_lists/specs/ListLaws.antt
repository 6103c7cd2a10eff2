-- The header's lists: an area with another list is the image of the state with that list, and the start's area comes of zeros so.
-- Assumes nothing.
use Rattle.std.specs.Prelude.{◌≡◌, refl, true, ℕ, zero, suc, ◌+◌, ◌*◌, ◌^◌, ◌≤◌, ◌<◌, leb, length, get_or, replicate}
use Rattle.std.proofs.Math.Path.{sym, ap}
use Rattle.std.proofs.Common.{◌∙◌, arith, leb-true, subst}
use mathlib.Core.List.{List, [], ◌++◌, append_assoc}
use Rattle.std.proofs.Math.ListN.{set, length-append}
use Rattle.std.proofs.lemmas.List.{replicate-append-replicate}
use Rattle.std.proofs.Math.Seq.{sets}
use Rattle.leaf_fields.specs.Stores.{sets_middle, sets_whole}
use Rattle.leaf_fields.specs.Fields.{to_le, padded}
use Rattle.leaf_fields.specs.Laws.{and_true}
use Rattle.messages.specs.Limits.{list_most, none_zero, list_fits}
use Rattle.messages.specs.Answers.{entry_bytes}
use Rattle.proposer_rules.specs.State.{Proposer}
use Rattle.proposer_rules.specs.Rules.{with_lists, empty_places, start}
use Rattle.proposer_place.specs.Area.{timeout_at, accept_count_at, propose_count_at, accept_list_at, propose_list_at, header_bytes, place_bytes, area_bytes, list_row, place_image, places_image, header_front, area_image, read_area, sized}
use Rattle.proposer_place.specs.AreaRows.{length_list, Entries}
use Rattle.proposer_place.specs.AreaLaws.{ShortList}
use Rattle.proposer_area.specs.Turns.{sized_of}
use Rattle.proposer_area.specs.Held.{Held}
use Rattle.proposer_area.specs.HeldLaws.{state_held}

-- ---- one list

length_front : (s : Proposer) → length (header_front s) ≡ accept_list_at
unfolding header_front to_le
length_front s = refl

row_stored : (p q s vs : List ℕ) (at : ℕ) → length p ≡ at → length q ≡ length vs → sets (p ++ (q ++ s)) at vs ≡ p ++ (vs ++ s)
row_stored p q s vs at hp hq =
    sets_middle p q s vs at 0 (omega (arith, hp)) (omega (arith, hq)) ∙ ap (λ (r : List ℕ). p ++ (r ++ s)) (sets_whole q vs hq)

module _ (s : Proposer) (l : List ℕ) (short : length l ≤ list_most) (accept_short : length s.accept_acceptors ≤ list_most) where
  accept_row : sets (area_image s) accept_list_at (list_row l) ≡ header_front s ++ (list_row l ++ (list_row s.propose_acceptors ++ places_image s.places))
  unfolding area_image
  accept_row =
      row_stored (header_front s) (list_row s.accept_acceptors) (list_row s.propose_acceptors ++ places_image s.places) (list_row l) accept_list_at (length_front s)
      (length_list s.accept_acceptors accept_short ∙ sym (length_list l short))

  pub accept_stored : set (sets (area_image s) accept_list_at (list_row l)) accept_count_at (length l) ≡ area_image (with_lists s l s.propose_acceptors)
  unfolding area_image header_front to_le
  accept_stored = ap (λ (r : List ℕ). set r accept_count_at (length l)) accept_row

module _ (s : Proposer) (l : List ℕ) (short : length l ≤ list_most) (accept_short : length s.accept_acceptors ≤ list_most) (propose_short : length s.propose_acceptors ≤ list_most) where
  propose_row : sets (area_image s) propose_list_at (list_row l) ≡ header_front s ++ (list_row s.accept_acceptors ++ (list_row l ++ places_image s.places))
  unfolding area_image
  propose_row =
      ap (λ (r : List ℕ). sets r propose_list_at (list_row l)) (sym (append_assoc (header_front s) (list_row s.accept_acceptors) (list_row s.propose_acceptors ++ places_image s.places)))
      ∙ row_stored (header_front s ++ list_row s.accept_acceptors) (list_row s.propose_acceptors) (places_image s.places) (list_row l) propose_list_at
      (omega (arith, length-append (header_front s) (list_row s.accept_acceptors), length_front s, length_list s.accept_acceptors accept_short))
      (length_list s.propose_acceptors propose_short ∙ sym (length_list l short))
      ∙ append_assoc (header_front s) (list_row s.accept_acceptors) (list_row l ++ places_image s.places)

  pub propose_stored : set (sets (area_image s) propose_list_at (list_row l)) propose_count_at (length l) ≡ area_image (with_lists s s.accept_acceptors l)
  unfolding area_image header_front to_le
  propose_stored = ap (λ (r : List ℕ). set r propose_count_at (length l)) propose_row

pub list_short : (l : List ℕ) → list_fits l ≡ true → length l ≤ list_most
unfolding list_fits
list_short l h = leb-true (length l) list_most (and_true (leb (length l) list_most) (none_zero l) h).0

-- ---- on an area that is an image

pub accept_set : (a : List ℕ) (n : ℕ) (l a₁ : List ℕ) → Held a n → list_fits l ≡ true → a₁ ≡ set (sets a accept_list_at (list_row l)) accept_count_at (length l) → a₁ ≡ area_image (with_lists (read_area a n) l (read_area a n).propose_acceptors)
accept_set a n l a₁ held fits e =
    e ∙ ap (λ (r : List ℕ). set (sets r accept_list_at (list_row l)) accept_count_at (length l)) held.image
    ∙ accept_stored (read_area a n) l (list_short l fits) held.lawful.accept.short

pub propose_set : (a : List ℕ) (n : ℕ) (l a₁ : List ℕ) → Held a n → list_fits l ≡ true → a₁ ≡ set (sets a propose_list_at (list_row l)) propose_count_at (length l) → a₁ ≡ area_image (with_lists (read_area a n) (read_area a n).accept_acceptors l)
propose_set a n l a₁ held fits e =
    e ∙ ap (λ (r : List ℕ). set (sets r propose_list_at (list_row l)) propose_count_at (length l)) held.image
    ∙ propose_stored (read_area a n) l (list_short l fits) held.lawful.accept.short held.lawful.propose.short

-- ---- and stays one that may be held

with_lists_held : (a a₁ : List ℕ) (n : ℕ) (accept propose : List ℕ) → Held a n → ShortList accept → ShortList propose → a₁ ≡ area_image (with_lists (read_area a n) accept propose) → Held a₁ n
with_lists_held a a₁ n accept propose held h h' e =
    let size = sized_of a n held.sized in
    subst (λ (r : List ℕ). Held r n) (sym e)
    (state_held (with_lists (read_area a n) accept propose) n record {
      counter_fits = held.lawful.counter_fits;
      timeout_fits = held.lawful.timeout_fits;
      accept = h;
      propose = h';
      full = held.lawful.full;
      each = held.lawful.each;
    } size.least size.most)

pub accept_held : (a : List ℕ) (n : ℕ) (l a₁ : List ℕ) → Held a n → list_fits l ≡ true → ((i : ℕ) → get_or l i 0 < 256 ^ 2) → a₁ ≡ set (sets a accept_list_at (list_row l)) accept_count_at (length l) → Held a₁ n
unfolding Entries
accept_held a n l a₁ held fits entries e =
    with_lists_held a a₁ n l (read_area a n).propose_acceptors held (record { short = list_short l fits; fit = entries }) held.lawful.propose (accept_set a n l a₁ held fits e)

pub propose_held : (a : List ℕ) (n : ℕ) (l a₁ : List ℕ) → Held a n → list_fits l ≡ true → ((i : ℕ) → get_or l i 0 < 256 ^ 2) → a₁ ≡ set (sets a propose_list_at (list_row l)) propose_count_at (length l) → Held a₁ n
unfolding Entries
propose_held a n l a₁ held fits entries e =
    with_lists_held a a₁ n (read_area a n).accept_acceptors l held held.lawful.accept (record { short = list_short l fits; fit = entries }) (propose_set a n l a₁ held fits e)

-- ---- the start

zeros_places : (n : ℕ) → replicate {A = ℕ} (place_bytes * n) 0 ≡ places_image (empty_places n)
unfolding places_image empty_places place_image
zeros_places zero = refl
zeros_places (suc n) =
    let more : place_bytes * suc n ≡ place_bytes + place_bytes * n = omega arith in
    ap (λ (k : ℕ). replicate {A = ℕ} k 0) more
    ∙ sym (replicate-append-replicate {A = ℕ} place_bytes (place_bytes * n) 0)
    ∙ ap (λ (r : List ℕ). replicate {A = ℕ} place_bytes 0 ++ r) (zeros_places n)

-- an area of zeros is a start without a timeout and with empty lists
zeros_start : (n : ℕ) → replicate {A = ℕ} (area_bytes n) 0 ≡ area_image (start 0 [] n)
unfolding area_image header_front list_row padded entry_bytes to_le start
zeros_start n =
    sym (replicate-append-replicate {A = ℕ} header_bytes (place_bytes * n) 0) ∙ ap (λ (r : List ℕ). replicate {A = ℕ} header_bytes 0 ++ r) (zeros_places n)

abbrev with_timeout : Proposer → ℕ → Proposer
with_timeout s t = record {
  counter = s.counter;
  accept_acceptors = s.accept_acceptors;
  propose_acceptors = s.propose_acceptors;
  timeout = t;
  places = s.places;
}

timeout_stored : (s : Proposer) (t : ℕ) → sets (area_image s) timeout_at (to_le 8 t) ≡ area_image (with_timeout s t)
unfolding area_image header_front to_le
timeout_stored s t = refl

pub started : (a : List ℕ) (n t : ℕ) (l a₀ a₁ a₂ a₃ : List ℕ) → sized a n ≡ true → list_fits l ≡ true → a₀ ≡ replicate (length a) 0 → a₁ ≡ sets a₀ timeout_at (to_le 8 t) → a₂ ≡ set (sets a₁ accept_list_at (list_row l)) accept_count_at (length l) → a₃ ≡ set (sets a₂ propose_list_at (list_row l)) propose_count_at (length l) → a₃ ≡ area_image (start t l n)
unfolding start
started a n t l a₀ a₁ a₂ a₃ h fits e₀ e₁ e₂ e₃ =
    let short = list_short l fits in
    let empty : a₀ ≡ area_image (start 0 [] n) = e₀ ∙ ap (λ (k : ℕ). replicate {A = ℕ} k 0) (sized_of a n h).bytes ∙ zeros_start n in
    let timed : a₁ ≡ area_image (start t [] n) = e₁ ∙ ap (λ (r : List ℕ). sets r timeout_at (to_le 8 t)) empty ∙ timeout_stored (start 0 [] n) t in
    let accepting : a₂ ≡ area_image (with_lists (start t [] n) l []) =
    e₂ ∙ ap (λ (r : List ℕ). set (sets r accept_list_at (list_row l)) accept_count_at (length l)) timed ∙ accept_stored (start t [] n) l short (omega arith) in
    e₃ ∙ ap (λ (r : List ℕ). set (sets r propose_list_at (list_row l)) propose_count_at (length l)) accepting
    ∙ propose_stored (with_lists (start t [] n) l []) l short short (omega arith)
