-- What holds of an area that is an image: its size, its places, and the area with another counter or another place.
-- Assumes nothing.
use Rattle.std.specs.Prelude.{◌≡◌, true, List, [], ℕ, ◌+◌, ◌*◌, ◌^◌, ◌≤◌, ◌<◌, length, get_or, set}
use Rattle.std.proofs.Math.Path.{refl, sym, ap}
use Rattle.std.proofs.Common.{subst, ◌∙◌, append-nil, le-leb, eq-eqb}
use Rattle.std.specs.Prelude.{Option, None}
use native.Mathlib.Omega.{arith}
use Rattle.std.proofs.lemmas.List.Edits.{sets}
use Rattle.leaf_fields.specs.Fields.{to_le, part, byte, Bytes}
use Rattle.messages.specs.Limits.{list_most, pending_most}
use Rattle.messages.specs.Answers.{entries, entry_bytes}
use Rattle.proposer_rules.specs.State.{Pending, Proposer}
use Rattle.proposer_rules.specs.Rules.{moved}
use Rattle.proposer_place.specs.Area.{counter_at, accept_count_at, propose_count_at, accept_list_at, propose_list_at, header_bytes, place_bytes, long_at, area_bytes, place_image, area_image, read_area, read_pending, sized, is_image}
use Rattle.proposer_place.specs.AreaLaws.{ShortList, Lawful, LawfulPlace, LawfulPlaces, LawfulState, read_written, length_area, written_read}
use Rattle.proposer_place.specs.AreaRows.{entries_there}
use Rattle.proposer_place.specs.AreaBytes.{bytes_area}
use Rattle.proposer_place.specs.Rows.{entries-length, entries_bytes}
use Rattle.proposer_place.specs.AreaRead.{lawful_read, image_lent}
use Rattle.proposer_place.specs.PlaceLaws.{area_place, area_part, area_counter, lawful_counter, lawful_place_set}
use Rattle.proposer_place.specs.Front.{Used}
use Rattle.proposer_area.specs.Turns.{sized_of}
use Rattle.proposer_area.specs.Places.{place_at, place_in}
use Rattle.proposer_area.specs.Held.{Held, Pends}

-- ---- the size

pub place_room : (a : List ℕ) (n i : ℕ) → sized a n ≡ true → i < n → place_at i + place_bytes ≤ length a
place_room a n i h lt = omega (arith, (sized_of a n h).bytes)

-- ---- an image

pub image_held : (a : List ℕ) (n : ℕ) → Bytes a → sized a n ≡ true → is_image a n ≡ true → Held a n
image_held a n bytes h image =
    record { sized = h; image = sym (written_read a n image); lawful = lawful_read a n bytes (image_lent a n image) }

-- the image of any lawful state
pub state_held : (s : Proposer) (n : ℕ) → LawfulState s n → 1 ≤ n → n ≤ pending_most → Held (area_image s) n
unfolding sized
state_held s n ok least most =
    record {
      sized = rw (le-leb 1 n least, le-leb n pending_most most, length_area s n ok, eq-eqb (area_bytes n) (area_bytes n) refl);
      image = ap area_image (sym (read_written s n ok));
      lawful = rw (read_written s n ok) ok;
    }

-- ---- its places

module _ (a : List ℕ) (n : ℕ) (held : Held a n) where
  abbrev state : Proposer
  state = read_area a n

  pub place_image_lem : (i : ℕ) → i < n → place_in a i ≡ place_image (get_or state.places i None)
  place_image_lem i lt = ap (λ (r : List ℕ). place_in r i) held.image ∙ area_part state n held.lawful i lt

  pub lawful_at : (i : ℕ) → LawfulPlace (get_or state.places i None)
  unfolding LawfulPlaces
  lawful_at i = held.lawful.each i

  pub lawful_pending : (i : ℕ) → Pends a n i → Lawful (read_pending (place_in a i))
  lawful_pending i pends = subst (λ (q : Option Pending). LawfulPlace q) pends.used (lawful_at i)

  pub used_place : (i : ℕ) → Pends a n i → Used (place_in a i)
  used_place i pends =
      record { image = place_image_lem i pends.within ∙ ap place_image pends.used; lawful = lawful_pending i pends }

  pub free_place : (i : ℕ) → i < n → get_or state.places i None ≡ None → place_in a i ≡ place_image None
  free_place i lt free = place_image_lem i lt ∙ ap place_image free

  -- ---- another place, and then another counter

  pub with_place : (i : ℕ) (q : Option Pending) → i < n → LawfulPlace q → sets a (place_at i) (place_image q) ≡ area_image (moved state state.counter (set state.places i q))
  with_place i q lt ok = ap (λ (r : List ℕ). sets r (place_at i) (place_image q)) held.image ∙ area_place state n held.lawful i q lt ok

  pub with_both : (i c : ℕ) (q : Option Pending) → i < n → LawfulPlace q → sets (sets a (place_at i) (place_image q)) counter_at (to_le 8 c) ≡ area_image (moved state c (set state.places i q))
  with_both i c q lt ok =
      ap (λ (r : List ℕ). sets r counter_at (to_le 8 c)) (with_place i q lt ok)
      ∙ area_counter (moved state state.counter (set state.places i q)) c

-- ---- and it may be held again

pub moved_held : (a : List ℕ) (n i c : ℕ) (q : Option Pending) (a' : List ℕ) → Held a n → LawfulPlace q → c < 256 ^ 8 → a' ≡ area_image (moved (read_area a n) c (set (read_area a n).places i q)) → Held a' n
moved_held a n i c q a' held ok fits e =
    let size = sized_of a n held.sized in
    let s = moved (read_area a n) (read_area a n).counter (set (read_area a n).places i q) in
    subst (λ (r : List ℕ). Held r n) (sym e)
    (state_held (moved s c s.places) n (lawful_counter s n c (lawful_place_set (read_area a n) n i q held.lawful ok) fits) size.least size.most)

pub place_held : (a : List ℕ) (n i : ℕ) (q : Option Pending) (a' : List ℕ) → Held a n → i < n → LawfulPlace q → a' ≡ sets a (place_at i) (place_image q) → Held a' n
place_held a n i q a' held lt ok e = moved_held a n i (read_area a n).counter q a' held ok held.lawful.counter_fits (e ∙ with_place a n held i q lt ok)

pub counter_held : (a : List ℕ) (n c : ℕ) (a' : List ℕ) → Held a n → c < 256 ^ 8 → a' ≡ sets a counter_at (to_le 8 c) → Held a' n
counter_held a n c a' held fits e =
    let size = sized_of a n held.sized in
    subst (λ (r : List ℕ). Held r n) (sym (e ∙ ap (λ (r : List ℕ). sets r counter_at (to_le 8 c)) held.image ∙ area_counter (read_area a n) c))
    (state_held (moved (read_area a n) c (read_area a n).places) n (lawful_counter (read_area a n) n c held.lawful fits) size.least size.most)

-- ---- its lists

-- a list that stands at `at`, with its count
module _ (a : List ℕ) (n : ℕ) (held : Held a n) where
  bytes_held : Bytes a
  bytes_held = subst (λ (r : List ℕ). Bytes r) (sym held.image) (bytes_area (read_area a n) n held.lawful)

  list_at_lem : (at k : ℕ) → at + 2 * k ≤ header_bytes → part a at (2 * k) ≡ entry_bytes (entries a at k)
  list_at_lem at k room = sym (entries_bytes a at k (omega (arith, (sized_of a n held.sized).bytes)) bytes_held)

  pub accept_count : byte a accept_count_at ≡ length (read_area a n).accept_acceptors
  unfolding read_area
  accept_count = sym (entries-length a accept_list_at (byte a accept_count_at))

  pub propose_count : byte a propose_count_at ≡ length (read_area a n).propose_acceptors
  unfolding read_area
  propose_count = sym (entries-length a propose_list_at (byte a propose_count_at))

  pub accept_short : byte a accept_count_at ≤ list_most
  accept_short = omega (arith, accept_count, held.lawful.accept.short)

  pub propose_short : byte a propose_count_at ≤ list_most
  propose_short = omega (arith, propose_count, held.lawful.propose.short)

  -- the entries of a list as they are lent
  pub accept_list_lem : part a accept_list_at (2 * byte a accept_count_at) ≡ entry_bytes (read_area a n).accept_acceptors
  unfolding read_area
  accept_list_lem = list_at_lem accept_list_at (byte a accept_count_at) (omega (arith, accept_short))

  pub propose_list_lem : part a propose_list_at (2 * byte a propose_count_at) ≡ entry_bytes (read_area a n).propose_acceptors
  unfolding read_area
  propose_list_lem = list_at_lem propose_list_at (byte a propose_count_at) (omega (arith, propose_short))

  pub counter_is : long_at a counter_at ≡ (read_area a n).counter
  unfolding read_area
  counter_is = refl

-- the entries of a list of any length, from the front of its bytes
pub entries_back : (l : List ℕ) → ShortList l → entries (entry_bytes l) 0 (length l) ≡ l
entries_back l ok = entries_there l [] (entry_bytes l) 0 (sym (append-nil (entry_bytes l))) ok.fit
