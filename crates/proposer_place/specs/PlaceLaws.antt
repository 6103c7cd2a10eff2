-- A place of an image is read and replaced by itself, and the counter too; what a message makes of a lawful request is lawful.
-- Assumes nothing.
use Rattle.std.specs.Prelude.{◌≡◌, Bool, true, ℕ, zero, suc, ◌+◌, ◌*◌, ◌^◌, ◌<◌, length, get_or, set, take, drop}
use Rattle.std.proofs.Math.Path.{sym, ap}
use Rattle.std.proofs.Common.{◌∙◌, arith, lit<, length-append, length-set, take_at, drop_at, drop-drop}
use mathlib.Core.List.{List, [], ◌∷◌, ◌++◌, append_assoc}
use Rattle.std.specs.Prelude.{Option, None, Some}
use Rattle.std.proofs.lemmas.List.Edits.{sets}
use Rattle.leaf_fields.specs.Stores.{sets_left, sets_right, sets_whole}
use Rattle.leaf_fields.specs.Fields.{to_le, part}
use Rattle.leaf_fields.specs.Laws.{length-to_le}
use Rattle.leaf_fields.specs.Rows.{bytes_none}
use Rattle.messages.specs.declared.Address.{Address}
use Rattle.messages.specs.declared.Ballot.{Ballot}
use Rattle.messages.specs.Message.{Value, Request}
use Rattle.messages.specs.Limits.{key_most, value_most, list_most}
use Rattle.messages.specs.Answers.{bytes_of}
use Rattle.proposer_rules.specs.State.{Pending, Proposer, key_of, new_pending, with_no, with_yes, second_phase, asked_again}
use Rattle.proposer_place.specs.Area.{counter_at, header_bytes, key_start, values_at, promised_value_at, place_bytes, values_bytes, values_of, first_value, second_value, list_row, place_image, places_image, header_front, area_image}
use Rattle.proposer_place.specs.AreaRows.{Entries, length_list, content_there}
use Rattle.proposer_place.specs.Front.{front_of, Small}
use Rattle.proposer_place.specs.AreaLaws.{Short, ShortList, Lawful, LawfulPlace, LawfulPlaces, LawfulState, length_place, key_there, values_there, promised_there}

-- the first of two rows, stored anew
sets_front : (l m vs : List ℕ) → length l ≡ length vs → sets (l ++ m) 0 vs ≡ vs ++ m
sets_front l m vs same = sets_left l m vs 0 (omega (arith, same)) ∙ ap (λ (r : List ℕ). r ++ m) (sets_whole l vs same)

-- ---- a place among places

pub places_set : (l : List (Option Pending)) (i : ℕ) (q : Option Pending) → i < length l → LawfulPlaces l → LawfulPlace q → places_image (set l i q) ≡ sets (places_image l) (place_bytes * i) (place_image q)
unfolding places_image LawfulPlaces
places_set [] i q h ok okq = absurd (omega (arith, h))
places_set (x ∷ l) zero q h ok okq =
    sym (sets_front (place_image x) (places_image l) (place_image q) (length_place x (ok 0) ∙ sym (length_place q okq)))
places_set (x ∷ l) (suc i) q h ok okq =
    sym (sets_right (place_image x) (places_image l) (place_image q) (place_bytes * suc i) (place_bytes * i) (omega (arith, length_place x (ok 0)))
    ∙ ap (λ (r : List ℕ). place_image x ++ r) (sym (places_set l i q (omega (arith, h)) (λ k. ok (suc k)) okq)))

pub places_part : (l : List (Option Pending)) (i : ℕ) → i < length l → LawfulPlaces l → part (places_image l) (place_bytes * i) place_bytes ≡ place_image (get_or l i None)
unfolding places_image LawfulPlaces
places_part [] i h ok = absurd (omega (arith, h))
places_part (x ∷ l) zero h ok = take_at (place_image x) (places_image l) place_bytes (length_place x (ok 0))
places_part (x ∷ l) (suc i) h ok =
    let at : place_bytes * suc i ≡ place_bytes + place_bytes * i = omega arith in
    ap (λ (k : ℕ). part (place_image x ++ places_image l) k place_bytes) at
    ∙ ap (take place_bytes) (sym (drop-drop (place_bytes * i) place_bytes (place_image x ++ places_image l))
    ∙ ap (drop (place_bytes * i)) (drop_at (place_image x) (places_image l) place_bytes (length_place x (ok 0))))
    ∙ places_part l i (omega (arith, h)) (λ k. ok (suc k))

-- ---- an area

-- a state with another counter, and with other places
abbrev pub with_counter : Proposer → ℕ → Proposer
with_counter s c = record {
  counter = c;
  accept_acceptors = s.accept_acceptors;
  propose_acceptors = s.propose_acceptors;
  timeout = s.timeout;
  places = s.places;
}

abbrev pub with_places : Proposer → List (Option Pending) → Proposer
with_places s l = record {
  counter = s.counter;
  accept_acceptors = s.accept_acceptors;
  propose_acceptors = s.propose_acceptors;
  timeout = s.timeout;
  places = l;
}

module _ (s : Proposer) (n : ℕ) (ok : LawfulState s n) where
  abbrev header : List ℕ
  header = header_front s ++ (list_row s.accept_acceptors ++ list_row s.propose_acceptors)

  length-header : length header ≡ header_bytes
  unfolding header_front to_le
  length-header = simp (length-append, length_list s.accept_acceptors ok.accept.short, length_list s.propose_acceptors ok.propose.short)

  header_places : (l : List (Option Pending)) → area_image (with_places s l) ≡ header ++ places_image l
  unfolding area_image header_front
  header_places l =
      sym (append_assoc (header_front s) (list_row s.accept_acceptors ++ list_row s.propose_acceptors) (places_image l)
      ∙ ap (λ (r : List ℕ). header_front s ++ r) (append_assoc (list_row s.accept_acceptors) (list_row s.propose_acceptors) (places_image l)))

  -- one place replaced
  pub area_place : (i : ℕ) (q : Option Pending) → i < n → LawfulPlace q → sets (area_image s) (header_bytes + place_bytes * i) (place_image q) ≡ area_image (with_places s (set s.places i q))
  area_place i q h okq =
      ap (λ (r : List ℕ). sets r (header_bytes + place_bytes * i) (place_image q)) (header_places s.places)
      ∙ sets_right header (places_image s.places) (place_image q) (header_bytes + place_bytes * i) (place_bytes * i) (omega (arith, length-header))
      ∙ ap (λ (r : List ℕ). header ++ r) (sym (places_set s.places i q (rw ok.full h) ok.each okq))
      ∙ sym (header_places (set s.places i q))

  -- one place read
  pub area_part : (i : ℕ) → i < n → part (area_image s) (header_bytes + place_bytes * i) place_bytes ≡ place_image (get_or s.places i None)
  area_part i h =
      ap (λ (r : List ℕ). part r (header_bytes + place_bytes * i) place_bytes) (header_places s.places)
      ∙ ap (take place_bytes) (sym (drop-drop (place_bytes * i) header_bytes (header ++ places_image s.places))
      ∙ ap (drop (place_bytes * i)) (drop_at header (places_image s.places) header_bytes length-header))
      ∙ places_part s.places i (rw ok.full h) ok.each

-- another counter
pub area_counter : (s : Proposer) (c : ℕ) → sets (area_image s) counter_at (to_le 8 c) ≡ area_image (with_counter s c)
unfolding area_image header_front
area_counter s c =
    ap (λ (r : List ℕ). sets r 0 (to_le 8 c)) (append_assoc (to_le 8 s.counter) _ _)
    ∙ sets_front (to_le 8 s.counter) _ (to_le 8 c) (length-to_le 8 s.counter ∙ sym (length-to_le 8 c))
    ∙ sym (append_assoc (to_le 8 c) _ _)

-- ---- lawful states

pub lawful_counter : (s : Proposer) (n c : ℕ) → LawfulState s n → c < 256 ^ 8 → LawfulState (with_counter s c) n
lawful_counter s n c ok h =
    record { counter_fits = h; timeout_fits = ok.timeout_fits; accept = ok.accept; propose = ok.propose; full = ok.full; each = ok.each }

set_lawful : (l : List (Option Pending)) (i : ℕ) (q : Option Pending) → LawfulPlaces l → LawfulPlace q → LawfulPlaces (set l i q)
unfolding LawfulPlaces
set_lawful [] i q ok okq = ok
set_lawful (x ∷ l) zero q ok okq = λ k. elim k as (λ z. LawfulPlace (get_or (q ∷ l) z None)) [ zero ↦ okq | suc j ↦ ok (suc j) ]
set_lawful (x ∷ l) (suc i) q ok okq = λ k. elim k as (λ z. LawfulPlace (get_or (x ∷ set l i q) z None)) [ zero ↦ ok 0 | suc j ↦ set_lawful l i q (λ m. ok (suc m)) okq j ]

pub lawful_place_set : (s : Proposer) (n i : ℕ) (q : Option Pending) → LawfulState s n → LawfulPlace q → LawfulState (with_places s (set s.places i q)) n
lawful_place_set s n i q ok okq =
    record {
      counter_fits = ok.counter_fits;
      timeout_fits = ok.timeout_fits;
      accept = ok.accept;
      propose = ok.propose;
      full = length-set s.places i q ∙ ok.full;
      each = set_lawful s.places i q ok.each okq;
    }

-- ---- lawful requests

entries_none : Entries []
unfolding Entries
entries_none = λ i. lit< tt

pub no_entries : ShortList []
no_entries = record { short = omega arith; fit = entries_none }

entries_more : (l : List ℕ) (x : ℕ) → Entries l → x < 256 ^ 2 → Entries (l ++ (x ∷ []))
unfolding Entries
entries_more [] x ok h = λ i. elim i as (λ z. get_or (x ∷ []) z 0 < 256 ^ 2) [ zero ↦ h | suc j ↦ lit< tt ]
entries_more (y ∷ l) x ok h = λ i. elim i as (λ z. get_or (y ∷ (l ++ (x ∷ []))) z 0 < 256 ^ 2) [ zero ↦ ok 0 | suc j ↦ entries_more l x (λ k. ok (suc k)) h j ]

-- one more entry
pub one_more : (l : List ℕ) (x : ℕ) → ShortList l → length l < list_most → x < 256 ^ 2 → ShortList (l ++ (x ∷ []))
one_more l x ok room fits =
    record { short = simp length-append (omega (arith, room)); fit = entries_more l x ok.fit fits }

-- no value
pub no_value : (n : ℕ) → Short n []
no_value n = record { short = omega arith; bytes = bytes_none }

module _ (p : Pending) (ok : Lawful p) where
  pub lawful_no : (from : Address) → from.0 < 256 ^ 2 → length p.nacks_from < list_most → Lawful (with_no p from)
  lawful_no from fits room =
      record {
        client_fits = ok.client_fits;
        id_fits = ok.id_fits;
        ballot_fits = ok.ballot_fits;
        promised_fits = ok.promised_fits;
        arrival_fits = ok.arrival_fits;
        key = ok.key;
        first = ok.first;
        second = ok.second;
        promised = ok.promised;
        waited = ok.waited;
        yeses = ok.yeses;
        noes = one_more p.nacks_from from.0 ok.noes room fits;
      }

  pub lawful_yes : (from : Address) (b : Ballot) (v : Option Value) → from.0 < 256 ^ 2 → length p.acks_from < list_most → b.0 < 256 ^ 8 → Short value_most (bytes_of v) → Lawful (with_yes p from b v)
  lawful_yes from b v fits room high short =
      record {
        client_fits = ok.client_fits;
        id_fits = ok.id_fits;
        ballot_fits = ok.ballot_fits;
        promised_fits = high;
        arrival_fits = ok.arrival_fits;
        key = ok.key;
        first = ok.first;
        second = ok.second;
        promised = short;
        waited = ok.waited;
        yeses = one_more p.acks_from from.0 ok.yeses room fits;
        noes = ok.noes;
      }

  pub lawful_second : (l : List ℕ) → ShortList l → Lawful (second_phase l p)
  lawful_second l short =
      record {
        client_fits = ok.client_fits;
        id_fits = ok.id_fits;
        ballot_fits = ok.ballot_fits;
        promised_fits = ok.promised_fits;
        arrival_fits = ok.arrival_fits;
        key = ok.key;
        first = ok.first;
        second = ok.second;
        promised = ok.promised;
        waited = short;
        yeses = no_entries;
        noes = no_entries;
      }

-- what a client's request must be for its place to be lawful
pub record LawfulRequest (r : Request) : Type 0 where
  pub key : Short key_most (key_of r)
  pub first : Short value_most (bytes_of (first_value r))
  pub second : Short value_most (bytes_of (second_value r))

pub lawful_new : (client : Address) (id : ℕ) (r : Request) (b : Ballot) (l : List ℕ) (at : ℕ) (again : Bool) → client.0 < 256 ^ 2 → id < 256 ^ 8 → LawfulRequest r → b.0 < 256 ^ 8 → ShortList l → at < 256 ^ 8 → Lawful (new_pending client id r b l at again)
lawful_new client id r b l at again from-fits id_fits ok high short at-fits =
    record {
      client_fits = from-fits;
      id_fits = id_fits;
      ballot_fits = high;
      promised_fits = lit< tt;
      arrival_fits = at-fits;
      key = ok.key;
      first = ok.first;
      second = ok.second;
      promised = no_value value_most;
      waited = short;
      yeses = no_entries;
      noes = no_entries;
    }

pub lawful_again : (p : Pending) → Lawful p → (b : Ballot) (l : List ℕ) → b.0 < 256 ^ 8 → ShortList l → Lawful (asked_again b l p)
lawful_again p ok b l high short =
    lawful_new p.client p.id p.req b l p.received_at true ok.client_fits ok.id_fits
    (record { key = ok.key; first = ok.first; second = ok.second }) high short ok.arrival_fits

-- ---- the front of a lawful request

pub small_front : (p : Pending) → Lawful p → Small (front_of p)
unfolding front_of
small_front p ok =
    record {
      key = omega (arith, ok.key.short);
      waited = omega (arith, ok.waited.short);
      yeses = omega (arith, ok.yeses.short);
      noes = omega (arith, ok.noes.short);
    }

-- ---- what a place holds, by its lengths

module _ (p : Pending) (ok : Lawful p) where
  pub key_part : part (place_image (Some p)) key_start (length (key_of p.req)) ≡ key_of p.req
  key_part = content_there (place_image (Some p)) key_start key_most (key_of p.req) _ (key_there p ok)

  pub values_part : part (place_image (Some p)) values_at (length (values_of p.req)) ≡ values_of p.req
  values_part = content_there (place_image (Some p)) values_at values_bytes (values_of p.req) _ (values_there p ok)

  pub promised_part : part (place_image (Some p)) promised_value_at (length (bytes_of p.value)) ≡ bytes_of p.value
  promised_part = content_there (place_image (Some p)) promised_value_at value_most (bytes_of p.value) [] (promised_there p ok)
