-- What an image is read as: a state that fits its fields and that may be lent, so one area is the image of one state.
-- Assumes nothing.
use Rattle.std.specs.Prelude.{◌≡◌, refl, Bool, true, false, not, cond, ◌&&◌, List, [], ◌∷◌, ℕ, zero, suc, ◌+◌, ◌^◌, ◌≤◌, ◌<◌, eqb, leb, length, take, drop}
use Rattle.std.proofs.Common.{get_or, sym, ◌∙◌, pow-suc, arith, leb-true, lit<}
use Rattle.std.specs.Prelude.{Option, None, Some}
use Rattle.leaf_fields.specs.Fields.{from_le, part, byte, same, Bytes}
use Rattle.leaf_fields.specs.Laws.{and_true, bytes_drop, bytes_part}
use Rattle.messages.specs.Message.{Key, Value, Request}
use Rattle.messages.specs.Limits.{key_most, value_most, list_most, key_fits, value_fits, option_fits, request_fits, none_zero, list_fits}
use Rattle.messages.specs.Answers.{bytes_of, entries}
use Rattle.messages.specs.Fit.{short_key, short_value}
use Rattle.proposer_rules.specs.State.{Pending, Proposer, key_of}
use Rattle.proposer_place.specs.Area.{counter_at, timeout_at, accept_count_at, propose_count_at, accept_list_at, propose_list_at, header_bytes, used_at, kind_at, key_length_at, first_mark_at, second_mark_at, promised_mark_at, client_at, first_length_at, second_length_at, promised_length_at, id_at, ballot_at, promised_at, arrival_at, waited_count_at, yes_count_at, no_count_at, waited_at, yes_at, no_at, key_start, values_at, promised_value_at, place_bytes, first_value, second_value, area_image, value_from, request_from, short_at, long_at, key_in, first_in, second_in, read_pending, read_place, read_places, read_area, distinct, promise_fits, sizes_fit, answers_fit, pending_fits, places_fit, ballots_of, may_be_lent, sized, is_image}
use Rattle.proposer_place.specs.AreaRows.{Entries}
use Rattle.proposer_place.specs.AreaLaws.{Lawful, LawfulPlace, LawfulPlaces, LawfulState, written_read, one_image}

-- ---- numbers and lists

-- a number that is read fits its width
take_fits : (n : ℕ) (l : List ℕ) → Bytes l → from_le (take n l) < 256 ^ n
unfolding from_le Bytes
take_fits zero l h = lit< tt
take_fits (suc n) [] h = omega (arith, pow-suc 256 n, take_fits n [] h)
take_fits (suc n) (b ∷ l) h = omega (arith, h 0, pow-suc 256 n, take_fits n l (λ i. h (suc i)))

part_fits : (b : List ℕ) (at n : ℕ) → Bytes b → from_le (part b at n) < 256 ^ n
part_fits b at n h = take_fits n (drop at b) (bytes_drop at b h)

entries_fit : (b : List ℕ) (at n : ℕ) → Bytes b → Entries (entries b at n)
unfolding entries Entries
entries_fit b at zero h = λ i. lit< tt
entries_fit b at (suc n) h = λ i. elim i as (λ z. get_or (entries b at (suc n)) z 0 < 256 ^ 2) [ zero ↦ part_fits b at 2 h | suc j ↦ entries_fit b (at + 2) n h j ]

list_short : (l : List ℕ) → list_fits l ≡ true → length l ≤ list_most
unfolding list_fits
list_short l h = leb-true (length l) list_most (and_true (leb (length l) list_most) (none_zero l) h).0

-- ---- values

bytes_nothing : Bytes []
unfolding Bytes
bytes_nothing = λ i. lit< tt

bytes_value : (mark : ℕ) (v : Value) → Bytes v → Bytes (bytes_of (value_from mark v))
bytes_value mark v h = go (eqb mark 0)
  where
    go : (z : Bool) → Bytes (bytes_of (cond z None (Some v)))
    go true = bytes_nothing
    go false = h

-- the key and the values of a request
abbrev AllBytes : Request → Type 0
AllBytes r = Bytes (key_of r) × Bytes (bytes_of (first_value r)) × Bytes (bytes_of (second_value r))

bytes_request : (kind : ℕ) (k : Key) (v w : Option Value) → Bytes k → Bytes (bytes_of v) → Bytes (bytes_of w) → AllBytes (request_from kind k v w)
bytes_request kind k v w hk hv hw = go (eqb kind 1) (eqb kind 2) (eqb kind 3)
  where
    go : (x y z : Bool) → AllBytes (cond x (Request.Get k) (cond y (Request.Del k) (cond z (Request.Set k (bytes_of v)) (Request.Cas k v w))))
    go true y z = (hk, bytes_nothing, bytes_nothing)
    go false true z = (hk, bytes_nothing, bytes_nothing)
    go false false true = (hk, hv, bytes_nothing)
    go false false false = (hk, hv, hw)

abbrev pub AllShort : Request → Type 0
AllShort r = (length (key_of r) ≤ key_most) × (length (bytes_of (first_value r)) ≤ value_most) × (length (bytes_of (second_value r)) ≤ value_most)

pub short_request : (r : Request) → request_fits r ≡ true → AllShort r
short_request (Request.Get k) h = (short_key k h, omega arith, omega arith)
short_request (Request.Del k) h = (short_key k h, omega arith, omega arith)
short_request (Request.Set k v) h =
    let parts = and_true (key_fits k) (value_fits v) h in
    (short_key k parts.0, short_value (Some v) parts.1, omega arith)
short_request (Request.Cas k old new) h =
    let parts = and_true (key_fits k && option_fits old) (option_fits new) h in
    let front = and_true (key_fits k) (option_fits old) parts.0 in
    (short_key k front.0, short_value old front.1, short_value new parts.1)

-- ---- a place

-- what `sizes_fit` says
record Sizes (p : Pending) : Type 0 where
  request : AllShort p.req
  value : length (bytes_of p.value) ≤ value_most
  waited : length p.waiting_for ≤ list_most
  yeses : length p.acks_from ≤ list_most
  noes : length p.nacks_from ≤ list_most

sizes_of : (p : Pending) → sizes_fit p ≡ true → Sizes p
unfolding sizes_fit
sizes_of p h =
    let client = not (eqb p.client.0 0) in
    let req = request_fits p.req in
    let val = option_fits p.value in
    let waiting = list_fits p.waiting_for in
    let yes = leb (length p.acks_from) list_most in
    let no = leb (length p.nacks_from) list_most in
    let toNo = and_true (client && req && val && waiting && yes) no h in
    let toYes = and_true (client && req && val && waiting) yes toNo.0 in
    let toWaiting = and_true (client && req && val) waiting toYes.0 in
    let toVal = and_true (client && req) val toWaiting.0 in
    let toReq = and_true client req toVal.0 in
    record {
      request = short_request p.req toReq.1;
      value = short_value p.value toVal.1;
      waited = list_short p.waiting_for toWaiting.1;
      yeses = leb-true (length p.acks_from) list_most toYes.1;
      noes = leb-true (length p.nacks_from) list_most toNo.1;
    }

sizes_of_pending : (c : ℕ) (p : Pending) → pending_fits c p ≡ true → Sizes p
unfolding pending_fits
sizes_of_pending c p h =
    let sizes = sizes_fit p in
    let answers = answers_fit p in
    let promise = promise_fits p.promised p.value in
    let low = leb 1 p.ballot.0 in
    let toHigh = and_true (sizes && answers && promise && low) (leb p.ballot.0 c) h in
    let toLow = and_true (sizes && answers && promise) low toHigh.0 in
    let toPromise = and_true (sizes && answers) promise toLow.0 in
    sizes_of p (and_true sizes answers toPromise.0).0

lawful_pending : (b : List ℕ) → Bytes b → Sizes (read_pending b) → Lawful (read_pending b)
unfolding read_pending
lawful_pending b h z =
    let bytes = bytes_request (byte b kind_at) (key_in b) (first_in b) (second_in b) (bytes_part b key_start (byte b key_length_at) h)
    (bytes_value (byte b first_mark_at) _ (bytes_part b values_at (short_at b first_length_at) h))
    (bytes_value (byte b second_mark_at) _ (bytes_part b (values_at + length (bytes_of (first_in b))) (short_at b second_length_at) h)) in
    record {
      client_fits = part_fits b client_at 2 h;
      id_fits = part_fits b id_at 8 h;
      ballot_fits = part_fits b ballot_at 8 h;
      promised_fits = part_fits b promised_at 8 h;
      arrival_fits = part_fits b arrival_at 8 h;
      key = record { short = z.request.0; bytes = bytes.0 };
      first = record { short = z.request.1; bytes = bytes.1 };
      second = record { short = z.request.2; bytes = bytes.2 };
      promised = record { short = z.value; bytes = bytes_value (byte b promised_mark_at) _ (bytes_part b promised_value_at (short_at b promised_length_at) h) };
      waited = record { short = z.waited; fit = entries_fit b waited_at (byte b waited_count_at) h };
      yeses = record { short = z.yeses; fit = entries_fit b yes_at (byte b yes_count_at) h };
      noes = record { short = z.noes; fit = entries_fit b no_at (byte b no_count_at) h };
    }

-- a place that fits, before others
lawful_place : (c : ℕ) (b : List ℕ) (l : List (Option Pending)) → Bytes b → places_fit c (read_place b ∷ l) ≡ true → LawfulPlace (read_place b) × (places_fit c l ≡ true)
unfolding read_place places_fit
lawful_place c b l h fits = go (eqb (byte b used_at) 0) fits
  where
    go : (z : Bool) → places_fit c (cond z None (Some (read_pending b)) ∷ l) ≡ true → LawfulPlace (cond z None (Some (read_pending b))) × (places_fit c l ≡ true)
    go true fit = (tt, fit)
    go false fit =
        let parts = and_true (pending_fits c (read_pending b)) (places_fit c l) fit in
        (lawful_pending b h (sizes_of_pending c (read_pending b) parts.0), parts.1)

lawful_places : (c : ℕ) (a : List ℕ) (at n : ℕ) → Bytes a → places_fit c (read_places a at n) ≡ true → LawfulPlaces (read_places a at n)
unfolding read_places LawfulPlaces
lawful_places c a at zero h fits = λ i. tt
lawful_places c a at (suc n) h fits =
    let parts = lawful_place c (part a at place_bytes) (read_places a (at + place_bytes) n) (bytes_part a at place_bytes h) fits in
    λ i. elim i as (λ z. LawfulPlace (get_or (read_places a at (suc n)) z None)) [ zero ↦ parts.0 | suc j ↦ lawful_places c a (at + place_bytes) n h parts.1 j ]

pub length_read : (a : List ℕ) (at n : ℕ) → length (read_places a at n) ≡ n
unfolding read_places
length_read a at zero = refl
length_read a at (suc n) = rw (length_read a (at + place_bytes) n)

-- ---- the area

-- what is read from bytes and may be lent fits its fields
pub lawful_read : (a : List ℕ) (n : ℕ) → Bytes a → may_be_lent (read_area a n) ≡ true → LawfulState (read_area a n) n
unfolding read_area may_be_lent
lawful_read a n h lent =
    let accept = entries a accept_list_at (byte a accept_count_at) in
    let propose = entries a propose_list_at (byte a propose_count_at) in
    let places = read_places a header_bytes n in
    let fit = places_fit (long_at a counter_at) places in
    let toBallots = and_true (list_fits accept && list_fits propose && fit) (distinct (ballots_of places)) lent in
    let toPlaces = and_true (list_fits accept && list_fits propose) fit toBallots.0 in
    let lists = and_true (list_fits accept) (list_fits propose) toPlaces.0 in
    record {
      counter_fits = part_fits a counter_at 8 h;
      timeout_fits = part_fits a timeout_at 8 h;
      accept = record { short = list_short accept lists.0; fit = entries_fit a accept_list_at (byte a accept_count_at) h };
      propose = record { short = list_short propose lists.1; fit = entries_fit a propose_list_at (byte a propose_count_at) h };
      full = length_read a header_bytes n;
      each = lawful_places (long_at a counter_at) a header_bytes n h toPlaces.1;
    }

-- an image may be lent
pub image_lent : (a : List ℕ) (n : ℕ) → is_image a n ≡ true → may_be_lent (read_area a n) ≡ true
unfolding is_image
image_lent a n h = (and_true (sized a n && same a (area_image (read_area a n))) (may_be_lent (read_area a n)) h).1

-- an area that is an image is the image of one lawful state, the one that is read
pub only_state : (a : List ℕ) (n : ℕ) (s : Proposer) → Bytes a → is_image a n ≡ true → LawfulState s n → area_image s ≡ a → s ≡ read_area a n
only_state a n s h image ok e = one_image s (read_area a n) n ok (lawful_read a n h (image_lent a n image)) (e ∙ sym (written_read a n image))
