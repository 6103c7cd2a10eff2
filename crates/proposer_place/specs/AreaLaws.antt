-- The image of a lawful state has the size of its area and is read back as that state, for any number of places: one state has one image, and one image one state.
-- Assumes nothing.
use Rattle.std.specs.Prelude.{◌≡◌, Bool, true, false, ◌&&◌, List, [], ◌∷◌, ◌++◌, ℕ, suc, ◌+◌, ◌*◌, ◌^◌, ◌≤◌, ◌<◌, eqb, length, get_or, drop}
use Rattle.std.proofs.Math.Path.{refl}
use Rattle.std.proofs.Common.{sym, ap, ◌∙◌, append-nil, arith}
use Rattle.std.specs.Prelude.{Option, None, Some}
use borrow.Author.Tests.{eq-eqb, le-leb}
use Rattle.std.proofs.Math.ListN.{length-append}
use Rattle.std.proofs.lemmas.List.{length-replicate}
use Rattle.leaf_fields.specs.Fields.{to_le, byte, part, same, Bytes, padded}
use Rattle.leaf_fields.specs.Laws.{from_le-to_le, and_true, same-true, same_refl}
use Rattle.messages.specs.Message.{Value, Request}
use Rattle.messages.specs.Limits.{key_most, value_most, list_most, pending_most}
use Rattle.messages.specs.Answers.{bytes_of, entries}
use Rattle.proposer_rules.specs.State.{Phase, Propose, Accept, Pending, Proposer, key_of}
use Rattle.proposer_place.specs.Area.{counter_at, timeout_at, accept_count_at, propose_count_at, accept_list_at, propose_list_at, header_bytes, list_bytes, used_at, phase_at, retried_at, kind_at, key_length_at, first_mark_at, second_mark_at, promised_mark_at, client_at, first_length_at, second_length_at, promised_length_at, id_at, ballot_at, promised_at, arrival_at, waited_count_at, yes_count_at, no_count_at, waited_at, yes_at, no_at, key_start, values_at, promised_value_at, place_bytes, values_bytes, area_bytes, first_value, second_value, kind_byte, phase_byte, flag_byte, mark_byte, list_row, place_front, values_of, place_values, place_rest, place_image, places_image, header_front, area_image, phase_from, value_from, request_from, short_at, long_at, key_in, first_in, second_in, promised_in, read_pending, read_place, read_places, read_area, may_be_lent, sized, is_image}
use Rattle.proposer_place.specs.AreaRows.{length-padded, length_list, row_there, row_behind, content_there, first_there, second_there, Entries, list_there}

-- ---- what fits its fields

-- a key or a value of so many bytes at most
pub record Short (most : ℕ) (v : Value) : Type 0 where
  pub short : length v ≤ most
  pub bytes : Bytes v

pub record ShortList (l : List ℕ) : Type 0 where
  pub short : length l ≤ list_most
  pub fit : Entries l

pub record Lawful (p : Pending) : Type 0 where
  pub client_fits : p.client.0 < 256 ^ 2
  pub id_fits : p.id < 256 ^ 8
  pub ballot_fits : p.ballot.0 < 256 ^ 8
  pub promised_fits : p.promised.0 < 256 ^ 8
  pub arrival_fits : p.received_at < 256 ^ 8
  pub key : Short key_most (key_of p.req)
  pub first : Short value_most (bytes_of (first_value p.req))
  pub second : Short value_most (bytes_of (second_value p.req))
  pub promised : Short value_most (bytes_of p.value)
  pub waited : ShortList p.waiting_for
  pub yeses : ShortList p.acks_from
  pub noes : ShortList p.nacks_from

abbrev pub LawfulPlace : Option Pending → Type 0
LawfulPlace None = Unit
LawfulPlace (Some p) = Lawful p

unfoldable pub LawfulPlaces : List (Option Pending) → Type 0
LawfulPlaces l = (i : ℕ) → LawfulPlace (get_or l i None)

pub record LawfulState (s : Proposer) (n : ℕ) : Type 0 where
  pub counter_fits : s.counter < 256 ^ 8
  pub timeout_fits : s.timeout < 256 ^ 8
  pub accept : ShortList s.accept_acceptors
  pub propose : ShortList s.propose_acceptors
  pub full : length s.places ≡ n
  pub each : LawfulPlaces s.places

-- ---- what one byte or a mark says is read back

phase_back : (h : Phase) → phase_from (phase_byte h) ≡ h
phase_back Propose = refl
phase_back Accept = refl

flag_back : (r : Bool) → eqb (flag_byte r) 1 ≡ r
flag_back true = refl
flag_back false = refl

value_back : (v : Option Value) → value_from (mark_byte v) (bytes_of v) ≡ v
value_back None = refl
value_back (Some v) = refl

request_back : (r : Request) → request_from (kind_byte r) (key_of r) (first_value r) (second_value r) ≡ r
request_back (Request.Get k) = refl
request_back (Request.Del k) = refl
request_back (Request.Set k v) = refl
request_back (Request.Cas k old new) = refl

-- ---- a used place

module _ (p : Pending) (ok : Lawful p) where
  abbrev image : List ℕ
  image = place_image (Some p)

  abbrev key_row : List ℕ
  key_row = padded key_most (key_of p.req)

  abbrev values_row : List ℕ
  values_row = padded values_bytes (values_of p.req)

  abbrev promised_row : List ℕ
  promised_row = padded value_most (bytes_of p.value)

  -- the rows, each at its place
  waited_row : drop waited_at image ≡ list_row p.waiting_for ++ (list_row p.acks_from ++ (list_row p.nacks_from ++ (0 ∷ 0 ∷ place_values p)))
  unfolding place_image place_front place_rest to_le
  waited_row = refl

  yes_row : drop yes_at image ≡ list_row p.acks_from ++ (list_row p.nacks_from ++ (0 ∷ 0 ∷ place_values p))
  yes_row = row_behind image waited_at (list_row p.waiting_for) _ list_bytes waited_row (length_list p.waiting_for ok.waited.short)

  no_row : drop no_at image ≡ list_row p.nacks_from ++ (0 ∷ 0 ∷ place_values p)
  no_row = row_behind image yes_at (list_row p.acks_from) _ list_bytes yes_row (length_list p.acks_from ok.yeses.short)

  gap_row : drop (no_at + list_bytes) image ≡ (0 ∷ 0 ∷ []) ++ place_values p
  gap_row = row_behind image no_at (list_row p.nacks_from) _ list_bytes no_row (length_list p.nacks_from ok.noes.short)

  pub key_there : drop key_start image ≡ key_row ++ (values_row ++ promised_row)
  unfolding place_values
  key_there = row_behind image (no_at + list_bytes) (0 ∷ 0 ∷ []) (place_values p) 2 gap_row refl

  pub values_there : drop values_at image ≡ values_row ++ promised_row
  values_there = row_behind image key_start key_row _ key_most key_there (length-padded key_most (key_of p.req) ok.key.short)

  pub values_short : length (values_of p.req) ≤ values_bytes
  values_short = simp length-append (omega (arith, ok.first.short, ok.second.short))

  pub promised_there : drop promised_value_at image ≡ promised_row ++ []
  promised_there =
      row_behind image values_at values_row promised_row values_bytes values_there (length-padded values_bytes (values_of p.req) values_short)
      ∙ sym (append-nil promised_row)

  -- the numbers of the front
  client_back : short_at image client_at ≡ p.client.0
  unfolding place_image place_front to_le
  client_back = from_le-to_le 2 p.client.0 ok.client_fits

  first_length_lem : short_at image first_length_at ≡ length (bytes_of (first_value p.req))
  unfolding place_image place_front to_le
  first_length_lem = from_le-to_le 2 (length (bytes_of (first_value p.req))) (omega (arith, ok.first.short))

  second_length : short_at image second_length_at ≡ length (bytes_of (second_value p.req))
  unfolding place_image place_front to_le
  second_length = from_le-to_le 2 (length (bytes_of (second_value p.req))) (omega (arith, ok.second.short))

  promised_length : short_at image promised_length_at ≡ length (bytes_of p.value)
  unfolding place_image place_front to_le
  promised_length = from_le-to_le 2 (length (bytes_of p.value)) (omega (arith, ok.promised.short))

  id_back : long_at image id_at ≡ p.id
  unfolding place_image place_front to_le
  id_back = from_le-to_le 8 p.id ok.id_fits

  ballot_back : long_at image ballot_at ≡ p.ballot.0
  unfolding place_image place_front to_le
  ballot_back = from_le-to_le 8 p.ballot.0 ok.ballot_fits

  promised_back : long_at image promised_at ≡ p.promised.0
  unfolding place_image place_front to_le
  promised_back = from_le-to_le 8 p.promised.0 ok.promised_fits

  arrival_back : long_at image arrival_at ≡ p.received_at
  unfolding place_image place_front to_le
  arrival_back = from_le-to_le 8 p.received_at ok.arrival_fits

  -- the single bytes of the front
  phase_there : byte image phase_at ≡ phase_byte p.phase
  unfolding place_image place_front
  phase_there = refl

  retried_there : byte image retried_at ≡ flag_byte p.retried
  unfolding place_image place_front
  retried_there = refl

  kind_there : byte image kind_at ≡ kind_byte p.req
  unfolding place_image place_front
  kind_there = refl

  key-length : byte image key_length_at ≡ length (key_of p.req)
  unfolding place_image place_front
  key-length = refl

  first_mark : byte image first_mark_at ≡ mark_byte (first_value p.req)
  unfolding place_image place_front
  first_mark = refl

  second_mark : byte image second_mark_at ≡ mark_byte (second_value p.req)
  unfolding place_image place_front
  second_mark = refl

  promised_mark : byte image promised_mark_at ≡ mark_byte p.value
  unfolding place_image place_front
  promised_mark = refl

  waited_count : byte image waited_count_at ≡ length p.waiting_for
  unfolding place_image place_front to_le
  waited_count = refl

  yes_count : byte image yes_count_at ≡ length p.acks_from
  unfolding place_image place_front to_le
  yes_count = refl

  no_count : byte image no_count_at ≡ length p.nacks_from
  unfolding place_image place_front to_le
  no_count = refl

  -- the values and the lists
  key_back : key_in image ≡ key_of p.req
  key_back = rw key-length (content_there image key_start key_most (key_of p.req) _ key_there)

  first_back : first_in image ≡ first_value p.req
  first_back =
      rw (first_mark, first_length_lem, first_there image values_at values_bytes (bytes_of (first_value p.req)) (bytes_of (second_value p.req)) promised_row values_there)
      (value_back (first_value p.req))

  second_back : second_in image ≡ second_value p.req
  second_back =
      rw (second_mark, first_back, second_length, second_there image values_at values_bytes (bytes_of (first_value p.req)) (bytes_of (second_value p.req)) promised_row values_there)
      (value_back (second_value p.req))

  promised_value_back : promised_in image ≡ p.value
  promised_value_back =
      rw (promised_mark, promised_length, content_there image promised_value_at value_most (bytes_of p.value) [] promised_there)
      (value_back p.value)

  req_back : request_from (byte image kind_at) (key_in image) (first_in image) (second_in image) ≡ p.req
  req_back = rw (kind_there, key_back, second_back, first_back) (request_back p.req)

  waited_back : entries image waited_at (byte image waited_count_at) ≡ p.waiting_for
  waited_back = rw waited_count (list_there p.waiting_for _ image waited_at waited_row ok.waited.fit)

  yes_back : entries image yes_at (byte image yes_count_at) ≡ p.acks_from
  yes_back = rw yes_count (list_there p.acks_from _ image yes_at yes_row ok.yeses.fit)

  no_back : entries image no_at (byte image no_count_at) ≡ p.nacks_from
  no_back = rw no_count (list_there p.nacks_from _ image no_at no_row ok.noes.fit)

  pub read_pending_lem : read_pending image ≡ p
  unfolding read_pending
  read_pending_lem =
      rw (
        client_back,
        id_back,
        req_back,
        ballot_back,
        phase_there,
        phase_back p.phase,
        waited_back,
        yes_back,
        no_back,
        promised_back,
        promised_value_back,
        arrival_back,
        retried_there,
        flag_back p.retried,
      )

  used_there : byte image used_at ≡ 1
  unfolding place_image place_front
  used_there = refl

  length_front : length (place_front p) ≡ waited_at
  unfolding place_front to_le
  length_front = refl

  length_used : length image ≡ place_bytes
  unfolding place_image place_rest place_values
  length_used =
      simp (
        length-append,
        length_front,
        length_list p.waiting_for ok.waited.short,
        length_list p.acks_from ok.yeses.short,
        length_list p.nacks_from ok.noes.short,
        length-padded key_most (key_of p.req) ok.key.short,
        length-padded values_bytes (values_of p.req) values_short,
        length-padded value_most (bytes_of p.value) ok.promised.short,
      )

-- ---- any place

pub length_place : (q : Option Pending) → LawfulPlace q → length (place_image q) ≡ place_bytes
unfolding place_image
length_place None ok = length-replicate {A = ℕ} place_bytes 0
length_place (Some p) ok = length_used p ok

pub read_written_place : (q : Option Pending) → LawfulPlace q → read_place (place_image q) ≡ q
unfolding read_place place_image
read_written_place None ok = refl
read_written_place (Some p) ok = rw (used_there p ok, read_pending_lem p ok)

-- ---- all places

pub length_places : (l : List (Option Pending)) → LawfulPlaces l → length (places_image l) ≡ place_bytes * length l
unfolding places_image LawfulPlaces
length_places [] ok = refl
length_places (q ∷ l) ok =
    simp (length-append, length_place q (ok 0), length_places l (λ i. ok (suc i))) (omega arith)

-- n places from anywhere in an area
pub read_written_places : (l : List (Option Pending)) (a : List ℕ) (at : ℕ) → drop at a ≡ places_image l → LawfulPlaces l → read_places a at (length l) ≡ l
unfolding read_places places_image LawfulPlaces
read_written_places [] a at found ok = refl
read_written_places (q ∷ l) a at found ok =
    let first : part a at place_bytes ≡ place_image q = row_there a at (place_image q) (places_image l) place_bytes found (length_place q (ok 0)) in
    let behind : drop (at + place_bytes) a ≡ places_image l = row_behind a at (place_image q) (places_image l) place_bytes found (length_place q (ok 0)) in
    rw (first, read_written_place q (ok 0), read_written_places l a (at + place_bytes) behind (λ i. ok (suc i)))

-- ---- the area

module _ (s : Proposer) (n : ℕ) (ok : LawfulState s n) where
  abbrev area : List ℕ
  area = area_image s

  accept_row : drop accept_list_at area ≡ list_row s.accept_acceptors ++ (list_row s.propose_acceptors ++ places_image s.places)
  unfolding area_image header_front to_le
  accept_row = refl

  propose_row : drop propose_list_at area ≡ list_row s.propose_acceptors ++ places_image s.places
  propose_row = row_behind area accept_list_at (list_row s.accept_acceptors) _ list_bytes accept_row (length_list s.accept_acceptors ok.accept.short)

  places_row : drop header_bytes area ≡ places_image s.places
  places_row = row_behind area propose_list_at (list_row s.propose_acceptors) _ list_bytes propose_row (length_list s.propose_acceptors ok.propose.short)

  counter_back : long_at area counter_at ≡ s.counter
  unfolding area_image header_front to_le
  counter_back = from_le-to_le 8 s.counter ok.counter_fits

  timeout_back : long_at area timeout_at ≡ s.timeout
  unfolding area_image header_front to_le
  timeout_back = from_le-to_le 8 s.timeout ok.timeout_fits

  accept_count : byte area accept_count_at ≡ length s.accept_acceptors
  unfolding area_image header_front to_le
  accept_count = refl

  propose_count : byte area propose_count_at ≡ length s.propose_acceptors
  unfolding area_image header_front to_le
  propose_count = refl

  accept_back : entries area accept_list_at (byte area accept_count_at) ≡ s.accept_acceptors
  accept_back = rw accept_count (list_there s.accept_acceptors _ area accept_list_at accept_row ok.accept.fit)

  propose_back : entries area propose_list_at (byte area propose_count_at) ≡ s.propose_acceptors
  propose_back = rw propose_count (list_there s.propose_acceptors _ area propose_list_at propose_row ok.propose.fit)

  places_back : read_places area header_bytes n ≡ s.places
  places_back = ap (read_places area header_bytes) (sym ok.full) ∙ read_written_places s.places area header_bytes places_row ok.each

  -- what was written is read back
  pub read_written : read_area (area_image s) n ≡ s
  unfolding read_area
  read_written = rw (counter_back, accept_back, propose_back, timeout_back, places_back)

  length-header : length (header_front s) ≡ accept_list_at
  unfolding header_front to_le
  length-header = refl

  pub length_area : length (area_image s) ≡ area_bytes n
  unfolding area_image
  length_area =
      simp (
        length-append,
        length-header,
        length_list s.accept_acceptors ok.accept.short,
        length_list s.propose_acceptors ok.propose.short,
        length_places s.places ok.each,
        ok.full,
      ) (omega arith)

  -- so it is an image, if its state may be lent and its places are within the limits
  pub image_is : 1 ≤ n → n ≤ pending_most → may_be_lent s ≡ true → is_image (area_image s) n ≡ true
  unfolding is_image sized
  image_is some-places few-places lent =
      rw (le-leb 1 n some-places, le-leb n pending_most few-places, length_area, eq-eqb (area_bytes n) (area_bytes n) refl, read_written, same_refl area, lent)

-- what an image is read as is written again as it was
pub written_read : (a : List ℕ) (n : ℕ) → is_image a n ≡ true → area_image (read_area a n) ≡ a
unfolding is_image
written_read a n h =
    let front = and_true (sized a n && same a (area_image (read_area a n))) (may_be_lent (read_area a n)) h in
    sym (same-true a (area_image (read_area a n)) (and_true (sized a n) (same a (area_image (read_area a n))) front.0).1)

-- two states with one image are one
pub one_image : (s s' : Proposer) (n : ℕ) → LawfulState s n → LawfulState s' n → area_image s ≡ area_image s' → s ≡ s'
one_image s s' n ok ok' e = sym (read_written s n ok) ∙ ap (λ (a : List ℕ). read_area a n) e ∙ read_written s' n ok'
