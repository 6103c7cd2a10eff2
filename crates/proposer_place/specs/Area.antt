-- The proposer's lent area, byte by byte: the image of a state, the state that an area is read as, and which areas are images of a state that may be lent.
-- Assumes nothing.
use Rattle.std.specs.Prelude.{Bool, true, false, not, cond, ◌&&◌, List, [], ◌∷◌, ◌++◌, ℕ, zero, suc, ◌+◌, ◌*◌, eqb, leb, length, replicate}
use Rattle.std.specs.Prelude.{Option, None, Some}
use Rattle.leaf_fields.specs.Fields.{from_le, to_le, part, byte, same, padded}
use Rattle.messages.specs.declared.Ballot.{Ballot}
use Rattle.messages.specs.Message.{Key, Value, Request}
use Rattle.messages.specs.Limits.{key_most, value_most, list_most, pending_most, option_fits, request_fits, list_fits}
use Rattle.messages.specs.Answers.{bytes_of, entries, entry_bytes}
use Rattle.proposer_rules.specs.State.{Phase, Propose, Accept, Pending, Proposer, key_of, listed}

-- ---- where each field stands: the header

abbrev pub counter_at : ℕ
counter_at = 0

abbrev pub timeout_at : ℕ
timeout_at = 8

-- how many entries the two lists have
abbrev pub accept_count_at : ℕ
accept_count_at = 16

abbrev pub propose_count_at : ℕ
propose_count_at = 17

-- bytes 18 and 19 are zero
abbrev pub accept_list_at : ℕ
accept_list_at = 20

abbrev pub propose_list_at : ℕ
propose_list_at = 50

abbrev pub header_bytes : ℕ
header_bytes = 80

-- a list's row: its entries have two bytes each
abbrev pub list_bytes : ℕ
list_bytes = 2 * list_most

-- ---- and a place

-- 1 if the place is used, 0 if it is free
abbrev pub used_at : ℕ
used_at = 0

-- 1 for the first phase, 2 for the second
abbrev pub phase_at : ℕ
phase_at = 1

-- 1 if the request is retried, else 0
abbrev pub retried_at : ℕ
retried_at = 2

-- 1 `Get`, 2 `Del`, 3 `Set`, 4 `Cas`
abbrev pub kind_at : ℕ
kind_at = 3

abbrev pub key_length_at : ℕ
key_length_at = 4

-- 1 if the value is there, else 0: the request's first value, its second, the promised one
abbrev pub first_mark_at : ℕ
first_mark_at = 5

abbrev pub second_mark_at : ℕ
second_mark_at = 6

abbrev pub promised_mark_at : ℕ
promised_mark_at = 7

abbrev pub client_at : ℕ
client_at = 8

-- the lengths of the same three values, 0 for one that is missing
abbrev pub first_length_at : ℕ
first_length_at = 10

abbrev pub second_length_at : ℕ
second_length_at = 12

abbrev pub promised_length_at : ℕ
promised_length_at = 14

abbrev pub id_at : ℕ
id_at = 16

abbrev pub ballot_at : ℕ
ballot_at = 24

-- the highest promised ballot
abbrev pub promised_at : ℕ
promised_at = 32

abbrev pub arrival_at : ℕ
arrival_at = 40

-- how many entries the three lists have
abbrev pub waited_count_at : ℕ
waited_count_at = 48

abbrev pub yes_count_at : ℕ
yes_count_at = 49

abbrev pub no_count_at : ℕ
no_count_at = 50

-- byte 51 is zero
abbrev pub waited_at : ℕ
waited_at = 52

abbrev pub yes_at : ℕ
yes_at = 82

abbrev pub no_at : ℕ
no_at = 112

-- bytes 142 and 143 are zero
abbrev pub key_start : ℕ
key_start = 144

-- the request's values, the second directly behind the first
abbrev pub values_at : ℕ
values_at = 208

abbrev pub promised_value_at : ℕ
promised_value_at = 720

abbrev pub place_bytes : ℕ
place_bytes = 976

-- room for two values
abbrev pub values_bytes : ℕ
values_bytes = 2 * value_most

-- the area of n places
abbrev pub area_bytes : ℕ → ℕ
area_bytes n = header_bytes + place_bytes * n

-- ---- the parts of a request

-- a `Set`'s value, a `Cas`'s old one
abbrev pub first_value : Request → Option Value
first_value (Request.Get k) = None
first_value (Request.Del k) = None
first_value (Request.Set k v) = Some v
first_value (Request.Cas k old new) = old

-- a `Cas`'s new one
abbrev pub second_value : Request → Option Value
second_value (Request.Get k) = None
second_value (Request.Del k) = None
second_value (Request.Set k v) = None
second_value (Request.Cas k old new) = new

abbrev pub kind_byte : Request → ℕ
kind_byte (Request.Get k) = 1
kind_byte (Request.Del k) = 2
kind_byte (Request.Set k v) = 3
kind_byte (Request.Cas k old new) = 4

abbrev pub phase_byte : Phase → ℕ
phase_byte Propose = 1
phase_byte Accept = 2

abbrev pub flag_byte : Bool → ℕ
flag_byte true = 1
flag_byte false = 0

abbrev pub mark_byte : Option Value → ℕ
mark_byte None = 0
mark_byte (Some v) = 1

-- ---- writing

-- the entries of a list, unused ones zero
unfoldable pub list_row : List ℕ → List ℕ
list_row l = padded list_bytes (entry_bytes l)

-- bytes 0 to 51 of a used place
unfoldable pub place_front : Pending → List ℕ
place_front p =
    1 ∷ phase_byte p.phase ∷ flag_byte p.retried ∷ kind_byte p.req ∷ length (key_of p.req)
    ∷ mark_byte (first_value p.req) ∷ mark_byte (second_value p.req) ∷ mark_byte p.value
    ∷ (to_le 2 p.client.0
    ++ (to_le 2 (length (bytes_of (first_value p.req)))
    ++ (to_le 2 (length (bytes_of (second_value p.req)))
    ++ (to_le 2 (length (bytes_of p.value))
    ++ (to_le 8 p.id
    ++ (to_le 8 p.ballot.0
    ++ (to_le 8 p.promised.0
    ++ (to_le 8 p.received_at
    ++ (length p.waiting_for ∷ length p.acks_from ∷ length p.nacks_from ∷ 0 ∷ [])))))))))

-- the request's values, one behind the other
abbrev pub values_of : Request → List ℕ
values_of r = bytes_of (first_value r) ++ bytes_of (second_value r)

-- bytes 144 to 975: the key and the values
unfoldable pub place_values : Pending → List ℕ
place_values p =
    padded key_most (key_of p.req) ++ (padded values_bytes (values_of p.req) ++ padded value_most (bytes_of p.value))

-- bytes 52 to 975: the lists before them
unfoldable pub place_rest : Pending → List ℕ
place_rest p =
    list_row p.waiting_for ++ (list_row p.acks_from ++ (list_row p.nacks_from ++ (0 ∷ 0 ∷ place_values p)))

-- a free place is all zeros
unfoldable pub place_image : Option Pending → List ℕ
place_image None = replicate place_bytes 0
place_image (Some p) = place_front p ++ place_rest p

unfoldable pub places_image : List (Option Pending) → List ℕ
places_image [] = []
places_image (q ∷ l) = place_image q ++ places_image l

-- bytes 0 to 19 of the area
unfoldable pub header_front : Proposer → List ℕ
header_front s =
    to_le 8 s.counter ++ (to_le 8 s.timeout ++ (length s.accept_acceptors ∷ length s.propose_acceptors ∷ 0 ∷ 0 ∷ []))

-- "State: the counter, two acceptor lists, the timeout, and the pending requests"
unfoldable pub area_image : Proposer → List ℕ
area_image s =
    header_front s ++ (list_row s.accept_acceptors ++ (list_row s.propose_acceptors ++ places_image s.places))

-- ---- reading

abbrev pub phase_from : ℕ → Phase
phase_from n = cond (eqb n 1) Propose Accept

-- a value by its mark
abbrev pub value_from : ℕ → Value → Option Value
value_from mark v = cond (eqb mark 0) None (Some v)

abbrev pub request_from : ℕ → Key → Option Value → Option Value → Request
request_from kind k v w =
    cond (eqb kind 1) (Request.Get k) (cond (eqb kind 2) (Request.Del k) (cond (eqb kind 3) (Request.Set k (bytes_of v)) (Request.Cas k v w)))

-- a number of two bytes, and of eight
abbrev pub short_at : List ℕ → ℕ → ℕ
short_at b at = from_le (part b at 2)

abbrev pub long_at : List ℕ → ℕ → ℕ
long_at b at = from_le (part b at 8)

-- the key and the three values of a place
abbrev pub key_in : List ℕ → Key
key_in b = part b key_start (byte b key_length_at)

abbrev pub first_in : List ℕ → Option Value
first_in b = value_from (byte b first_mark_at) (part b values_at (short_at b first_length_at))

abbrev pub second_in : List ℕ → Option Value
second_in b = value_from (byte b second_mark_at) (part b (values_at + length (bytes_of (first_in b))) (short_at b second_length_at))

abbrev pub promised_in : List ℕ → Option Value
promised_in b = value_from (byte b promised_mark_at) (part b promised_value_at (short_at b promised_length_at))

-- "client, id, request, ballot, phase, waited-for list, who said yes and who no, highest promised ballot with its value .., arrival time, retried or not"
unfoldable pub read_pending : List ℕ → Pending
read_pending b = record {
  client = record { 0 = short_at b client_at };
  id = long_at b id_at;
  req = request_from (byte b kind_at) (key_in b) (first_in b) (second_in b);
  ballot = record { 0 = long_at b ballot_at };
  phase = phase_from (byte b phase_at);
  waiting_for = entries b waited_at (byte b waited_count_at);
  acks_from = entries b yes_at (byte b yes_count_at);
  nacks_from = entries b no_at (byte b no_count_at);
  promised = record { 0 = long_at b promised_at };
  value = promised_in b;
  received_at = long_at b arrival_at;
  retried = eqb (byte b retried_at) 1;
}

unfoldable pub read_place : List ℕ → Option Pending
read_place b = cond (eqb (byte b used_at) 0) None (Some (read_pending b))

-- n places, from `at` on
unfoldable pub read_places : List ℕ → ℕ → ℕ → List (Option Pending)
read_places a at zero = []
read_places a at (suc n) = read_place (part a at place_bytes) ∷ read_places a (at + place_bytes) n

-- an area of n places
unfoldable pub read_area : List ℕ → ℕ → Proposer
read_area a n = record {
  counter = long_at a counter_at;
  accept_acceptors = entries a accept_list_at (byte a accept_count_at);
  propose_acceptors = entries a propose_list_at (byte a propose_count_at);
  timeout = long_at a timeout_at;
  places = read_places a header_bytes n;
}

-- ---- a state that may be lent

-- no number stands twice
unfoldable pub distinct : List ℕ → Bool
distinct [] = true
distinct (x ∷ l) = not (listed x l) && distinct l

-- each of the first stands in the second
unfoldable pub all_listed : List ℕ → List ℕ → Bool
all_listed [] l = true
all_listed (x ∷ xs) l = listed x l && all_listed xs l

-- "promised ballot 0 has no value"
abbrev pub promise_fits : Ballot → Option Value → Bool
promise_fits b None = true
promise_fits b (Some v) = not (eqb b.0 0)

-- "sizes are within limits"; no client is address 0
unfoldable pub sizes_fit : Pending → Bool
sizes_fit p =
    not (eqb p.client.0 0) && request_fits p.req && option_fits p.value
    && list_fits p.waiting_for && leb (length p.acks_from) list_most && leb (length p.nacks_from) list_most

-- "each answerer stands in the waited-for list and answered once"
unfoldable pub answers_fit : Pending → Bool
answers_fit p = all_listed (p.acks_from ++ p.nacks_from) p.waiting_for && distinct (p.acks_from ++ p.nacks_from)

-- ballots "from 1 to the counter"
unfoldable pub pending_fits : ℕ → Pending → Bool
pending_fits c p =
    sizes_fit p && answers_fit p && promise_fits p.promised p.value && leb 1 p.ballot.0 && leb p.ballot.0 c

unfoldable pub places_fit : ℕ → List (Option Pending) → Bool
places_fit c [] = true
places_fit c (None ∷ l) = places_fit c l
places_fit c (Some p ∷ l) = pending_fits c p && places_fit c l

unfoldable pub ballots_of : List (Option Pending) → List ℕ
ballots_of [] = []
ballots_of (None ∷ l) = ballots_of l
ballots_of (Some p ∷ l) = p.ballot.0 ∷ ballots_of l

-- "In a state that may be lent, pending ballots are distinct and from 1 to the counter; sizes are within limits; each answerer stands in the waited-for list and answered once; promised ballot 0 has no value."
unfoldable pub may_be_lent : Proposer → Bool
may_be_lent s =
    list_fits s.accept_acceptors && list_fits s.propose_acceptors && places_fit s.counter s.places && distinct (ballots_of s.places)

-- ---- which areas are images

-- the opposite of refusal 1's line, "a lent area isn't the size that docs/ names for its capacity, or the capacity is outside the limits"
unfoldable pub sized : List ℕ → ℕ → Bool
sized a n = leb 1 n && leb n pending_most && eqb (length a) (area_bytes n)

-- the opposite of refusal 2's line, "the proposer's area is no image of a state as above": what is read and written again is the same bytes
unfoldable pub is_image : List ℕ → ℕ → Bool
is_image a n = sized a n && same a (area_image (read_area a n)) && may_be_lent (read_area a n)
