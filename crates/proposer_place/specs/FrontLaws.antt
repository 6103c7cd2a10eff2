-- The front of a place: its bytes are those of the request's image, and what is taken out of any row of a place's length is the front of what the row is read as.
-- Assumes nothing.
use Rattle.std.specs.Prelude.{◌≡◌, refl, Bool, true, false, cond, List, ℕ, ◌+◌, ◌-◌, ◌<◌, min, drop}
use Rattle.std.proofs.Math.Path.{ap}
use Rattle.std.proofs.Common.{◌∙◌, arith, length-take, length-drop}
use Rattle.std.specs.Prelude.{Option, None, Some}
use Rattle.std.proofs.Math.Dec.{eqb}
use Rattle.std.proofs.Math.ListN.{length}
use Rattle.leaf_fields.specs.Fields.{to_le, part, byte}
use Rattle.messages.specs.declared.Req.{Req}
use Rattle.messages.specs.Message.{Key, Value, Request, lent, mark}
use Rattle.messages.specs.Answers.{marked, bytes_of, request_rpc}
use Rattle.proposer_place.specs.declared.front.Front.{Front}
use Rattle.proposer_rules.specs.State.{Phase, Propose, Accept, Pending, key_of}
use Rattle.proposer_place.specs.Area.{waited_at, place_bytes, key_start, values_at, promised_value_at, first_length_at, second_length_at, promised_length_at, client_at, id_at, ballot_at, promised_at, arrival_at, phase_at, retried_at, kind_at, key_length_at, first_mark_at, second_mark_at, promised_mark_at, waited_count_at, yes_count_at, no_count_at, yes_at, no_at, first_value, second_value, kind_byte, phase_byte, mark_byte, place_front, phase_from, value_from, short_at, long_at, key_in, first_in, second_in, promised_in, read_pending}
use Rattle.proposer_place.specs.Front.{phase_of, front_of, phase_code, kind_code, first_code, second_code, mark_bytes, number_bytes, count_bytes, front_bytes}
use Rattle.proposer_place.specs.Rows.{entries-length}

-- ---- its bytes

phase_same : (h : Phase) → phase_code (phase_of h) ≡ phase_byte h
phase_same Propose = refl
phase_same Accept = refl

mark_same : (v : Option Value) → mark (marked v) ≡ mark_byte v
mark_same None = refl
mark_same (Some v) = refl

kind_same : (r : Request) → kind_code (request_rpc r) ≡ kind_byte r
kind_same (Request.Get k) = refl
kind_same (Request.Del k) = refl
kind_same (Request.Set k v) = refl
kind_same (Request.Cas k old new) = refl

first_same : (r : Request) → first_code (request_rpc r) ≡ mark_byte (first_value r)
first_same (Request.Get k) = refl
first_same (Request.Del k) = refl
first_same (Request.Set k v) = refl
first_same (Request.Cas k old new) = mark_same old

second_same : (r : Request) → second_code (request_rpc r) ≡ mark_byte (second_value r)
second_same (Request.Get k) = refl
second_same (Request.Del k) = refl
second_same (Request.Set k v) = refl
second_same (Request.Cas k old new) = mark_same new

pub front_bytes_lem : (p : Pending) → front_bytes (front_of p) ≡ place_front p
unfolding front_bytes mark_bytes number_bytes count_bytes front_of place_front to_le
front_bytes_lem p =
    rw (phase_same p.phase, kind_same p.req, first_same p.req, second_same p.req, mark_same p.value)

pub length_marks : (f : Front) → length (mark_bytes f) ≡ 8
unfolding mark_bytes
length_marks f = refl

pub length_numbers : (f : Front) → length (number_bytes f) ≡ 40
unfolding number_bytes to_le
length_numbers f = refl

pub length-front_bytes : (f : Front) → length (front_bytes f) ≡ waited_at
unfolding front_bytes mark_bytes number_bytes count_bytes to_le
length-front_bytes f = refl

-- ---- what a row is read as, by its bytes

value_mark : (mark : ℕ) (v : Value) → marked (value_from mark v) ≡ cond (eqb mark 0) None (Some lent)
value_mark mark v = go (eqb mark 0)
  where
    go : (z : Bool) → marked (cond z None (Some v)) ≡ cond z None (Some lent)
    go true = refl
    go false = refl

value-length : (mark n : ℕ) (v : Value) → length v ≡ n → length (bytes_of (value_from mark v)) ≡ cond (eqb mark 0) 0 n
value-length mark n v e = go (eqb mark 0)
  where
    go : (z : Bool) → length (bytes_of (cond z None (Some v))) ≡ cond z 0 n
    go true = refl
    go false = e

-- a request by its kind
abbrev by_kinds : Bool → Bool → Bool → Key → Option Value → Option Value → Request
by_kinds x y z k v w = cond x (Request.Get k) (cond y (Request.Del k) (cond z (Request.Set k (bytes_of v)) (Request.Cas k v w)))

request_key : (x y z : Bool) (k : Key) (v w : Option Value) → key_of (by_kinds x y z k v w) ≡ k
request_key true y z k v w = refl
request_key false true z k v w = refl
request_key false false true k v w = refl
request_key false false false k v w = refl

request_kind : (x y z : Bool) (k : Key) (v w : Option Value) → request_rpc (by_kinds x y z k v w) ≡ cond x Req.Get (cond y Req.Del (cond z Req.Set (Req.Cas (marked v) (marked w))))
request_kind true y z k v w = refl
request_kind false true z k v w = refl
request_kind false false true k v w = refl
request_kind false false false k v w = refl

request_first : (x y z : Bool) (k : Key) (v w : Option Value) → length (bytes_of (first_value (by_kinds x y z k v w))) ≡ cond x 0 (cond y 0 (length (bytes_of v)))
request_first true y z k v w = refl
request_first false true z k v w = refl
request_first false false true k v w = refl
request_first false false false k v w = refl

-- the second value's room is what the first leaves
request_second : (x y z m : Bool) (k : Key) (v w : Option Value) (n : ℕ) → length (bytes_of w) ≡ cond m 0 (min n (place_bytes - (values_at + length (bytes_of v)))) → length (bytes_of (second_value (by_kinds x y z k v w))) ≡ cond x 0 (cond y 0 (cond z 0 (cond m 0 (min n (768 - cond x 0 (cond y 0 (length (bytes_of v))))))))
request_second true y z m k v w n e = refl
request_second false true z m k v w n e = refl
request_second false false true m k v w n e = refl
request_second false false false true k v w n e = e
request_second false false false false k v w n e = omega arith

-- ---- the front of what a row of a place's length is read as, whatever its bytes

module _ (b : List ℕ) (long : length b ≡ place_bytes) (small : (i : ℕ) → byte b i < 256) where
  row_length : (at n : ℕ) → length (part b at n) ≡ min n (place_bytes - at)
  row_length at n = length-take n (drop at b) ∙ ap (min n) (length-drop at b ∙ ap (λ (k : ℕ). k - at) long)

  key-length : length (key_in b) ≡ byte b key_length_at
  key-length = omega (arith, row_length key_start (byte b key_length_at), small key_length_at)

  abbrev first_length : ℕ
  first_length = cond (eqb (byte b first_mark_at) 0) 0 (min (short_at b first_length_at) 768)

  first_length_lem : length (bytes_of (first_in b)) ≡ first_length
  first_length_lem = value-length (byte b first_mark_at) (min (short_at b first_length_at) 768) _ (row_length values_at (short_at b first_length_at))

  second_length : length (bytes_of (second_in b)) ≡ cond (eqb (byte b second_mark_at) 0) 0 (min (short_at b second_length_at) (place_bytes - (values_at + length (bytes_of (first_in b)))))
  second_length = value-length (byte b second_mark_at) _ _ (row_length (values_at + length (bytes_of (first_in b))) (short_at b second_length_at))

  promised_length : length (bytes_of (promised_in b)) ≡ cond (eqb (byte b promised_mark_at) 0) 0 (min (short_at b promised_length_at) 256)
  promised_length = value-length (byte b promised_mark_at) _ _ (row_length promised_value_at (short_at b promised_length_at))

  -- what `take` makes of the row's bytes
  pub front_read : front_of (read_pending b) ≡ record {
    phase = phase_of (phase_from (byte b phase_at));
    retried = eqb (byte b retried_at) 1;
    req = cond (eqb (byte b kind_at) 1) Req.Get (cond (eqb (byte b kind_at) 2) Req.Del (cond (eqb (byte b kind_at) 3) Req.Set (Req.Cas (cond (eqb (byte b first_mark_at) 0) None (Some lent)) (cond (eqb (byte b second_mark_at) 0) None (Some lent)))));
    key_len = byte b key_length_at;
    first_len = cond (eqb (byte b kind_at) 1) 0 (cond (eqb (byte b kind_at) 2) 0 first_length);
    second_len = cond (eqb (byte b kind_at) 1) 0 (cond (eqb (byte b kind_at) 2) 0 (cond (eqb (byte b kind_at) 3) 0 (cond (eqb (byte b second_mark_at) 0) 0 (min (short_at b second_length_at) (768 - cond (eqb (byte b kind_at) 1) 0 (cond (eqb (byte b kind_at) 2) 0 first_length))))));
    mark = cond (eqb (byte b promised_mark_at) 0) None (Some lent);
    value_len = cond (eqb (byte b promised_mark_at) 0) 0 (min (short_at b promised_length_at) 256);
    client = record { 0 = short_at b client_at };
    id = long_at b id_at;
    ballot = record { 0 = long_at b ballot_at };
    promised = record { 0 = long_at b promised_at };
    received_at = long_at b arrival_at;
    waiting_for = byte b waited_count_at;
    acks_from = byte b yes_count_at;
    nacks_from = byte b no_count_at;
  }
  unfolding front_of read_pending
  front_read =
      let x = eqb (byte b kind_at) 1 in
      let y = eqb (byte b kind_at) 2 in
      let z = eqb (byte b kind_at) 3 in
      let k = key_in b in
      let v = first_in b in
      let w = second_in b in
      cc (
        request_kind x y z k v w,
        value_mark (byte b first_mark_at) (part b values_at (short_at b first_length_at)),
        value_mark (byte b second_mark_at) (part b (values_at + length (bytes_of v)) (short_at b second_length_at)),
        ap length (request_key x y z k v w),
        key-length,
        request_first x y z k v w,
        first_length_lem,
        request_second x y z (eqb (byte b second_mark_at) 0) k v w (short_at b second_length_at) second_length,
        value_mark (byte b promised_mark_at) (part b promised_value_at (short_at b promised_length_at)),
        promised_length,
        entries-length b waited_at (byte b waited_count_at),
        entries-length b yes_at (byte b yes_count_at),
        entries-length b no_at (byte b no_count_at),
      )
