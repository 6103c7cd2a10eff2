-- What is read of a place and written again: each row is the part of the place that the struct tells.
-- Assumes nothing.
use Rattle.std.specs.Prelude.{◌≡◌, refl, Bool, true, false, cond, List, [], ◌∷◌, ◌++◌, ℕ, zero, suc, ◌+◌, ◌-◌, ◌*◌, eqb, take, drop}
use Rattle.std.proofs.Common.{sym, ◌∙◌, arith}
use Rattle.std.proofs.Math.Path.{ap}
use Rattle.std.specs.Prelude.{Option, None, Some}
use Rattle.std.proofs.Math.ListN.{length}
use Rattle.leaf_fields.specs.Fields.{part, span, byte, Bytes}
use Rattle.messages.specs.Message.{Key, Value, Request}
use Rattle.messages.specs.Answers.{bytes_of, entry_bytes}
use Rattle.proposer_rules.specs.State.{key_of}
use Rattle.proposer_place.specs.declared.front.Front.{Front}
use Rattle.proposer_place.specs.Front.{front_of, front_bytes, place_rows}
use Rattle.proposer_place.specs.FrontLaws.{front_bytes_lem}
use Rattle.proposer_place.specs.PlaceRows.{image_place_rows}
use Rattle.proposer_place.specs.Rows.{entries_bytes}
use Rattle.proposer_place.specs.Area.{kind_at, key_length_at, first_mark_at, second_mark_at, promised_mark_at, first_length_at, second_length_at, promised_length_at, key_start, values_at, promised_value_at, first_value, second_value, place_image, place_front, value_from, request_from, short_at, key_in, first_in, second_in, read_pending, sizes_fit}
use Rattle.proposer_image.specs.Good.{TakenFrom}
use Rattle.proposer_image.specs.Taken.{waited_taken, yes_taken, no_taken, short_taken}

-- ---- values that are the front of a row

-- taking as many as were taken gives the same
take_taken : (n : ℕ) (l : List ℕ) → take (length (take n l)) l ≡ take n l
take_taken zero l = refl
take_taken (suc n) [] = refl
take_taken (suc n) (x ∷ l) = ap (λ (r : List ℕ). x ∷ r) (take_taken n l)

value_front : (mark n : ℕ) (l : List ℕ) → take (length (bytes_of (value_from mark (take n l)))) l ≡ bytes_of (value_from mark (take n l))
value_front mark n l = go (eqb mark 0)
  where
    go : (z : Bool) → take (length (bytes_of (cond z None (Some (take n l))))) l ≡ bytes_of (cond z None (Some (take n l)))
    go true = refl
    go false = take_taken n l

-- the two values of a request that is read, in their row
request_values : (b : List ℕ) (at kind : ℕ) (k : Key) (v w : Option Value) → part b at (length (bytes_of v)) ≡ bytes_of v → part b (at + length (bytes_of v)) (length (bytes_of w)) ≡ bytes_of w → (part b at (length (bytes_of (first_value (request_from kind k v w)))) ≡ bytes_of (first_value (request_from kind k v w))) × (part b (at + length (bytes_of (first_value (request_from kind k v w)))) (length (bytes_of (second_value (request_from kind k v w)))) ≡ bytes_of (second_value (request_from kind k v w)))
request_values b at kind k v w ev ew = go (eqb kind 1) (eqb kind 2) (eqb kind 3)
  where
    request : Bool → Bool → Bool → Request
    request x y z = cond x (Request.Get k) (cond y (Request.Del k) (cond z (Request.Set k (bytes_of v)) (Request.Cas k v w)))

    go : (x y z : Bool) → (part b at (length (bytes_of (first_value (request x y z)))) ≡ bytes_of (first_value (request x y z))) × (part b (at + length (bytes_of (first_value (request x y z)))) (length (bytes_of (second_value (request x y z)))) ≡ bytes_of (second_value (request x y z)))
    go true y z = (refl, refl)
    go false true z = (refl, refl)
    go false false true = (ev, refl)
    go false false false = (ev, ew)

request_key : (kind : ℕ) (k : Key) (v w : Option Value) → key_of (request_from kind k v w) ≡ k
request_key kind k v w = go (eqb kind 1) (eqb kind 2) (eqb kind 3)
  where
    go : (x y z : Bool) → key_of (cond x (Request.Get k) (cond y (Request.Del k) (cond z (Request.Set k (bytes_of v)) (Request.Cas k v w)))) ≡ k
    go true y z = refl
    go false true z = refl
    go false false true = refl
    go false false false = refl

-- ---- the rows of a place

module _ (b : List ℕ) where
  key_there : part b key_start (length (key_of (read_pending b).req)) ≡ key_of (read_pending b).req
  unfolding read_pending
  key_there = rw (request_key (byte b kind_at) (key_in b) (first_in b) (second_in b)) (take_taken (byte b key_length_at) (drop key_start b))

  values_there : (part b values_at (length (bytes_of (first_value (read_pending b).req))) ≡ bytes_of (first_value (read_pending b).req)) × (part b (values_at + length (bytes_of (first_value (read_pending b).req))) (length (bytes_of (second_value (read_pending b).req))) ≡ bytes_of (second_value (read_pending b).req))
  unfolding read_pending
  values_there =
      request_values b values_at (byte b kind_at) (key_in b) (first_in b) (second_in b)
      (value_front (byte b first_mark_at) (short_at b first_length_at) (drop values_at b))
      (value_front (byte b second_mark_at) (short_at b second_length_at) (drop (values_at + length (bytes_of (first_in b))) b))

  promised_there : part b promised_value_at (length (bytes_of (read_pending b).value)) ≡ bytes_of (read_pending b).value
  unfolding read_pending
  promised_there = value_front (byte b promised_mark_at) (short_at b promised_length_at) (drop promised_value_at b)

-- the same parts by the struct
module _ (b : List ℕ) (f : Front) (taken : TakenFrom b f) where
  key_taken : part b key_start f.key_len ≡ key_of (read_pending b).req
  unfolding front_of
  key_taken = ap (λ (g : Front). part b key_start g.key_len) taken.front ∙ key_there b

  first_taken : part b values_at f.first_len ≡ bytes_of (first_value (read_pending b).req)
  unfolding front_of
  first_taken = ap (λ (g : Front). part b values_at g.first_len) taken.front ∙ (values_there b).0

  second_taken : part b (values_at + f.first_len) f.second_len ≡ bytes_of (second_value (read_pending b).req)
  unfolding front_of
  second_taken = ap (λ (g : Front). part b (values_at + g.first_len) g.second_len) taken.front ∙ (values_there b).1

  promised_taken : part b promised_value_at f.value_len ≡ bytes_of (read_pending b).value
  unfolding front_of
  promised_taken = ap (λ (g : Front). part b promised_value_at g.value_len) taken.front ∙ promised_there b

  front_taken : front_bytes f ≡ place_front (read_pending b)
  front_taken = ap front_bytes taken.front ∙ front_bytes_lem (read_pending b)

  -- a part by its start and end
  span-part : (at n : ℕ) → span b at (at + n) ≡ part b at n
  span-part at n =
      let e : at + n - at ≡ n = omega arith in
      rw e

  module _ (bytes : Bytes b) (fit : sizes_fit (read_pending b) ≡ true) where
    waited_bytes : part b 52 (2 * f.waiting_for) ≡ entry_bytes (read_pending b).waiting_for
    waited_bytes =
        let most = short_taken b f taken fit in
        let size = taken.sized in
        sym (entries_bytes b 52 f.waiting_for (omega arith) bytes) ∙ ap entry_bytes (sym (waited_taken b f taken))

    yes_bytes : part b 82 (2 * f.acks_from) ≡ entry_bytes (read_pending b).acks_from
    yes_bytes =
        let most = short_taken b f taken fit in
        let size = taken.sized in
        sym (entries_bytes b 82 f.acks_from (omega arith) bytes) ∙ ap entry_bytes (sym (yes_taken b f taken))

    no_bytes : part b 112 (2 * f.nacks_from) ≡ entry_bytes (read_pending b).nacks_from
    no_bytes =
        let most = short_taken b f taken fit in
        let size = taken.sized in
        sym (entries_bytes b 112 f.nacks_from (omega arith) bytes) ∙ ap entry_bytes (sym (no_taken b f taken))

    -- the place that is written of these rows is the image
    pub written_again : place_rows (front_bytes f) (span b 52 (52 + 2 * f.waiting_for)) (span b 82 (82 + 2 * f.acks_from)) (span b 112 (112 + 2 * f.nacks_from)) (span b 144 (144 + f.key_len)) (span b 208 (208 + f.first_len) ++ span b (208 + f.first_len) (208 + f.first_len + f.second_len)) (span b 720 (720 + f.value_len)) ≡ place_image (Some (read_pending b))
    written_again =
        rw (
          span-part 52 (2 * f.waiting_for),
          span-part 82 (2 * f.acks_from),
          span-part 112 (2 * f.nacks_from),
          span-part 144 f.key_len,
          span-part 208 f.first_len,
          span-part (208 + f.first_len) f.second_len,
          span-part 720 f.value_len,
          waited_bytes,
          yes_bytes,
          no_bytes,
          key_taken,
          first_taken,
          second_taken,
          promised_taken,
          front_taken,
        ) (sym (image_place_rows (read_pending b)))
