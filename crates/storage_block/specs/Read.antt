-- What a good block says: its fields are within the limits, its sums hold, its register is lawful, and that register's image is the block again.
-- Assumes nothing.
use Rattle.std.specs.Prelude.{◌≡◌, refl, Bool, true, false, not, cond, ◌&&◌, ◌||◌, List, [], ◌∷◌, ◌++◌, ℕ, ◌+◌, ◌-◌, ◌*◌, ◌≤◌, eqb, leb, take, drop, replicate}
use Rattle.std.proofs.Common.{sym, ◌∙◌, arith, eqb-true, leb-true, length-drop, length-take, take-append-drop, drop-drop, take_all}
use Rattle.std.proofs.Math.Path.{ap}
use Rattle.std.specs.Prelude.{None, Some}
use Rattle.std.proofs.lemmas.Bool.{eqb-false, not-true}
use Rattle.std.proofs.Math.ListN.{length}
use Rattle.leaf_fields.specs.Fields.{from_le, to_le, part, span, byte, all_zero, Bytes, padded}
use Rattle.leaf_fields.specs.Laws.{and_true, zeros_are, length-part, bytes_part}
use Rattle.leaf_sums.specs.Sums.{plain_sum, placed_sum}
use Rattle.messages.specs.Ballots.{above}
use Rattle.messages.specs.Message.{Key}
use Rattle.messages.specs.Limits.{key_most, value_most}
use Rattle.messages.specs.Answers.{marked, bytes_of}
use Rattle.leaf_fields.specs.Rows.{from_le_fits, field_back, part_join, part_cons}
use Rattle.storage_block.specs.Block.{Lawful, fresh, readable, register_with, block_bytes, key_length, value_length, value_of, register_of, head_good, rest_zero, sums_good, good, mark_byte, front, body, sealed, image}

-- what a good head says of the fields
pub record Head (b : List ℕ) : Type 0 where
  pub version : byte b 0 ≡ 1
  pub key_short : key_length b ≤ key_most
  pub mark_bit : byte b 2 ≤ 1
  pub value_short : value_length b ≤ value_most
  pub value_marked : value_length b ≤ value_most * byte b 2
  pub ordered : above (record { 0 = from_le (part b 16 8) }) (record { 0 = from_le (part b 8 8) }) ≡ false

pub head_of_lem : (b : List ℕ) → head_good b ≡ true → Head b
unfolding head_good
head_of_lem b h =
    let one = eqb (byte b 0) 1 in
    let key = leb (key_length b) key_most in
    let mark = leb (byte b 2) 1 in
    let value = leb (value_length b) (value_most * byte b 2) in
    let order = above (record { 0 = from_le (part b 16 8) }) (record { 0 = from_le (part b 8 8) }) in
    let toOrder = and_true (one && key && mark && value) (not order) h in
    let toValue = and_true (one && key && mark) value toOrder.0 in
    let toMark = and_true (one && key) mark toValue.0 in
    let toKey = and_true one key toMark.0 in
    let m : byte b 2 ≤ 1 = leb-true (byte b 2) 1 toMark.1 in
    let v : value_length b ≤ value_most * byte b 2 = leb-true (value_length b) (value_most * byte b 2) toValue.1 in
    record {
      version = eqb-true (byte b 0) 1 toKey.0;
      key_short = leb-true (key_length b) key_most toKey.1;
      mark_bit = m;
      value_short = omega arith;
      value_marked = v;
      ordered = not-true order toOrder.1;
    }

-- the key and the value end in their rooms
pub key_room : (b : List ℕ) → head_good b ≡ true → 24 + byte b 1 ≤ 88
key_room b h = omega (arith, head_of_lem b h)

pub head_room : (b : List ℕ) (n : ℕ) → n ≡ from_le (part b 4 2) → head_good b ≡ true → 88 + n ≤ 504
head_room b n e h = omega (arith, head_of_lem b h)

-- the bytes of the register's value, also where there is none
pub bytes_of-value : (b : List ℕ) → head_good b ≡ true → bytes_of (register_of b).value ≡ part b 88 (value_length b)
unfolding register_of
bytes_of-value b h = go (eqb (byte b 2) 0) refl
  where
    go : (z : Bool) → eqb (byte b 2) 0 ≡ z → bytes_of (cond (eqb (byte b 2) 0) None (Some (part b 88 (value_length b)))) ≡ part b 88 (value_length b)
    go true e =
        let unmarked : byte b 2 ≡ 0 = eqb-true (byte b 2) 0 e in
        let head = head_of_lem b h in
        let empty : value_length b ≡ 0 = omega arith in
        rw (e, empty)
    go false e = rw e

-- a block is its three parts
pub three_parts : (b : List ℕ) → length b ≡ block_bytes → b ≡ part b 0 504 ++ (part b 504 4 ++ part b 508 4)
three_parts b len =
    let e : drop 508 b ≡ drop 4 (drop 504 b) = sym (drop-drop 4 504 b) in
    let f : take 4 (drop 508 b) ≡ drop 508 b = take_all 4 (drop 508 b) (simp length-drop (omega arith)) in
    let g : take 4 (drop 504 b) ++ take 4 (drop 508 b) ≡ drop 504 b = ap (λ (r : List ℕ). take 4 (drop 504 b) ++ r) (f ∙ e) ∙ take-append-drop 4 (drop 504 b) in
    sym (ap (λ (r : List ℕ). take 504 b ++ r) g ∙ take-append-drop 504 b)

-- what good sums say
pub record Sums (b : List ℕ) : Type 0 where
  pub plain : from_le (part b 504 4) ≡ plain_sum (part b 0 504)
  pub placed : from_le (part b 508 4) ≡ placed_sum 0 (part b 0 504)

pub sums_of : (b : List ℕ) → sums_good b ≡ true → Sums b
unfolding sums_good
sums_of b h =
    let p = and_true (eqb (from_le (part b 504 4)) (plain_sum (part b 0 504))) (eqb (from_le (part b 508 4)) (placed_sum 0 (part b 0 504))) h in
    record { plain = eqb-true _ _ p.0; placed = eqb-true _ _ p.1 }

-- what is zero: byte 3, bytes 6 and 7, and the unused ends of key and value
pub record Rest (b : List ℕ) : Type 0 where
  pub byte_three : byte b 3 ≡ 0
  pub before_ballots : all_zero (span b 6 8) ≡ true
  pub key_end : all_zero (span b (24 + key_length b) 88) ≡ true
  pub value_end : all_zero (span b (88 + value_length b) 504) ≡ true

pub rest_of : (b : List ℕ) → rest_zero b ≡ true → Rest b
unfolding rest_zero
rest_of b h =
    let three = eqb (byte b 3) 0 in
    let six = all_zero (span b 6 8) in
    let key = all_zero (span b (24 + key_length b) 88) in
    let value = all_zero (span b (88 + value_length b) 504) in
    let toValue = and_true (three && six && key) value h in
    let toKey = and_true (three && six) key toValue.0 in
    let toSix = and_true three six toKey.0 in
    record { byte_three = eqb-true (byte b 3) 0 toSix.0; before_ballots = toSix.1; key_end = toKey.1; value_end = toValue.1 }

-- what a good block says
pub record Good (b : List ℕ) : Type 0 where
  pub head_good_lem : head_good b ≡ true
  pub head : Head b
  pub rest : Rest b
  pub sums : Sums b

pub good_of : (b : List ℕ) → good b ≡ true → Good b
unfolding good
good_of b h =
    let toSums = and_true (head_good b && rest_zero b) (sums_good b) h in
    let toRest = and_true (head_good b) (rest_zero b) toSums.0 in
    record { head_good_lem = toRest.0; head = head_of_lem b toRest.0; rest = rest_of b toRest.1; sums = sums_of b toSums.1 }

key_of_register : (b : List ℕ) → (register_of b).key ≡ part b 24 (key_length b)
unfolding register_of
key_of_register b = refl

-- a part and the zeros behind it
padded-part : (b : List ℕ) (a n k : ℕ) → k ≤ n → a + n ≤ length b → all_zero (span b (a + k) (a + n)) ≡ true → padded n (part b a k) ≡ part b a n
unfolding padded
padded-part b a n k short room zeros =
    let behind : (a + n) - (a + k) ≡ n - k = omega arith in
    let rows = rw behind at (zeros_are (span b (a + k) (a + n)) zeros) in
    let long : length (part b (a + k) (n - k)) ≡ n - k = length-part b (a + k) (n - k) (omega arith) in
    let whole : k + (n - k) ≡ n = omega arith in
    rw (length-part b a k (omega arith)) (ap (λ (r : List ℕ). part b a k ++ r) (sym (rw long at rows)) ∙ part_join b a k (n - k) ∙ ap (part b a) whole)

-- the mark of the value is the mark byte
mark_back : (b : List ℕ) → byte b 2 ≤ 1 → mark_byte (marked (value_of b)) ≡ byte b 2
mark_back b h = go (eqb (byte b 2) 0) refl
  where
    go : (z : Bool) → eqb (byte b 2) 0 ≡ z → mark_byte (marked (cond (eqb (byte b 2) 0) None (Some (part b 88 (value_length b))))) ≡ byte b 2
    go true e = rw e (sym (eqb-true (byte b 2) 0 e))
    go false e =
        let set-mark = eqb-false (byte b 2) 0 e in
        rw e (omega arith)

module _ (b : List ℕ) (lb : length b ≡ block_bytes) (hb : Bytes b) (ok : good b ≡ true) where
  pub lawful_register : Lawful (register_of b)
  unfolding register_of
  lawful_register =
      let g = good_of b ok in
      let v = bytes_of-value b g.head_good_lem in
      let key : length (part b 24 (key_length b)) ≡ key_length b = length-part b 24 (key_length b) (omega arith) in
      let value : length (part b 88 (value_length b)) ≡ value_length b = length-part b 88 (value_length b) (omega arith) in
      record {
        key_short = omega arith;
        key_bytes = bytes_part b 24 (key_length b) hb;
        value_short = rw v (omega arith);
        value_bytes = rw v (bytes_part b 88 (value_length b) hb);
        seen_fits = rw (length-part b 8 8 (omega arith)) at (from_le_fits (part b 8 8) (bytes_part b 8 8 hb));
        ordered = g.head.ordered;
      }

  -- the first 24 bytes are the front of the register's body
  front_parts : Head b → Rest b → part b 0 24 ≡ 1 ∷ key_length b ∷ byte b 2 ∷ 0 ∷ (part b 4 2 ++ (0 ∷ 0 ∷ (part b 8 8 ++ part b 16 8)))
  front_parts h r =
      let zeros : part b 6 2 ≡ 0 ∷ 0 ∷ [] = rw (length-part b 6 2 (omega arith)) at (zeros_are (part b 6 2) r.before_ballots) in
      let ballots : part b 8 16 ≡ part b 8 8 ++ part b 16 8 = sym (part_join b 8 8 8) in
      let from-six : part b 6 18 ≡ 0 ∷ 0 ∷ (part b 8 8 ++ part b 16 8) = sym (part_join b 6 2 16) ∙ rw (zeros, ballots) in
      let from-four : part b 4 20 ≡ part b 4 2 ++ (0 ∷ 0 ∷ (part b 8 8 ++ part b 16 8)) = sym (part_join b 4 2 18) ∙ ap (λ (l : List ℕ). part b 4 2 ++ l) from-six in
      part_cons b 0 23 (omega arith) ∙ rw h.version (ap (λ (l : List ℕ). 1 ∷ l)
      (part_cons b 1 22 (omega arith) ∙ ap (λ (l : List ℕ). key_length b ∷ l)
      (part_cons b 2 21 (omega arith) ∙ ap (λ (l : List ℕ). byte b 2 ∷ l)
      (part_cons b 3 20 (omega arith) ∙ rw r.byte_three (ap (λ (l : List ℕ). 0 ∷ l) from-four)))))

  front_register : Head b → Rest b → front (key_length b) (register_of b).seen (register_of b).accepted (marked (register_of b).value) (value_length b) ≡ part b 0 24
  unfolding register_of front
  front_register h r =
      rw (mark_back b h.mark_bit, field_back b 4 2 (omega arith) hb, field_back b 8 8 (omega arith) hb, field_back b 16 8 (omega arith) hb)
      (sym (front_parts h r))

  -- the register's body is the first 504 bytes
  body_register : body (register_of b) ≡ part b 0 504
  unfolding body
  body_register =
      let g = good_of b ok in
      let key-long : length (part b 24 (key_length b)) ≡ key_length b = length-part b 24 (key_length b) (omega arith) in
      let value-long : length (part b 88 (value_length b)) ≡ value_length b = length-part b 88 (value_length b) (omega arith) in
      let key : padded 64 (part b 24 (key_length b)) ≡ part b 24 64 = padded-part b 24 64 (key_length b) g.head.key_short (omega arith) g.rest.key_end in
      let value : padded 416 (part b 88 (value_length b)) ≡ part b 88 416 = padded-part b 88 416 (value_length b) (omega arith) (omega arith) g.rest.value_end in
      rw (bytes_of-value b g.head_good_lem, key_of_register b, key, value, key-long, value-long, front_register g.head g.rest, part_join b 24 64 416)
      (part_join b 0 24 480)

  -- reading a good block and writing it back is the identity: one register has one image
  pub image_register : image (register_of b) ≡ b
  unfolding image sealed
  image_register =
      let g = good_of b ok in
      let plain : to_le 4 (plain_sum (part b 0 504)) ≡ part b 504 4 = ap (to_le 4) (sym g.sums.plain) ∙ field_back b 504 4 (omega arith) hb in
      let placed : to_le 4 (placed_sum 0 (part b 0 504)) ≡ part b 508 4 = ap (to_le 4) (sym g.sums.placed) ∙ field_back b 508 4 (omega arith) hb in
      rw (body_register, plain, placed) (sym (three_parts b lb))

-- ---- a free block reads as ballots 0 and no value

pub zeros_block : (b : List ℕ) → length b ≡ block_bytes → all_zero b ≡ true → b ≡ replicate 512 0
zeros_block b l z = zeros_are b z ∙ ap (λ (n : ℕ). replicate n 0) l

pub free_register : (k : Key) (b : List ℕ) → length b ≡ block_bytes → all_zero b ≡ true → register_with k b ≡ fresh k
unfolding register_of from_le
free_register k b l z = rw (zeros_block b l z)

-- what a block that may be read says of its value
pub record ReadValue (b : List ℕ) : Type 0 where
  pub short : value_length b ≤ value_most
  pub bytes : bytes_of (register_of b).value ≡ part b 88 (value_length b)

free_value : ReadValue (replicate 512 0)
unfolding register_of from_le
free_value = record { short = omega arith; bytes = refl }

pub read_value : (b : List ℕ) → length b ≡ block_bytes → readable b ≡ true → ReadValue b
unfolding readable
read_value b l h = go (all_zero b) refl h
  where
    go : (z : Bool) → all_zero b ≡ z → (z || good b) ≡ true → ReadValue b
    go true ez h' = rw (zeros_block b l ez) free_value
    go false ez g =
        let h' = (good_of b g).head_good_lem in
        record { short = (head_of_lem b h').value_short; bytes = bytes_of-value b h' }

-- so its value ends in the block, and is within the limits
pub value_room : (b : List ℕ) (n : ℕ) → length b ≡ block_bytes → readable b ≡ true → n ≡ from_le (part b 4 2) → 88 + n ≤ 512
value_room b n l h e = omega (arith, (read_value b l h).short)

pub value_fits_lem : (b : List ℕ) → length b ≡ block_bytes → readable b ≡ true → length (bytes_of (register_of b).value) ≤ value_most
value_fits_lem b l h =
    let v = read_value b l h in
    rw v.bytes (omega (arith, length-take (value_length b) (drop 88 b), v.short))
