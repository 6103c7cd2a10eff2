-- The image of a register within the limits is a good block of 512 bytes, and it is read back as that register.
-- Assumes nothing.
use Rattle.std.specs.Prelude.{◌≡◌, true, false, cond, ℕ, ◌+◌, ◌-◌, ◌*◌, ◌^◌, ◌≤◌, ◌<◌, eqb, replicate}
use Rattle.std.proofs.Math.Path.{refl, ap}
use Rattle.std.proofs.Common.{sym, ◌∙◌, lit<, drop-drop}
use mathlib.Core.List.{List, ◌∷◌, ◌++◌, append_assoc}
use Rattle.std.specs.Prelude.{Option, None, Some}
use native.Mathlib.Omega.{arith}
use borrow.Author.Tests.{eq-eqb, le-leb, ltb-false}
use Rattle.std.proofs.Math.ListN.{length, take, drop, length-append}
use Rattle.std.proofs.lemmas.List.{length-replicate}
use Rattle.std.proofs.Math.Seq.{take_at, drop_at, take_all}
use Rattle.leaf_fields.specs.Fields.{from_le, to_le, part, span, byte, all_zero, Bytes, padded}
use Rattle.leaf_fields.specs.Laws.{length-to_le, from_le-to_le, zeros_zero}
use Rattle.leaf_sums.specs.Sums.{plain_sum, placed_sum, plain_most, placed_most}
use Rattle.messages.specs.Message.{Value}
use Rattle.messages.specs.Limits.{key_most, value_most}
use Rattle.messages.specs.Answers.{marked, bytes_of}
use Rattle.messages.specs.declared.Lent.{Lent}
use Rattle.storage_block.specs.declared.BlockState.{BlockState}
use Rattle.leaf_fields.specs.Rows.{bytes_front, bytes_append, bytes_zeros, bytes_to_le, part_between}
use Rattle.storage_block.specs.Block.{Register, Lawful, block_bytes, key_length, value_length, register_of, head_good, rest_zero, sums_good, good, state_of, used, slot_of, mark_byte, front, body, sealed, image}

-- ---- bytes 0 to 503 and the sums behind them

module _ (l : List ℕ) (full : length l ≡ 504) (h : Bytes l) where
  length-sealed : length (sealed l) ≡ block_bytes
  unfolding sealed
  length-sealed = simp (length-append, length-to_le) (omega arith)

  bytes_sealed : Bytes (sealed l)
  unfolding sealed
  bytes_sealed = bytes_append l (to_le 4 (plain_sum l) ++ to_le 4 (placed_sum 0 l)) h (bytes_append (to_le 4 (plain_sum l)) (to_le 4 (placed_sum 0 l)) (bytes_to_le 4 (plain_sum l)) (bytes_to_le 4 (placed_sum 0 l)))

  sums_sealed : sums_good (sealed l) ≡ true
  unfolding sums_good sealed
  sums_sealed =
      let plain = to_le 4 (plain_sum l) in
      let placed = to_le 4 (placed_sum 0 l) in
      let first : take 504 (l ++ (plain ++ placed)) ≡ l = take_at l (plain ++ placed) 504 full in
      let rest : drop 504 (l ++ (plain ++ placed)) ≡ plain ++ placed = drop_at l (plain ++ placed) 504 full in
      let second : take 4 (drop 504 (l ++ (plain ++ placed))) ≡ plain = ap (take 4) rest ∙ take_at plain placed 4 (length-to_le 4 (plain_sum l)) in
      let third : take 4 (drop 508 (l ++ (plain ++ placed))) ≡ placed =
      ap (take 4) (sym (drop-drop 4 504 (l ++ (plain ++ placed))) ∙ ap (drop 4) rest ∙ drop_at plain placed 4 (length-to_le 4 (plain_sum l)))
      ∙ take_all 4 placed (omega (arith, length-to_le 4 (placed_sum 0 l))) in
      let plain_fits : plain_sum l < 256 ^ 4 = omega (arith, plain_most l h) in
      let most : placed_sum 0 l ≤ 504 * (504 * 255) = rw full at (placed_most 504 0 l (omega arith) h) in
      let placed-fits : placed_sum 0 l < 256 ^ 4 = omega arith in
      rw (first, second, third, from_le-to_le 4 (plain_sum l) plain_fits, from_le-to_le 4 (placed_sum 0 l) placed-fits, eq-eqb (plain_sum l) (plain_sum l) refl, eq-eqb (placed_sum 0 l) (placed_sum 0 l) refl)

-- ---- a padded row

length-padded : (n : ℕ) (l : List ℕ) → length l ≤ n → length (padded n l) ≡ n
unfolding padded
length-padded n l h = simp (length-append, length-replicate) (omega arith)

bytes_padded : (n : ℕ) (l : List ℕ) → Bytes l → Bytes (padded n l)
unfolding padded
bytes_padded n l h = bytes_append l (replicate (n - length l) 0) h (bytes_zeros (n - length l))

-- ---- the mark and the value

mark_bit : (o : Option Lent) → mark_byte o ≤ 1
mark_bit None = omega arith
mark_bit (Some mark) = omega arith

-- no length without a mark
marked-length : (v : Option Value) → length (bytes_of v) ≤ value_most → length (bytes_of v) ≤ value_most * mark_byte (marked v)
marked-length None h = omega arith
marked-length (Some v) h = omega arith

-- the mark and the bytes say the value
value_back : (v : Option Value) → cond (eqb (mark_byte (marked v)) 0) None (Some (bytes_of v)) ≡ v
value_back None = refl
value_back (Some v) = refl

-- ---- the image

module _ (r : Register) (ok : Lawful r) where
  abbrev head : List ℕ
  head = front (length r.key) r.seen r.accepted (marked r.value) (length (bytes_of r.value))

  abbrev sums : List ℕ
  sums = to_le 4 (plain_sum (body r)) ++ to_le 4 (placed_sum 0 (body r))

  abbrev key_rest : List ℕ
  key_rest = replicate (64 - length r.key) 0

  abbrev value_rest : List ℕ
  value_rest = replicate (416 - length (bytes_of r.value)) 0

  length-head : length head ≡ 24
  unfolding front to_le
  length-head = refl

  bytes_head : Bytes head
  unfolding front
  bytes_head =
      let ballots = to_le 8 r.seen.0 ++ to_le 8 r.accepted.0 in
      let short = to_le 2 (length (bytes_of r.value)) in
      bytes_front 1 _ (lit< tt) (bytes_front (length r.key) _ (omega arith) (bytes_front (mark_byte (marked r.value)) _ (omega (arith, mark_bit (marked r.value))) (bytes_front 0 _ (lit< tt)
      (bytes_append short (0 ∷ 0 ∷ ballots) (bytes_to_le 2 (length (bytes_of r.value))) (bytes_front 0 _ (lit< tt) (bytes_front 0 _ (lit< tt)
      (bytes_append (to_le 8 r.seen.0) (to_le 8 r.accepted.0) (bytes_to_le 8 r.seen.0) (bytes_to_le 8 r.accepted.0))))))))

  length-body : length (body r) ≡ 504
  unfolding body
  length-body =
      let k = length-padded 64 r.key ok.key_short in
      let v = length-padded 416 (bytes_of r.value) (omega arith) in
      simp (length-append, length-head, k, v)

  bytes_body : Bytes (body r)
  unfolding body
  bytes_body =
      bytes_append head (padded 64 r.key ++ padded 416 (bytes_of r.value)) bytes_head
      (bytes_append (padded 64 r.key) (padded 416 (bytes_of r.value)) (bytes_padded 64 r.key ok.key_bytes) (bytes_padded 416 (bytes_of r.value) ok.value_bytes))

  pub length-image : length (image r) ≡ block_bytes
  unfolding image
  length-image = length-sealed (body r) length-body bytes_body

  pub bytes_image : Bytes (image r)
  unfolding image
  bytes_image = bytes_sealed (body r) length-body bytes_body

  -- the key and the value stand in their places, with zeros behind each
  key_there : part (image r) 24 (length r.key) ≡ r.key
  unfolding image sealed body padded
  key_there =
      let shape : image r ≡ head ++ (r.key ++ (key_rest ++ (bytes_of r.value ++ (value_rest ++ sums)))) = simp append_assoc in
      rw shape (part_between head r.key _ 24 (length r.key) length-head refl)

  key_end : span (image r) (24 + length r.key) 88 ≡ key_rest
  unfolding image sealed body padded
  key_end =
      let before = head ++ r.key in
      let place : length before ≡ 24 + length r.key = length-append head r.key ∙ rw length-head in
      let room : 88 - (24 + length r.key) ≡ 64 - length r.key = omega arith in
      let shape : image r ≡ before ++ (key_rest ++ (bytes_of r.value ++ (value_rest ++ sums))) = simp append_assoc in
      rw (room, shape) (part_between before key_rest _ (24 + length r.key) (64 - length r.key) place (length-replicate (64 - length r.key) 0))

  length_before : length (head ++ padded 64 r.key) ≡ 88
  length_before = simp (length-append, length-head, length-padded 64 r.key ok.key_short)

  value_there : part (image r) 88 (length (bytes_of r.value)) ≡ bytes_of r.value
  unfolding image sealed body padded
  value_there =
      let before = head ++ padded 64 r.key in
      let shape : image r ≡ before ++ (bytes_of r.value ++ (value_rest ++ sums)) = simp append_assoc in
      rw shape (part_between before (bytes_of r.value) _ 88 (length (bytes_of r.value)) length_before refl)

  value_end : span (image r) (88 + length (bytes_of r.value)) 504 ≡ value_rest
  unfolding image sealed body padded
  value_end =
      let before = (head ++ padded 64 r.key) ++ bytes_of r.value in
      let place : length before ≡ 88 + length (bytes_of r.value) = length-append (head ++ padded 64 r.key) (bytes_of r.value) ∙ rw length_before in
      let room : 504 - (88 + length (bytes_of r.value)) ≡ 416 - length (bytes_of r.value) = omega arith in
      let shape : image r ≡ before ++ (value_rest ++ sums) = simp append_assoc in
      rw (room, shape) (part_between before value_rest _ (88 + length (bytes_of r.value)) (416 - length (bytes_of r.value)) place (length-replicate (416 - length (bytes_of r.value)) 0))

  -- the fields of the head are read back
  first_byte : byte (image r) 0 ≡ 1
  unfolding image sealed body front
  first_byte = refl

  key-length : key_length (image r) ≡ length r.key
  unfolding image sealed body front
  key-length = refl

  mark_there : byte (image r) 2 ≡ mark_byte (marked r.value)
  unfolding image sealed body front
  mark_there = refl

  value-length : value_length (image r) ≡ length (bytes_of r.value)
  unfolding image sealed body front to_le
  value-length = from_le-to_le 2 (length (bytes_of r.value)) (omega arith)

  seen_there : from_le (part (image r) 8 8) ≡ r.seen.0
  unfolding image sealed body front to_le
  seen_there = from_le-to_le 8 r.seen.0 ok.seen_fits

  accepted_there : from_le (part (image r) 16 8) ≡ r.accepted.0
  unfolding image sealed body front to_le
  accepted_there = from_le-to_le 8 r.accepted.0 (omega (arith, ltb-false r.seen.0 r.accepted.0 ok.ordered, ok.seen_fits))

  zero_three : byte (image r) 3 ≡ 0
  unfolding image sealed body front
  zero_three = refl

  zero_six : all_zero (span (image r) 6 8) ≡ true
  unfolding image sealed body front to_le all_zero
  zero_six = refl

  sums_image : sums_good (image r) ≡ true
  unfolding image
  sums_image = sums_sealed (body r) length-body bytes_body

  not_free : all_zero (image r) ≡ false
  unfolding image sealed body front all_zero
  not_free = refl

  pub register_image : register_of (image r) ≡ r
  unfolding register_of
  register_image = rw (key-length, key_there, seen_there, accepted_there, mark_there, value-length, value_there, value_back r.value)

  -- it is good, and not free
  head_image : head_good (image r) ≡ true
  unfolding head_good
  head_image =
      rw (
        first_byte,
        key-length,
        le-leb (length r.key) key_most ok.key_short,
        mark_there,
        le-leb (mark_byte (marked r.value)) 1 (mark_bit (marked r.value)),
        value-length,
        le-leb (length (bytes_of r.value)) (value_most * mark_byte (marked r.value)) (marked-length r.value ok.value_short),
        seen_there,
        accepted_there,
        ok.ordered,
      )

  rest_image : rest_zero (image r) ≡ true
  unfolding rest_zero
  rest_image =
      rw (zero_three, zero_six, key-length, key_end, zeros_zero (64 - length r.key), value-length, value_end, zeros_zero (416 - length (bytes_of r.value)))

  pub good-image : good (image r) ≡ true
  unfolding good
  good-image = rw (head_image, rest_image, sums_image)

  pub state_image : state_of (image r) ≡ BlockState.Good
  unfolding state_of
  state_image = rw (not_free, good-image)

  -- a written block is read back as what was written
  pub slot_image : slot_of (image r) ≡ used r
  unfolding slot_of
  slot_image = rw (state_image, register_image)
