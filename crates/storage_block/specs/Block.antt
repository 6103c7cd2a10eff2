-- 01's register block: the register that a block holds, what a free and a good block is, and the bytes of a register.
-- Assumes nothing.
use Rattle.std.specs.Prelude.{◌≡◌, Bool, false, not, cond, ◌&&◌, ◌||◌, List, ◌∷◌, ◌++◌, ℕ, ◌+◌, ◌*◌, ◌^◌, ◌≤◌, ◌<◌, eqb, leb, length}
use Rattle.std.specs.Prelude.{Option, None, Some}
use Rattle.leaf_fields.specs.Fields.{from_le, to_le, part, span, byte, all_zero, Bytes, padded}
use Rattle.leaf_sums.specs.Sums.{plain_sum, placed_sum}
use Rattle.messages.specs.Ballots.{ballot0, above}
use Rattle.messages.specs.Message.{Key, Value, mark}
use Rattle.messages.specs.Limits.{key_most, value_most}
use Rattle.messages.specs.Answers.{marked, bytes_of}
use Rattle.messages.specs.declared.Ballot.{Ballot}
use Rattle.messages.specs.declared.Lent.{Lent}
use Rattle.storage_block.specs.declared.BlockState.{BlockState}

-- what the plant holds of one valve at one acceptor
pub record Register : Type 0 where
  pub key : Key
  pub seen : Ballot
  pub accepted : Ballot
  pub value : Option Value

abbrev pub register : Key → Ballot → Ballot → Option Value → Register
register k s a v = record { key = k; seen = s; accepted = a; value = v }

-- "A key without a block has ballots 0 and no value."
abbrev pub fresh : Key → Register
fresh k = register k ballot0 ballot0 None

-- a register within the limits of 01
pub record Lawful (r : Register) : Type 0 where
  pub key_short : length r.key ≤ key_most
  pub key_bytes : Bytes r.key
  pub value_short : length (bytes_of r.value) ≤ value_most
  pub value_bytes : Bytes (bytes_of r.value)
  pub seen_fits : r.seen.0 < 256 ^ 8
  pub ordered : above r.accepted r.seen ≡ false

-- "One register is one block of 512 bytes"
abbrev pub block_bytes : ℕ
block_bytes = 512

-- ---- reading a block

-- "Byte 1: key length"
abbrev pub key_length : List ℕ → ℕ
key_length b = byte b 1

-- "Bytes 4-5: value length (0 if none)"
abbrev pub value_length : List ℕ → ℕ
value_length b = from_le (part b 4 2)

-- "Byte 2: 1 if a value is present, else 0"; "88-343: value"
abbrev pub value_of : List ℕ → Option Value
value_of b = cond (eqb (byte b 2) 0) None (Some (part b 88 (value_length b)))

-- "8-15: highest seen ballot. 16-23: accepted ballot"; "24-87: key"
unfoldable pub register_of : List ℕ → Register
register_of b =
    register (part b 24 (key_length b)) (record { 0 = from_le (part b 8 8) }) (record { 0 = from_le (part b 16 8) }) (value_of b)

-- ---- what a block is

-- "Byte 0: 1", lengths within the limits, a mark of 0 or 1, no length without a value, the accepted ballot "never above highest seen"
unfoldable pub head_good : List ℕ → Bool
head_good b =
    eqb (byte b 0) 1 && leb (key_length b) key_most && leb (byte b 2) 1 && leb (value_length b) (value_most * byte b 2)
    && not (above (record { 0 = from_le (part b 16 8) }) (record { 0 = from_le (part b 8 8) }))

-- "All else up to 503, and the unused ends of key and value, are zero."
unfoldable pub rest_zero : List ℕ → Bool
rest_zero b =
    eqb (byte b 3) 0 && all_zero (span b 6 8) && all_zero (span b (24 + key_length b) 88) && all_zero (span b (88 + value_length b) 504)

-- "504-507: the sum of bytes 0 to 503. 508-511: the sum of (i+1) times byte i over the same."
unfoldable pub sums_good : List ℕ → Bool
sums_good b =
    eqb (from_le (part b 504 4)) (plain_sum (part b 0 504)) && eqb (from_le (part b 508 4)) (placed_sum 0 (part b 0 504))

-- "A block that keeps all of this is good."
unfoldable pub good : List ℕ → Bool
good b = head_good b && rest_zero b && sums_good b

-- "A free block is 512 zeros"
unfoldable pub state_of : List ℕ → BlockState
state_of b = cond (all_zero b) BlockState.Free (cond (good b) BlockState.Good BlockState.Bad)

-- a block as a value: free, a register, or neither
pub data Slot : Type 0 where
  free : Slot
  used : Register → Slot
  bad : Slot

abbrev pub slot_by : BlockState → Register → Slot
slot_by BlockState.Free r = free
slot_by BlockState.Good r = used r
slot_by BlockState.Bad r = bad

unfoldable pub slot_of : List ℕ → Slot
slot_of b = slot_by (state_of b) (register_of b)

-- free or good
unfoldable pub readable : List ℕ → Bool
readable b = all_zero b || good b

-- what a block holds for the key that it has or takes: a free block reads as ballots 0 and no value
abbrev pub register_with : Key → List ℕ → Register
register_with k b = register k (register_of b).seen (register_of b).accepted (register_of b).value

-- ---- writing a block

abbrev pub mark_byte : Option Lent → ℕ
mark_byte o = mark o

-- bytes 0 to 23: the lengths, the mark and the ballots
unfoldable pub front : ℕ → Ballot → Ballot → Option Lent → ℕ → List ℕ
front keyLen seen accepted value valueLen =
    1 ∷ keyLen ∷ mark_byte value ∷ 0 ∷ (to_le 2 valueLen ++ (0 ∷ 0 ∷ (to_le 8 seen.0 ++ to_le 8 accepted.0)))

-- the bytes from 88 to 503, where a value stands
abbrev pub value_room : ℕ
value_room = 416

-- bytes 0 to 503: the front, the key in 24 to 87, the value from 88 on
unfoldable pub body : Register → List ℕ
body r =
    front (length r.key) r.seen r.accepted (marked r.value) (length (bytes_of r.value))
    ++ (padded key_most r.key ++ padded value_room (bytes_of r.value))

-- bytes 0 to 503, and the two sums behind them
unfoldable pub sealed : List ℕ → List ℕ
sealed l = l ++ (to_le 4 (plain_sum l) ++ to_le 4 (placed_sum 0 l))

unfoldable pub image : Register → List ℕ
image r = sealed (body r)
