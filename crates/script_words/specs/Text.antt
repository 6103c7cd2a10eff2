-- The words of a script: where a byte stands, the number and the address that a word is, when it stands for bytes or a list, and for which.
-- Assumes nothing.
use Rattle.std.specs.Prelude.{Bool, true, false, cond, ◌&&◌, ◌||◌, List, [], ◌∷◌, ℕ, zero, suc, ◌+◌, ◌-◌, ◌*◌, ◌%◌, ◌^◌, eqb, ltb, leb, length, take, drop, Option, Some, None, is_some}
use Rattle.leaf_fields.specs.Fields.{same}
use Rattle.messages.specs.declared.Address.{Address}

-- how many elements stand before the first b; all where there is none
unfoldable pub up_to : ℕ → List ℕ → ℕ
up_to b [] = 0
up_to b (x ∷ l) = cond (eqb x b) 0 (suc (up_to b l))

-- `0` to `9`
abbrev pub is_digit : ℕ → Bool
is_digit b = leb 48 b && leb b 57

-- x followed by decimal digits; none other, and below 2^64 all the way
unfoldable pub digits_from : ℕ → List ℕ → Option ℕ
digits_from x [] = Some x
digits_from x (b ∷ l) =
    cond (is_digit b) (cond (ltb (x * 10 + (b - 48)) (2 ^ 64)) (digits_from (x * 10 + (b - 48)) l) None) None

unfoldable pub number_of : List ℕ → Option ℕ
number_of [] = None
number_of (b ∷ l) = digits_from 0 (b ∷ l)

-- a number of 16 bits
abbrev pub address_from : Option ℕ → Option Address
address_from None = None
address_from (Some n) = cond (ltb 65535 n) None (Some (record { 0 = n }))

abbrev pub address_of : List ℕ → Option Address
address_of w = address_from (number_of w)

-- `0` to `9` and `a` to `f`
abbrev pub is_hex : ℕ → Bool
is_hex b = (leb 48 b && leb b 57) || (leb 97 b && leb b 102)

abbrev pub hex_value : ℕ → ℕ
hex_value b = cond (leb 48 b && leb b 57) (b - 48) (cond (leb 97 b && leb b 102) (b - 87) 0)

unfoldable pub all_hex : List ℕ → Bool
all_hex [] = true
all_hex (b ∷ l) = is_hex b && all_hex l

-- `x` and two hex digits for each of at most 600 bytes
unfoldable pub bytes_word : List ℕ → Bool
bytes_word [] = false
bytes_word (b ∷ l) = eqb b 120 && eqb (length l % 2) 0 && leb (length l) 1200 && all_hex l

-- a byte for each two hex digits
unfoldable pub unhexed : List ℕ → List ℕ
unhexed [] = []
unhexed (a ∷ []) = []
unhexed (a ∷ b ∷ l) = (hex_value a * 16 + hex_value b) ∷ unhexed l

-- the bytes that a word stands for; none for the empty word, and none for one that has digits for more than 600
unfoldable pub bytes_of : List ℕ → List ℕ
bytes_of w = cond (ltb 1201 (length w)) [] (unhexed (drop 1 w))

-- one to n numbers of 16 bits with commas between them
unfoldable pub list_from : ℕ → List ℕ → Bool
list_from zero w = false
list_from (suc n) w =
    is_some (address_of (take (up_to 44 w) w)) && (leb (length w) (up_to 44 w) || list_from n (drop (suc (up_to 44 w)) w))

-- `-`, or one to 32 numbers
unfoldable pub list_word : List ℕ → Bool
list_word w = same w (45 ∷ []) || list_from 32 w

abbrev pub entry_before : Option Address → List ℕ → List ℕ
entry_before None rest = []
entry_before (Some a) rest = a.0 ∷ rest

-- the first n numbers of a list's word; what is no number ends them
unfoldable pub numbers_from : ℕ → List ℕ → List ℕ
numbers_from zero w = []
numbers_from (suc n) w =
    entry_before (address_of (take (up_to 44 w) w)) (cond (leb (length w) (up_to 44 w)) [] (numbers_from n (drop (suc (up_to 44 w)) w)))

-- the numbers that a word stands for, at most 32; none for `-` and for the empty word
unfoldable pub list_of : List ℕ → List ℕ
list_of w = numbers_from 32 w
