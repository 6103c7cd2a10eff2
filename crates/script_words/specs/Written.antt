-- What is put out, byte by byte; bytes that are stored in a lent buffer, and the place behind.
-- Assumes nothing.
use Rattle.std.specs.Prelude.{cond, List, [], ◌∷◌, ◌++◌, ℕ, zero, suc, ◌+◌, ◌-◌, ◌/◌, ◌%◌, min, ltb, length, take}
use Rattle.std.proofs.lemmas.List.Edits.{sets}

-- a buffer with these bytes from a place on; those past its end are left out
unfoldable pub written : List ℕ → ℕ → List ℕ → List ℕ
written out at text = sets out at text

-- the place behind n bytes that are put at a place; at most the buffer's length
abbrev pub behind : List ℕ → ℕ → ℕ → ℕ
behind out at n = min (at + n) (length out)

-- what is put out so far, and a text behind it, in room for n bytes; what doesn't fit is left out
unfoldable pub put : ℕ → List ℕ → List ℕ → List ℕ
put n out text = out ++ take (n - length out) text

-- a hex digit; `?` for a number that has none
abbrev pub hex_digit : ℕ → ℕ
hex_digit n = cond (ltb n 10) (48 + n) (cond (ltb n 16) (87 + n) 63)

-- two hex digits for each byte
unfoldable pub hex_of : List ℕ → List ℕ
hex_of [] = []
hex_of (b ∷ l) = hex_digit (b / 16) ∷ hex_digit (b % 16) ∷ hex_of l

-- n in decimal, with no zeros in front, before what is put already; at most so many digits
unfoldable pub digits_before : ℕ → ℕ → List ℕ → List ℕ
digits_before zero n rest = rest
digits_before (suc k) n rest = cond (ltb n 10) ((48 + n) ∷ rest) (digits_before k (n / 10) ((48 + n % 10) ∷ rest))

-- a number below 2^64 has twenty digits at most
unfoldable pub decimal : ℕ → List ℕ
decimal n = digits_before 20 n []
