-- Numbers as bytes, the lowest first, at any width; parts of a row of bytes; rows of zeros.
-- Assumes nothing.
use Rattle.std.specs.Prelude.{Bool, true, false, ◌&&◌, List, [], ◌∷◌, ◌++◌, ℕ, zero, suc, ◌+◌, ◌-◌, ◌*◌, ◌/◌, ◌%◌, ◌<◌, eqb, length, get_or, take, drop, replicate}

-- the number that the bytes are
unfoldable pub from_le : List ℕ → ℕ
from_le [] = 0
from_le (b ∷ bs) = b + 256 * from_le bs

-- the w lowest bytes of x
unfoldable pub to_le : ℕ → ℕ → List ℕ
to_le zero x = []
to_le (suc w) x = x % 256 ∷ to_le w (x / 256)

-- the n bytes at a
abbrev pub part : List ℕ → ℕ → ℕ → List ℕ
part b a n = take n (drop a b)

-- the bytes from a up to e
abbrev pub span : List ℕ → ℕ → ℕ → List ℕ
span b a e = take (e - a) (drop a b)

-- byte i, 0 past the end
abbrev pub byte : List ℕ → ℕ → ℕ
byte b i = get_or b i 0

-- every byte is zero
unfoldable pub all_zero : List ℕ → Bool
all_zero [] = true
all_zero (x ∷ l) = eqb x 0 && all_zero l

-- the same bytes
unfoldable pub same : List ℕ → List ℕ → Bool
same [] [] = true
same [] (y ∷ m) = false
same (x ∷ l) [] = false
same (x ∷ l) (y ∷ m) = eqb x y && same l m

-- every element is a byte
unfoldable pub Bytes : List ℕ → Type 0
Bytes l = (i : ℕ) → byte l i < 256

-- a row of n bytes that holds l, the rest zero
unfoldable pub padded : ℕ → List ℕ → List ℕ
padded n l = l ++ replicate (n - length l) 0
