-- The two sums of a row of bytes, of any length, and their bounds.
-- Assumes nothing.
use Rattle.std.specs.Prelude.{◌≡◌, List, [], ◌∷◌, ℕ, suc, ◌+◌, ◌*◌, ◌≤◌, ◌<◌, length, get_or, drop}
use Rattle.std.proofs.Common.{mul-le-mul, suc-mul, arith, add-one, drop-cons}
use Rattle.leaf_fields.specs.Fields.{Bytes}

-- the sum of the bytes
unfoldable pub plain_sum : List ℕ → ℕ
plain_sum [] = 0
plain_sum (b ∷ l) = b + plain_sum l

-- the sum of (i+1) times byte i, for bytes that stand from place k on
unfoldable pub placed_sum : ℕ → List ℕ → ℕ
placed_sum k [] = 0
placed_sum k (b ∷ l) = (k + 1) * b + placed_sum (suc k) l

pub plain_most : (l : List ℕ) → Bytes l → plain_sum l ≤ 255 * length l
unfolding plain_sum Bytes
plain_most [] h = omega arith
plain_most (b ∷ l) h = omega (arith, h 0, plain_most l (λ i. h (suc i)))

-- for m places at most
pub placed_most : (m k : ℕ) (l : List ℕ) → k + length l ≤ m → Bytes l → placed_sum k l ≤ length l * (m * 255)
unfolding placed_sum Bytes
placed_most m k [] fit h = omega arith
placed_most m k (b ∷ l) fit h =
    let p : (k + 1) * b ≤ m * 255 = mul-le-mul (omega arith) (omega (arith, h 0)) in
    omega (arith, suc-mul (length l) (m * 255), placed_most m (suc k) l (omega arith) (λ i. h (suc i)))

-- one byte more at the front
pub plain_front : (l : List ℕ) (i : ℕ) → i < length l → plain_sum (drop i l) ≡ get_or l i 0 + plain_sum (drop (i + 1) l)
unfolding plain_sum
plain_front l i h = rw (add-one, drop-cons l i 0 h)

pub placed_front : (l : List ℕ) (i : ℕ) → i < length l → placed_sum i (drop i l) ≡ (i + 1) * get_or l i 0 + placed_sum (i + 1) (drop (i + 1) l)
unfolding placed_sum
placed_front l i h = rw (drop-cons l i 0 h, add-one)
