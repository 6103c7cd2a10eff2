-- Rows of bytes: joined rows, zeros and written numbers are bytes, and a number read from bytes fits their width.
-- Assumes nothing.
use Rattle.std.specs.Prelude.{◌≡◌, List, [], ◌∷◌, ◌++◌, ℕ, zero, suc, ◌+◌, ◌/◌, ◌%◌, ◌^◌, ◌≤◌, ◌<◌, length, take, drop, replicate}
use Rattle.std.proofs.Common.{sym, ap, ◌∙◌, pow-suc, arith, lit<, take_at, drop_at, take-add, drop-drop, drop-cons}
use Rattle.leaf_fields.specs.Fields.{from_le, to_le, part, byte, Bytes}
use Rattle.leaf_fields.specs.Laws.{to_le-from_le, length-part, bytes_part}

pub bytes_none : Bytes []
unfolding Bytes
bytes_none = λ i. lit< tt

pub bytes_front : (b : ℕ) (l : List ℕ) → b < 256 → Bytes l → Bytes (b ∷ l)
unfolding Bytes
bytes_front b l hb h = λ i. elim i as (λ k. byte (b ∷ l) k < 256) [ zero ↦ hb | suc j ↦ h j ]

pub bytes_append : (l m : List ℕ) → Bytes l → Bytes m → Bytes (l ++ m)
unfolding Bytes
bytes_append [] m hl hm = hm
bytes_append (b ∷ l) m hl hm = λ i. elim i as (λ k. byte ((b ∷ l) ++ m) k < 256) [ zero ↦ hl 0 | suc j ↦ bytes_append l m (λ k. hl (suc k)) hm j ]

pub bytes_zeros : (n : ℕ) → Bytes (replicate n 0)
bytes_zeros zero = bytes_none
bytes_zeros (suc n) = bytes_front 0 (replicate n 0) (lit< tt) (bytes_zeros n)

pub bytes_to_le : (w x : ℕ) → Bytes (to_le w x)
unfolding to_le
bytes_to_le zero x = bytes_none
bytes_to_le (suc w) x = bytes_front (x % 256) (to_le w (x / 256)) (omega arith) (bytes_to_le w (x / 256))

-- a number read from bytes fits their width
pub from_le_fits : (l : List ℕ) → Bytes l → from_le l < 256 ^ length l
unfolding from_le Bytes
from_le_fits [] h = omega arith
from_le_fits (b ∷ l) h = omega (arith, h 0, pow-suc 256 (length l), from_le_fits l (λ i. h (suc i)))

-- the middle one of three rows
pub part_between : (p q s : List ℕ) (a n : ℕ) → length p ≡ a → length q ≡ n → part (p ++ (q ++ s)) a n ≡ q
part_between p q s a n hp hq = ap (take n) (drop_at p (q ++ s) a hp) ∙ take_at q s n hq

-- the bytes of a field are written back as they were
pub field_back : (b : List ℕ) (a n : ℕ) → a + n ≤ length b → Bytes b → to_le n (from_le (part b a n)) ≡ part b a n
field_back b a n room h = rw (length-part b a n room) at (to_le-from_le (part b a n) (bytes_part b a n h))

-- a field is told by its number
pub fields_same : (b c : List ℕ) (a n : ℕ) → a + n ≤ length b → a + n ≤ length c → Bytes b → Bytes c → from_le (part c a n) ≡ from_le (part b a n) → part c a n ≡ part b a n
fields_same b c a n roomb roomc hb hc e =
    sym (field_back c a n roomc hc) ∙ ap (to_le n) e ∙ field_back b a n roomb hb

-- two neighbours are one part
pub part_join : (b : List ℕ) (a n m : ℕ) → part b a n ++ part b (a + n) m ≡ part b a (n + m)
part_join b a n m = sym (take-add n m (drop a b) ∙ ap (λ (r : List ℕ). part b a n ++ take m r) (drop-drop n a b))

-- one byte and the part behind it
pub part_cons : (b : List ℕ) (a n : ℕ) → a < length b → part b a (suc n) ≡ byte b a ∷ part b (suc a) n
part_cons b a n h = rw (drop-cons b a 0 h)
