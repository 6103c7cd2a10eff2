-- A table as its blocks, and which block is a key's. This page alone says where a key is.
-- Assumes nothing.
use Rattle.std.specs.Prelude.{◌≡◌, Bool, true, false, not, cond, ◌&&◌, List, [], ◌∷◌, ◌++◌, ℕ, zero, suc, ◌*◌, eqb, leb, ltb, length, get_or, take, drop, map}
use Rattle.std.specs.Prelude.{Option, None, Some, MatchOption}
use denote.Ref.{Bor}
use Rattle.leaf_fields.specs.Fields.{same}
use Rattle.messages.specs.Message.{Key}
use Rattle.messages.specs.Limits.{registers_most}
use Rattle.messages.specs.declared.answer.Refusal.{Refusal}
use Rattle.messages.specs.Refusals.{Test, test}
use Rattle.storage_block.specs.Block.{Slot, free, used, bad, Register, fresh, block_bytes, slot_of}
use Rattle.storage_search.specs.declared.Found.{Found}

-- ---- bytes

-- "a block table is 512 bytes times its registers", "Registers 1 to 1,024"
unfoldable pub is_sized : List ℕ → ℕ → Bool
is_sized t n = ltb 0 n && leb n registers_most && eqb (length t) (n * block_bytes)

-- block i
unfoldable pub block_at : List ℕ → ℕ → List ℕ
block_at t i = take block_bytes (drop (i * block_bytes) t)

-- the table with b for its block i, and every other byte as it was
unfoldable pub with_block : List ℕ → ℕ → List ℕ → List ℕ
with_block t i b = take (i * block_bytes) t ++ (b ++ drop block_bytes (drop (i * block_bytes) t))

-- the m blocks from i on
unfoldable pub blocks_from : List ℕ → ℕ → ℕ → List (List ℕ)
blocks_from t i zero = []
blocks_from t i (suc m) = block_at t i ∷ blocks_from t (suc i) m

-- the table as n blocks
unfoldable pub blocks_of : List ℕ → ℕ → List (List ℕ)
blocks_of t n = blocks_from t 0 n

-- ---- values

-- the same as values
unfoldable pub slots_from : List ℕ → ℕ → ℕ → List Slot
slots_from t i zero = []
slots_from t i (suc m) = slot_of (block_at t i) ∷ slots_from t (suc i) m

-- the table's blocks
unfoldable pub slots : List ℕ → ℕ → List Slot
slots t n = slots_from t 0 n

abbrev pub is_bad : Slot → Bool
is_bad free = false
is_bad (used r) = false
is_bad bad = true

-- every block is free or good
unfoldable pub none_bad : List Slot → Bool
none_bad [] = true
none_bad (s ∷ l) = not (is_bad s) && none_bad l

-- the block holds the key
abbrev pub holds : Key → Slot → Bool
holds k free = false
holds k (used r) = same r.key k
holds k bad = false

abbrev pub is_free : Slot → Bool
is_free free = true
is_free (used r) = false
is_free bad = false

-- how many blocks p holds of
unfoldable pub count : (Slot → Bool) → List Slot → ℕ
count p [] = 0
count p (s ∷ l) = cond (p s) (suc (count p l)) (count p l)

-- the place of the first block that p holds of, the first place being i
unfoldable pub first_from : (Slot → Bool) → ℕ → List Slot → Option ℕ
first_from p i [] = None
first_from p i (s ∷ l) = cond (p s) (Some i) (first_from p (suc i) l)

abbrev pub found_by : Option ℕ → Option ℕ → Found
found_by (Some i) f = Found.At i
found_by None (Some i) = Found.Free i
found_by None None = Found.Full

-- where a key is: "two blocks hold the key"; the block that holds it; else "A new key takes the lowest free block"
unfoldable pub where_is : Key → List Slot → Found
where_is k l = cond (ltb 1 (count (holds k) l)) Found.Twice (found_by (first_from (holds k) 0 l) (first_from is_free 0 l))

abbrev pub is_twice : Found → Bool
is_twice (Found.At i) = false
is_twice (Found.Free i) = false
is_twice Found.Full = false
is_twice Found.Twice = true

abbrev pub is_full : Found → Bool
is_full (Found.At i) = false
is_full (Found.Free i) = false
is_full Found.Full = true
is_full Found.Twice = false

abbrev pub register_in : Key → Slot → Register
register_in k free = fresh k
register_in k (used r) = r
register_in k bad = fresh k

-- the register that a key has: that of its block, or of no block
abbrev pub register_by : Key → List Slot → Found → Register
register_by k l (Found.At i) = register_in k (get_or l i free)
register_by k l (Found.Free i) = fresh k
register_by k l Found.Full = fresh k
register_by k l Found.Twice = fresh k

-- a table that may be searched
pub record Lent (t : List ℕ) (n : ℕ) : Type 0 where
  pub sized : is_sized t n ≡ true
  pub sound : none_bad (slots t n) ≡ true

-- the same, with its blocks, whose slots are the table's
pub record LentAs (t : List ℕ) (n : ℕ) (l : List (List ℕ)) : Type 0 where
  pub lent : Lent t n
  pub is_table : l ≡ blocks_of t n
  pub values : map slot_of l ≡ slots t n

-- a table as its blocks, where it has a size that is not refused
abbrev pub BlocksOf : List ℕ → ℕ → Option (Bor (List (List ℕ))) → Type 0
BlocksOf t n o = MatchOption o (is_sized t n ≡ false) (λ b. (is_sized t n ≡ true) × (b.now ≡ blocks_of t n) × (map slot_of b.now ≡ slots t n))

-- refusals 1 and 2 for a table, in rank order
abbrev pub table_tests : List ℕ → ℕ → List Test
table_tests t n =
    test (not (is_sized t n)) Refusal.AreaSize
    ∷ test (not (none_bad (slots t n))) Refusal.Damaged
    ∷ []
