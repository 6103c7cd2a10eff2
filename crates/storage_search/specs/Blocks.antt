-- The laws of a table's bytes: its size, its blocks as they are lent, and a table with one block replaced. And the laws of equal bytes.
-- Assumes nothing.
use Rattle.std.specs.Prelude.{◌≡◌, true, ◌&&◌, List, [], ◌∷◌, ◌++◌, ℕ, zero, suc, ◌+◌, ◌-◌, ◌*◌, ◌≤◌, ◌<◌, eqb, leb, ltb}
use Rattle.std.proofs.Common.{sym, ◌∙◌, zero-add, suc-add, eqb-true, leb-true, ltb-true, length-drop, length-append, take-append-drop, drop_at, get_or-take, get_or-drop}
use Rattle.std.proofs.Math.Path.{ap}
use native.Mathlib.Omega.{arith}
use Rattle.std.proofs.Math.Decide.{dec_lt}
use borrow.Rule.Slice.PartMut as part
use Rattle.std.specs.Array.{IsFirstChunk}
use Rattle.std.proofs.Math.ListN.{length, take, drop, length-take}
use Rattle.std.proofs.Math.Seq.{take-nil, drop-nil, take_at, take-take, drop-drop, drop-append-add}
use Rattle.std.proofs.lemmas.List.{take-append-le, drop-append-le}
use Rattle.leaf_fields.specs.Fields.{byte}
use Rattle.leaf_fields.specs.Laws.{and_true}
use Rattle.messages.specs.Limits.{registers_most}
use Rattle.storage_block.specs.Block.{block_bytes}
use Rattle.storage_search.specs.Table.{is_sized, block_at, with_block}

-- ---- the size

-- what a size that is not refused says
pub record Sized (t : List ℕ) (n : ℕ) : Type 0 where
  pub least : 0 < n
  pub most : n ≤ registers_most
  pub bytes : length t ≡ n * block_bytes

pub sized_of : (t : List ℕ) (n : ℕ) → is_sized t n ≡ true → Sized t n
unfolding is_sized
sized_of t n h =
    let to_bytes = and_true (ltb 0 n && leb n registers_most) (eqb (length t) (n * block_bytes)) h in
    let toMost = and_true (ltb 0 n) (leb n registers_most) to_bytes.0 in
    record { least = ltb-true 0 n toMost.0; most = leb-true n registers_most toMost.1; bytes = eqb-true (length t) (n * block_bytes) to_bytes.1 }

-- block i of n has its bytes in the table
pub room_for : (t : List ℕ) (n i : ℕ) → length t ≡ n * block_bytes → i < n → i * block_bytes + block_bytes ≤ length t
room_for t n i e h = omega arith

-- ---- a block

-- how a block goes out from behind what stands before it, and how it comes back
module _ (t f r b : List ℕ) (i : ℕ) (before : f ≡ take (i * 512) t) (behind : r ≡ drop (i * 512) t) (first : IsFirstChunk r b 512) where
  pub lent_block : b ≡ block_at t i
  unfolding block_at
  lent_block = first.same ∙ ap (take 512) behind

  pub back_block : (n : List ℕ) → f ++ (n ++ drop 512 r) ≡ with_block t i n
  unfolding with_block
  back_block n = rw (before, behind)

-- the same where it is lent as a part of the table
pub put_mid : (t : List ℕ) (i : ℕ) (ys : List ℕ) → part.put_mid (i * 512) (i * 512 + 512 - i * 512) t ys ≡ with_block t i ys
unfolding with_block
put_mid t i ys =
    let e : i * 512 + 512 - i * 512 ≡ 512 = omega arith in
    rw e

pub length_block : (t : List ℕ) (i : ℕ) → i * block_bytes + block_bytes ≤ length t → length (block_at t i) ≡ block_bytes
unfolding block_at
length_block t i room = simp (length-take, length-drop) (omega arith)

pub lent_length : (t : List ℕ) (i : ℕ) → i * 512 + 512 ≤ length t → length (take (i * 512 + 512 - i * 512) (drop (i * 512) t)) ≡ 512
lent_length t i room = simp (length-take, length-drop) (omega arith)

-- a block's bytes are the table's
pub byte_block : (t : List ℕ) (i a : ℕ) → a < block_bytes → byte (block_at t i) a ≡ byte t (i * block_bytes + a)
unfolding block_at
byte_block t i a h = get_or-take block_bytes (drop (i * block_bytes) t) a 0 h ∙ get_or-drop (i * block_bytes) t a 0

drop-take : (a m : ℕ) (t : List ℕ) → drop a (take (a + m) t) ≡ take m (drop a t)
drop-take zero m t = rw zero-add
drop-take (suc a) m [] = simp (take-nil, drop-nil)
drop-take (suc a) m (x ∷ t) = rw suc-add (drop-take a m t)

-- what a block has from a on
pub drop_block : (t : List ℕ) (i a m : ℕ) → a + m ≡ block_bytes → drop a (block_at t i) ≡ take m (drop (i * block_bytes + a) t)
unfolding block_at
drop_block t i a m e =
    ap (λ (k : ℕ). drop a (take k (drop (i * block_bytes) t))) (sym e)
    ∙ drop-take a m (drop (i * block_bytes) t)
    ∙ ap (take m) (drop-drop a (i * block_bytes) t)

-- ---- a table with one block replaced

module _ (t : List ℕ) (i : ℕ) (b : List ℕ) (len : length b ≡ block_bytes) (room : i * block_bytes + block_bytes ≤ length t) where
  length_front : length (take (i * block_bytes) t) ≡ i * block_bytes
  length_front = simp length-take (omega arith)

  pub length_with : length (with_block t i b) ≡ length t
  unfolding with_block
  length_with = simp (length-append, length-take, length-drop) (omega arith)

  pub block_same : block_at (with_block t i b) i ≡ b
  unfolding block_at with_block
  block_same =
      let back = drop block_bytes (drop (i * block_bytes) t) in
      rw (drop_at (take (i * block_bytes) t) (b ++ back) (i * block_bytes) length_front, take_at b back block_bytes len)

  block_before : (j : ℕ) → j < i → block_at (with_block t i b) j ≡ block_at t j
  unfolding block_at with_block
  block_before j lt =
      let behind = b ++ drop block_bytes (drop (i * block_bytes) t) in
      let front = length_front in
      let left : length (drop (j * block_bytes) (take (i * block_bytes) t)) ≡ i * block_bytes - j * block_bytes = simp (length-drop, length-take) (omega arith) in
      let between : i * block_bytes ≡ j * block_bytes + (i * block_bytes - j * block_bytes) = omega arith in
      rw (drop-append-le (j * block_bytes) (take (i * block_bytes) t) behind (omega arith))
      (rw (take-append-le block_bytes (drop (j * block_bytes) (take (i * block_bytes) t)) behind (omega arith))
      (rw (between, drop-take (j * block_bytes) (i * block_bytes - j * block_bytes) t, take-take block_bytes (i * block_bytes - j * block_bytes) (drop (j * block_bytes) t) (omega arith))))

  block_after : (j : ℕ) → i < j → block_at (with_block t i b) j ≡ block_at t j
  unfolding block_at with_block
  block_after j lt =
      let front = take (i * block_bytes) t in
      let back = drop block_bytes (drop (i * block_bytes) t) in
      let more = j * block_bytes - i * block_bytes - block_bytes in
      let e : length front ≡ i * block_bytes = length_front in
      let past : j * block_bytes ≡ length front + (length b + more) = omega arith in
      let whole : i * block_bytes + (block_bytes + more) ≡ j * block_bytes = omega arith in
      ap (take block_bytes)
      (ap (λ (k : ℕ). drop k (front ++ (b ++ back))) past
      ∙ drop-append-add front (b ++ back) (length b + more)
      ∙ drop-append-add b back more
      ∙ drop-drop more block_bytes (drop (i * block_bytes) t)
      ∙ drop-drop (block_bytes + more) (i * block_bytes) t
      ∙ ap (λ (k : ℕ). drop k t) whole)

  pub block_other : (j : ℕ) → (j ≡ i → ⊥) → block_at (with_block t i b) j ≡ block_at t j
  block_other j ne = elim (dec_lt j i) [ yes lt ↦ block_before j lt | no ge ↦ block_after j (omega arith) ]

-- ---- equal bytes

-- a block replaced by itself
pub same_block : (t : List ℕ) (i : ℕ) → with_block t i (block_at t i) ≡ t
unfolding with_block block_at
same_block t i = ap (λ (r : List ℕ). take (i * block_bytes) t ++ r) (take-append-drop block_bytes (drop (i * block_bytes) t)) ∙ take-append-drop (i * block_bytes) t
