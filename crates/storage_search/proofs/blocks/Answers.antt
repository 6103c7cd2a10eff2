-- `storage_search::blocks` meets its contract: the table's chunks of 512 bytes are its blocks.
-- Assumes nothing.
use Rattle.std.proofs.Common.{◌≡◌, refl, sym, true, List, ℕ, zero, suc, ◌*◌, ◌+◌, ◌/◌, drop, length, ◌∙◌, arith}
use Rattle.std.proofs.lemmas.Grind.{common_steps}
use Rattle.std.proofs.lemmas.List.{drop-drop}
use Rattle.std.specs.Simd.{first_chunks}
use Rattle.storage_search.specs.Table.{block_at, blocks_from, blocks_of, is_sized}
use Rattle.storage_search.specs.Laws.{slots_of_blocks}
use Rattle.storage_search.proofs.blocks.Goals as goal

chunks_from : (t : List ℕ) (i m : ℕ) → first_chunks 512 m (drop (i * 512) t) ≡ blocks_from t i m
unfolding blocks_from block_at
chunks_from t i zero = refl
chunks_from t i (suc m) =
    let next : i * 512 + 512 ≡ suc i * 512 = omega arith in
    rw (drop-drop 512 (i * 512) t, next, chunks_from t (suc i) m)

chunks : (t : List ℕ) (n : ℕ) → length t ≡ n * 512 → first_chunks 512 (length t / 512) t ≡ blocks_of t n
unfolding blocks_of
chunks t n e =
    let count : length t / 512 ≡ n = omega arith in
    rw count (chunks_from t 0 n)

sized_length : (t : List ℕ) (n : ℕ) → is_sized t n ≡ true → length t ≡ n * 512
unfolding is_sized
sized_length t n e = grind (arith, common_steps)

pub returns : goal.returns
returns c =
    let ok = sym c.is_sized.ensures ∙ c.if-not-is_sized.false in
    let all = c.as_chunks.ensures.front ∙ chunks _ _ (sized_length _ _ ok) in
    (ok, all, slots_of_blocks _ _ _ all)
