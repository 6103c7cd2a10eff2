-- `storage_write::seal` meets its contract: two fields stored behind 504 bytes are those bytes and the fields.
-- Assumes nothing.
use mathlib.Core.Path.{◌≡◌, ap, ◌∙◌}
use mathlib.Core.List.{List, [], ◌++◌, append_assoc, append-nil}
use Prim.Native.Nat.{ℕ, ◌+◌}
use lib.ListN.{length, take, drop, length-take, length-append, drop_of_length-le}
use lib.Seq.{sets, sets-eq, length-sets, take_at}
use Rattle.leaf_fields.specs.Fields.{to_le, part}
use Rattle.leaf_fields.specs.Laws.{length-to_le}
use Rattle.leaf_sums.specs.Sums.{plain_sum, placed_sum}
use Rattle.storage_block.specs.Block.{sealed}
use native.Mathlib.Omega.{arith}
use Rattle.storage_write.proofs.seal.Goals as goal

-- two runs of four bytes, stored one after the other up to the end
two_fields : (b vs ws : List ℕ) → length b ≡ 512 → length vs ≡ 4 → length ws ≡ 4 → sets (sets b 504 vs) 508 ws ≡ take 504 b ++ (vs ++ ws)
two_fields b vs ws lb lv lw =
    let s = sets b 504 vs in
    let ls : length s ≡ 512 = length-sets b 504 vs ∙ lb in
    let la : length (take 504 b) ≡ 504 = simp length-take (omega arith) in
    let lav : length (take 504 b ++ vs) ≡ 508 = omega (arith, length-append (take 504 b) vs) in
    let front : take 508 s ≡ take 504 b ++ vs = ap (take 508) (sets-eq vs b 504 (omega arith)) ∙ take_at (take 504 b ++ vs) (drop (504 + length vs) b) 508 lav in
    let end : drop (508 + length ws) s ≡ [] = drop_of_length-le s {i = 508 + length ws} (omega arith) in
    sets-eq ws s 508 (omega arith) ∙ ap (λ (r : List ℕ). take 508 s ++ ws ++ r) end ∙ append-nil (take 508 s ++ ws)
    ∙ ap (λ (r : List ℕ). r ++ ws) front ∙ append_assoc (take 504 b) vs ws

done : (b m n : List ℕ) (p q : ℕ) → length b ≡ 512 → p ≡ plain_sum (part b 0 504) → q ≡ placed_sum 0 (part b 0 504) → m ≡ sets b 504 (to_le 4 p) → n ≡ sets m 508 (to_le 4 q) → n ≡ sealed (take 504 b)
unfolding sealed
done b m n p q lb ep eq em e = e ∙ ap (λ (r : List ℕ). sets r 508 (to_le 4 q)) em ∙ two_fields b (to_le 4 p) (to_le 4 q) lb (length-to_le 4 p) (length-to_le 4 q) ∙ rw (ep, eq)

pub returns : goal.returns
returns c = search done
