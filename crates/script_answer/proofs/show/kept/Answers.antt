-- `script_answer::show::kept` meets its contract: what is cut off the end were zeros, and what is left ends at a byte that is none.
-- Assumes nothing.
use Rattle.std.proofs.Common.{◌≡◌, refl, ◌∙◌, sym, ap, ◌&&◌, true, List, [], ◌∷◌, ◌++◌, ℕ, zero, suc, ◌+◌, ◌-◌, ◌≤◌, ◌<◌, eqb, length, get_or, take, drop, arith, rules}
use Rattle.std.proofs.lemmas.List.{take_all, take_more, drop_all, take-append-le}
use Rattle.leaf_fields.specs.Fields.{all_zero}
use Rattle.script_answer.specs.Lines.{kept_of}
use Rattle.script_answer.proofs.Kept.{within, zeros_kept, not_zeros}
use Rattle.script_answer.proofs.show.kept.Goals as goal

-- the last element stands behind the others
split : (s : List ℕ) → 1 ≤ length s → s ≡ take (length s - 1) s ++ get_or s (length s - 1) 0 ∷ []
split s h =
    let all : take (length s - 1 + 1) s ≡ s = take_all (length s - 1 + 1) s (omega arith) in
    sym all ∙ take_more s (length s - 1) 0 (omega arith)

zeros_behind : (l : List ℕ) → all_zero (l ++ 0 ∷ []) ≡ all_zero l
unfolding all_zero
zeros_behind [] = refl
zeros_behind (x ∷ l) = ap (λ t. eqb x 0 && t) (zeros_behind l)

zero_behind : (l : List ℕ) → kept_of (l ++ 0 ∷ []) ≡ kept_of l
unfolding kept_of all_zero
zero_behind [] = refl
zero_behind (x ∷ l) = rw (zeros_behind l, zero_behind l)

cut : (s : List ℕ) → 1 ≤ length s → get_or s (length s - 1) 0 ≡ 0 → take (kept_of (take (length s - 1) s)) (take (length s - 1) s) ≡ take (kept_of s) s
cut s h z =
    let l : List ℕ = take (length s - 1) s in
    let e : s ≡ l ++ 0 ∷ [] = rw z at (split s h) in
    let f : take (kept_of (l ++ 0 ∷ [])) (l ++ 0 ∷ []) ≡ take (kept_of l) l = rw (zero_behind l) (take-append-le (kept_of l) l (0 ∷ []) (within l)) in
    sym f ∙ ap (λ (x : List ℕ). take (kept_of x) x) (sym e)

last : (s : List ℕ) (m : ℕ) → m < length s → (get_or s m 0 ≡ 0 → ⊥) → all_zero (drop (suc m) s) ≡ true → suc m ≡ kept_of s
unfolding kept_of
last [] m more h z = absurd (omega arith)
last (x ∷ l) zero more h z = rw (not_zeros (x ∷ l) zero h, zeros_kept l z)
last (x ∷ l) (suc m) more h z = rw (not_zeros (x ∷ l) (suc m) h) (ap suc (last l m (omega arith) h z))

whole : (s : List ℕ) → 1 ≤ length s → (get_or s (length s - 1) 0 ≡ 0 → ⊥) → take (kept_of s) s ≡ s
unfolding all_zero
whole s h z =
    let n : suc (length s - 1) ≡ length s = omega arith in
    let k : suc (length s - 1) ≡ kept_of s = last s (length s - 1) (omega arith) z (rw n (ap all_zero (drop_all (length s) s (omega arith)))) in
    take_all (kept_of s) s (omega arith)

pub loop-s-preserved : goal.loop-s-preserved
loop-s-preserved c = search (rules, cut) ∙ c.loop-s.invariant

pub returns-else-last-eq0 : goal.returns-else-last-eq0
returns-else-last-eq0 c = sym (whole c.loop-s.s.now c.in-len1-up.len_at_least c.if-last-eq0.false) ∙ c.loop-s.invariant
