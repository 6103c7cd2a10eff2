-- The entries of a list as chunks of two bytes, and one by one.
-- Assumes nothing.
use Rattle.std.specs.Prelude.{◌≡◌, refl, ◌||◌, List, [], ◌∷◌, eqb, take, drop, length}
use Rattle.std.proofs.Common.{ap, sym, ◌∙◌, take-take, drop-drop}
use Rattle.std.proofs.lemmas.List.{drop-take}
use Prim.Native.Nat.{ℕ, zero, suc, ◌+◌, ◌-◌, ◌*◌, ◌≤◌, ◌<◌}
use native.Mathlib.Omega.{arith}
use Rattle.std.specs.List.{list_any, flat_map}
use Rattle.std.specs.Simd.{first_chunks}
use Rattle.leaf_fields.specs.Fields.{from_le, part}
use Rattle.messages.specs.Answers.{entries}
use Rattle.proposer_rules.specs.State.{listed}
use Rattle.proposer_place.specs.Rows.{numbers}

chunks_are : (n : ℕ) (s : List ℕ) (at : ℕ) → numbers (first_chunks 2 n (take (2 * n) (drop at s))) ≡ entries s at n
unfolding entries
chunks_are zero s at = refl
chunks_are (suc n) s at =
    let more : 2 * suc n ≡ 2 + 2 * n = omega arith in
    let here : take 2 (take 2 (take (2 + 2 * n) (drop at s))) ≡ take 2 (drop at s) = take-take 2 2 (take (2 + 2 * n) (drop at s)) (omega arith) ∙ take-take 2 (2 + 2 * n) (drop at s) (omega arith) in
    let behind : drop 2 (take (2 + 2 * n) (drop at s)) ≡ take (2 * n) (drop (at + 2) s) = drop-take 2 (2 * n) (drop at s) ∙ ap (take (2 * n)) (drop-drop 2 at s) in
    rw (more, here, behind) (ap (λ l. from_le (part s at 2) ∷ l) (chunks_are n s (at + 2)))

pub entries_are : (s : List ℕ) (at n k : ℕ) (l : List (List ℕ)) → at + 2 * n ≤ length s → k ≡ n → l ≡ first_chunks 2 k (take (2 * n) (drop at s)) → numbers l ≡ entries s at n
entries_are s at n k l room many e = ap numbers (e ∙ ap (λ m. first_chunks 2 m (take (2 * n) (drop at s))) many) ∙ chunks_are n s at

-- the chunks of a part, one behind the other, are the part
pub chunks_flat : (k : ℕ) (s : List ℕ) → length s ≡ 2 * k → flat_map (λ e. e) (first_chunks 2 k s) ≡ s
chunks_flat zero [] e = refl
chunks_flat zero (x ∷ s) e = absurd (omega (arith, e))
chunks_flat (suc k) [] e = absurd (omega (arith, e))
chunks_flat (suc k) (x ∷ []) e = absurd (omega (arith, e))
chunks_flat (suc k) (x ∷ y ∷ s) e = ap (λ r. x ∷ y ∷ r) (chunks_flat k s (omega (arith, e)))

pub listed_entry : (a : ℕ) (l : List (List ℕ)) → list_any (λ e. eqb (from_le (part e 0 2)) a) l ≡ listed a (numbers l)
unfolding listed
listed_entry a [] = refl
listed_entry a (e ∷ l) = ap (λ r. eqb (from_le (part e 0 2)) a || r) (listed_entry a l)

-- the entries of a part that begins there
pub entries_lent : (s : List ℕ) (at n : ℕ) → entries (take (at + 2 * n - at) (drop at s)) 0 n ≡ entries s at n
entries_lent s at n =
    let many : at + 2 * n - at ≡ 2 * n = omega arith in
    rw many (sym (chunks_are n (take (2 * n) (drop at s)) 0) ∙ ap (λ l. numbers (first_chunks 2 n l)) (take-take (2 * n) (2 * n) (drop at s) (omega arith)) ∙ chunks_are n s at)

-- entry i and what is behind it, and nothing behind the last
module _ (s : List ℕ) (at n : ℕ) where
  pub entries_turn : (i : ℕ) → i < n → entries s (at + 2 * i) (n - i) ≡ from_le (part s (at + 2 * i) 2) ∷ entries s (at + 2 * (i + 1)) (n - (i + 1))
  unfolding entries
  entries_turn i more =
      let e : n - i ≡ suc (n - (i + 1)) = omega arith in
      let behind : at + 2 * i + 2 ≡ at + 2 * (i + 1) = omega arith in
      rw (e, behind)

  pub entries_past : (i : ℕ) → n ≤ i → entries s (at + 2 * i) (n - i) ≡ []
  unfolding entries
  entries_past i past =
      let e : n - i ≡ 0 = omega arith in
      rw e
