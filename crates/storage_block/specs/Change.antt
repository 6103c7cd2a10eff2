-- A change of any one or two bytes of a free or good block leaves a block that is neither.
-- Assumes nothing.
use Rattle.std.specs.Prelude.{◌≡◌, refl, Bool, true, false, ◌&&◌, List, [], ◌∷◌, ℕ, zero, suc, ◌+◌, ◌-◌, ◌*◌, ◌≤◌, ◌<◌, length, drop, set, replicate}
use Rattle.std.proofs.Common.{sym, ap, ◌∙◌, mul-add, arith, length-set, set-set, get_or-set_other, drop-set-lt}
use Rattle.std.proofs.Math.Nat.{eq_of_mul-eq-mul_left, eq_of_mul-eq-mul_right}
use Rattle.std.proofs.Math.Decide.{dec_le, dec_lt, ℕ_discrete}
use Rattle.std.proofs.lemmas.List.{set-get_or, take-set-le, drop-set-add}
use Rattle.std.proofs.Math.Seq.{take-set-lt}
use Rattle.leaf_fields.specs.Fields.{from_le, part, byte, all_zero, Bytes}
use Rattle.leaf_fields.specs.Laws.{length-part, bytes_set, and_true, zeros_are}
use Rattle.leaf_sums.specs.Sums.{plain_sum, placed_sum}
use Rattle.leaf_fields.specs.Rows.{fields_same}
use Rattle.storage_block.specs.Read.{Sums, sums_of, three_parts}
use Rattle.storage_block.specs.declared.BlockState.{BlockState}
use Rattle.storage_block.specs.Block.{block_bytes, head_good, rest_zero, sums_good, good, state_of}

-- ---- what a store does to the two sums

plain_set : (l : List ℕ) (i u : ℕ) → i < length l → plain_sum (set l i u) + byte l i ≡ plain_sum l + u
unfolding plain_sum
plain_set [] i u h = omega arith
plain_set (b ∷ l) zero u h = omega arith
plain_set (b ∷ l) (suc i) u h = omega (arith, plain_set l i u (omega arith))

placed_set : (k : ℕ) (l : List ℕ) (i u : ℕ) → i < length l → placed_sum k (set l i u) + (k + i + 1) * byte l i ≡ placed_sum k l + (k + i + 1) * u
unfolding placed_sum
placed_set k [] i u h = omega arith
placed_set k (b ∷ l) zero u h =
    let e : k + 0 + 1 ≡ k + 1 = omega arith in
    rw e (omega arith)
placed_set k (b ∷ l) (suc i) u h =
    let e : k + suc i + 1 ≡ suc k + i + 1 = omega arith in
    rw e (omega (arith, placed_set (suc k) l i u (omega arith)))

-- ---- a change that keeps the sums is none

-- two weights that differ tell a change of two numbers apart, if it keeps their sum: here for a first number that does not grow
weights_apart_below : (p q a c u v : ℕ) → u + v ≡ a + c → p * u + q * v ≡ p * a + q * c → (p ≡ q → ⊥) → u ≤ a → u ≡ a
weights_apart_below p q a c u v e f ne low = go (a - u) refl
  where
    go : (d : ℕ) → a - u ≡ d → u ≡ a
    go zero z = omega arith
    go (suc d) z =
        let ea : a ≡ u + suc d = omega arith in
        let ev : v ≡ c + suc d = omega arith in
        let g : p * suc d ≡ q * suc d = omega (arith, mul-add p u (suc d), mul-add q c (suc d), ap (λ (x : ℕ). p * x) ea, ap (λ (x : ℕ). q * x) ev) in
        absurd (ne (eq_of_mul-eq-mul_right (suc d) (omega arith) p q g))

weights_apart : (p q a c u v : ℕ) → u + v ≡ a + c → p * u + q * v ≡ p * a + q * c → (p ≡ q → ⊥) → u ≡ a
weights_apart p q a c u v e f ne =
    elim (dec_le u a) [ yes h ↦ weights_apart_below p q a c u v e f ne h | no h ↦ sym (weights_apart_below p q u v a c (sym e) (sym f) ne (omega arith)) ]

-- a change at one place that keeps one sum
one_plain : (l : List ℕ) (i u : ℕ) → i < length l → plain_sum (set l i u) ≡ plain_sum l → set l i u ≡ l
one_plain l i u h e =
    let g : u ≡ byte l i = omega (arith, plain_set l i u h) in
    rw (g, set-get_or l i 0)

one_placed : (l : List ℕ) (i u : ℕ) → i < length l → placed_sum 0 (set l i u) ≡ placed_sum 0 l → set l i u ≡ l
one_placed l i u h e =
    let g : u ≡ byte l i = eq_of_mul-eq-mul_left (0 + i + 1) (omega arith) u (byte l i) (omega (arith, placed_set 0 l i u h)) in
    rw (g, set-get_or l i 0)

-- a change at two places that keeps both
module _ (l : List ℕ) (i j u v : ℕ) (hi : i < length l) (hj : j < length l) (e : plain_sum (set (set l i u) j v) ≡ plain_sum l) (f : placed_sum 0 (set (set l i u) j v) ≡ placed_sum 0 l) where
  two_same_place : i ≡ j → set (set l i u) j v ≡ l
  two_same_place h =
      let once : set (set l i u) j v ≡ set l j v = ap (λ (k : ℕ). set (set l k u) j v) h ∙ set-set l j u v in
      once ∙ one_plain l j v hj (sym (ap plain_sum once) ∙ e)

  two_places : (i ≡ j → ⊥) → set (set l i u) j v ≡ l
  two_places ne =
      let hj' : j < length (set l i u) = simp length-set hj in
      let other : byte (set l i u) j ≡ byte l j = get_or-set_other l i j u 0 (λ q. ne (sym q)) in
      let plain-i = plain_set l i u hi in
      let plain-j = rw other at (plain_set (set l i u) j v hj') in
      let placed-i = placed_set 0 l i u hi in
      let placed-j = rw other at (placed_set 0 (set l i u) j v hj') in
      let at_i : u ≡ byte l i = weights_apart (0 + i + 1) (0 + j + 1) (byte l i) (byte l j) u v (omega arith) (omega arith) (λ q. ne (omega arith)) in
      let at_j : v ≡ byte l j = omega arith in
      rw (at_i, set-get_or l i 0, at_j, set-get_or l j 0)

  two_both : set (set l i u) j v ≡ l
  two_both = elim (ℕ_discrete i j) [ yes h ↦ two_same_place h | no h ↦ two_places h ]

-- ---- a store, and a part before it, behind it and around it

part_behind_set : (b : List ℕ) (i u a n : ℕ) → i < a → part (set b i u) a n ≡ part b a n
part_behind_set b i u a n h = rw (drop-set-lt a b i u h)

part_before_set : (b : List ℕ) (i u a n : ℕ) → a + n ≤ i → part (set b i u) a n ≡ part b a n
part_before_set b i u a n h =
    let e : i ≡ a + (i - a) = omega arith in
    rw e (rw (drop-set-add a b (i - a) u) (take-set-le n (drop a b) (i - a) u (omega arith)))

part_around_set : (b : List ℕ) (i u n : ℕ) → i < n → part (set b i u) 0 n ≡ set (part b 0 n) i u
part_around_set b i u n h = take-set-lt n b i u h

-- ---- a block whose sums hold is told by its first 504 bytes

told_by_first : (b c : List ℕ) → length b ≡ block_bytes → length c ≡ block_bytes → Bytes b → Bytes c → Sums b → Sums c → part c 0 504 ≡ part b 0 504 → c ≡ b
told_by_first b c lb lc hb hc sb sc e =
    let f = fields_same b c 504 4 (omega arith) (omega arith) hb hc (sc.plain ∙ ap plain_sum e ∙ sym sb.plain) in
    let g = fields_same b c 508 4 (omega arith) (omega arith) hb hc (sc.placed ∙ ap (placed_sum 0) e ∙ sym sb.placed) in
    three_parts c lc ∙ rw (e, f, g) (sym (three_parts b lb))

-- ---- two stores into a block whose sums hold

module _ (b : List ℕ) (i j u v : ℕ) (lb : length b ≡ block_bytes) (hb : Bytes b) (hu : u < 256) (hv : v < 256) (hi : i < block_bytes) (hj : j < block_bytes) where
  abbrev changed : List ℕ
  changed = set (set b i u) j v

  length-changed : length changed ≡ block_bytes
  length-changed = simp length-set lb

  bytes_changed : Bytes changed
  bytes_changed = bytes_set (set b i u) j v (simp length-set (omega arith)) hv (bytes_set b i u (omega arith) hu hb)

  -- if the sums hold before and after, the first 504 bytes are the same
  module _ (sb : Sums b) (sc : Sums changed) where
    length_first : length (part b 0 504) ≡ 504
    length_first = length-part b 0 504 (omega arith)

    both_in : i < 504 → j < 504 → part changed 0 504 ≡ part b 0 504
    both_in ii jj =
        let plain = part_behind_set (set b i u) j v 504 4 jj ∙ part_behind_set b i u 504 4 ii in
        let placed = part_behind_set (set b i u) j v 508 4 (omega arith) ∙ part_behind_set b i u 508 4 (omega arith) in
        let e = part_around_set (set b i u) j v 504 jj ∙ ap (λ (r : List ℕ). set r j v) (part_around_set b i u 504 ii) in
        e ∙ two_both (part b 0 504) i j u v (omega (arith, length_first)) (omega (arith, length_first))
        (sym (ap plain_sum e) ∙ sym sc.plain ∙ ap from_le plain ∙ sb.plain)
        (sym (ap (placed_sum 0) e) ∙ sym sc.placed ∙ ap from_le placed ∙ sb.placed)

    -- one store into the first 504 bytes, the other into one of the sums: then the other sum is as it was
    first_in_lem : i < 504 → 504 ≤ j → part changed 0 504 ≡ part b 0 504
    first_in_lem ii jj =
        let e = part_before_set (set b i u) j v 0 504 jj ∙ part_around_set b i u 504 ii in
        e ∙ (elim (dec_lt j 508) as (λ _. set (part b 0 504) i u ≡ part b 0 504) [
          | yes lo ↦ one_placed (part b 0 504) i u (omega (arith, length_first)) (sym (ap (placed_sum 0) e) ∙ sym sc.placed ∙ ap from_le (part_behind_set (set b i u) j v 508 4 lo ∙ part_behind_set b i u 508 4 (omega arith)) ∙ sb.placed)
          | no up ↦ one_plain (part b 0 504) i u (omega (arith, length_first)) (sym (ap plain_sum e) ∙ sym sc.plain ∙ ap from_le (part_before_set (set b i u) j v 504 4 (omega arith) ∙ part_behind_set b i u 504 4 ii) ∙ sb.plain)
        ])

    second_in_lem : 504 ≤ i → j < 504 → part changed 0 504 ≡ part b 0 504
    second_in_lem ii jj =
        let e = part_around_set (set b i u) j v 504 jj ∙ ap (λ (r : List ℕ). set r j v) (part_before_set b i u 0 504 ii) in
        e ∙ (elim (dec_lt i 508) as (λ _. set (part b 0 504) j v ≡ part b 0 504) [
          | yes lo ↦ one_placed (part b 0 504) j v (omega (arith, length_first)) (sym (ap (placed_sum 0) e) ∙ sym sc.placed ∙ ap from_le (part_behind_set (set b i u) j v 508 4 (omega arith) ∙ part_behind_set b i u 508 4 lo) ∙ sb.placed)
          | no up ↦ one_plain (part b 0 504) j v (omega (arith, length_first)) (sym (ap plain_sum e) ∙ sym sc.plain ∙ ap from_le (part_behind_set (set b i u) j v 504 4 jj ∙ part_before_set b i u 504 4 (omega arith)) ∙ sb.plain)
        ])

    none_in : 504 ≤ i → 504 ≤ j → part changed 0 504 ≡ part b 0 504
    none_in ii jj = part_before_set (set b i u) j v 0 504 jj ∙ part_before_set b i u 0 504 ii

    first_same : part changed 0 504 ≡ part b 0 504
    first_same =
        elim (dec_lt i 504) [
          | yes ii ↦ elim (dec_lt j 504) [ yes jj ↦ both_in ii jj | no jj ↦ first_in_lem ii (omega arith) ]
          | no ii ↦ elim (dec_lt j 504) [ yes jj ↦ second_in_lem (omega arith) jj | no jj ↦ none_in (omega arith) (omega arith) ]
        ]

  sums_tell : sums_good b ≡ true → sums_good changed ≡ true → changed ≡ b
  sums_tell p q =
      let sb = sums_of b p in
      let sc = sums_of changed q in
      told_by_first b changed lb length-changed hb bytes_changed sb sc (first_same sb sc)

-- ---- free and good blocks

zeros_sums : sums_good (replicate 512 0) ≡ true
unfolding sums_good plain_sum placed_sum from_le
zeros_sums = refl

-- the sums of a block that is free or good hold
sums_hold : (b : List ℕ) → length b ≡ block_bytes → (state_of b ≡ BlockState.Bad → ⊥) → sums_good b ≡ true
unfolding state_of good
sums_hold b len ok = go (all_zero b) refl (good b) refl
  where
    go : (z : Bool) → all_zero b ≡ z → (g : Bool) → good b ≡ g → sums_good b ≡ true
    go true ez g eg = rw (zeros_are b ez, len) zeros_sums
    go false ez true eg = (and_true (head_good b && rest_zero b) (sums_good b) eg).1
    go false ez false eg = absurd (ok (rw (ez, eg)))

-- a state that cannot be other than bad is bad
only_bad : (s : BlockState) → ((s ≡ BlockState.Bad → ⊥) → ⊥) → s ≡ BlockState.Bad
only_bad BlockState.Free never = absurd (never (λ e. let z : ◌≡◌ {A = ℕ} 0 1 = cc in omega arith))
only_bad BlockState.Good never = absurd (never (λ e. let z : ◌≡◌ {A = ℕ} 0 1 = cc in omega arith))
only_bad BlockState.Bad never = refl

pub changed_is_bad : (b : List ℕ) (i j u v : ℕ) → length b ≡ block_bytes → Bytes b → u < 256 → v < 256 → i < block_bytes → j < block_bytes → (state_of b ≡ BlockState.Bad → ⊥) → (set (set b i u) j v ≡ b → ⊥) → state_of (set (set b i u) j v) ≡ BlockState.Bad
changed_is_bad b i j u v lb hb hu hv hi hj ok ne =
    only_bad (state_of (set (set b i u) j v)) (λ other. ne (sums_tell b i j u v lb hb hu hv hi hj (sums_hold b lb ok) (sums_hold (set (set b i u) j v) (simp length-set lb) other)))
