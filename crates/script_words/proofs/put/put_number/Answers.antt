-- `script_words::put::put_number` meets its contract. The loop's invariant: the digits that are left, before those in their places, are the number's.
-- Assumes nothing.
use Rattle.std.proofs.Common.{◌≡◌, refl, ap, ◌∙◌, ℕ, zero, suc, ◌+◌, ◌-◌, ◌/◌, ◌%◌, ◌≤◌, ◌<◌, List, [], ◌∷◌, length, length-set, length-drop, take, drop, set, drop_of_length-le, lt-ltb, le-ltb, rules, arith}
use Rattle.std.proofs.Math.Seq.{take-length}
use Rattle.script_words.specs.LentLaws.{Put}
use Rattle.script_words.specs.Written.{digits_before, decimal}
use Rattle.script_words.proofs.put.put_number.Goals as goal

begin : (n : ℕ) (d : List ℕ) → length d ≡ 20 → digits_before 20 n (drop 20 d) ≡ decimal n
unfolding decimal
begin n d h =
    let k : length d ≤ 20 = omega arith in
    ap (digits_before 20 n) (drop_of_length-le d k)

put_in : (d : List ℕ) (j a : ℕ) → j < length d → drop j (set d j a) ≡ a ∷ drop (suc j) d
put_in [] j a h = absurd (omega arith)
put_in (x ∷ d) zero a h = refl
put_in (x ∷ d) (suc j) a h = put_in d j a (omega arith)

-- a digit is put before the others
turn : (n rest i b : ℕ) (d : List ℕ) → 0 < i → i ≤ 20 → length d ≡ 20 → 10 ≤ rest → b ≡ 48 + rest % 10 → digits_before i rest (drop i d) ≡ decimal n → digits_before (i - 1) (rest / 10) (drop (i - 1) (set d (i - 1) b)) ≡ decimal n
unfolding digits_before
turn n rest zero b d h k l more e w = absurd (omega arith)
turn n rest (suc j) b d h k l more e w =
    let z : suc j - 1 ≡ j = omega arith in
    rw (z, put_in d j b (omega arith), e) (rw (le-ltb rest 10 more) at w)

text : (n rest i b m : ℕ) (d : List ℕ) → 0 < i → i ≤ 20 → length d ≡ 20 → m ≡ 20 → rest < 10 → b ≡ 48 + rest % 10 → digits_before i rest (drop i d) ≡ decimal n → take (m - (i - 1)) (drop (i - 1) (set d (i - 1) b)) ≡ decimal n
unfolding digits_before
text n rest zero b m d h k l lm less e w = absurd (omega arith)
text n rest (suc j) b m d h k l lm less e w =
    let z : suc j - 1 ≡ j = omega arith in
    let o : rest % 10 ≡ rest = omega arith in
    let q : length (drop j (set d j b)) ≡ m - j = rw (length-drop j (set d j b), length-set d j b, l, lm) in
    let t : take (m - j) (drop j (set d j b)) ≡ drop j (set d j b) = rw (← q) (take-length (drop j (set d j b))) in
    rw z (t ∙ rw (put_in d j b (omega arith), e, o) (rw (lt-ltb rest 10 less) at w))

whole : (n rest i m : ℕ) (d : List ℕ) → i ≤ 0 → length d ≡ 20 → m ≡ 20 → digits_before i rest (drop i d) ≡ decimal n → take (m - i) (drop i d) ≡ decimal n
unfolding digits_before
whole n rest zero m d h l lm w =
    let q : length d ≡ m - 0 = omega arith in
    rw (← q) (take-length d ∙ w)
whole n rest (suc j) m d h l lm w = absurd (omega arith)

digits_put : (out₀ out last t d : List ℕ) (at r : ℕ) → out ≡ out₀ → t ≡ d → Put out at t r last → Put out₀ at d r last
digits_put out₀ out last t d at r eo et h = rw (← eo, ← et) h

pub loop-i-init : goal.loop-i-init
loop-i-init c = (search rules, search rules, refl, search begin)

pub slice_bounds-put_text-end : goal.slice_bounds-put_text-end
slice_bounds-put_text-end c = simp length-set (omega arith)

pub returns-then-rest-lt10 : goal.returns-then-rest-lt10
returns-then-rest-lt10 c = search (digits_put, text) depth 12

pub loop-i-preserved : goal.loop-i-preserved
loop-i-preserved c = (search rules, search rules, search rules, search turn depth 9)

pub returns : goal.returns
returns c = search (digits_put, whole) depth 12
