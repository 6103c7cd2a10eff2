-- `script_words::number::read_number` meets its contract: each exit by what was read so far.
-- Assumes nothing.
use Rattle.std.proofs.Common.{rules, inl, inr, arith, ◌≡◌, refl, sym, ◌∙◌, ap, ℕ, ◌+◌, ◌-◌, ◌*◌, ◌^◌, ◌≤◌, ◌<◌, Bool, true, false, ◌&&◌, cond, leb, leb-true, le-leb, lt-ltb, le-ltb, List, [], ◌∷◌, length, get_or, drop, drop-cons, drop_of_length-le, add-one, Option, Some, None}
use Rattle.std.specs.Char.{IsDigitOf, NotDecimalDigitIn}
use Rattle.script_words.specs.Text.{is_digit, digits_from, number_of}
use Rattle.script_words.proofs.number.read_number.Goals as goal

-- what `to_digit` says of a byte that is a decimal digit, and of any other
digit_is : (b u v d : ℕ) → u ≡ b → (v < 10) × (d ≡ v) → IsDigitOf u d → (is_digit b ≡ true) × (d ≡ b - 48)
digit_is b u v d e small h =
    let k : b ≡ 48 + d = elim h [ inl k ↦ omega (arith, k) | inr k ↦ absurd (elim k [ inl l ↦ omega (arith, l, small) | inr l ↦ omega (arith, l, small) ]) ] in
    (rw (le-leb 48 b (omega arith), le-leb b 57 (omega (arith, small))) refl, omega arith)

no_digit : (b u : ℕ) → u ≡ b → NotDecimalDigitIn 10 u → is_digit b ≡ false
no_digit b u e h = by_tests (leb 48 b) (leb b 57) refl refl
  where
    by_tests : (t s : Bool) → leb 48 b ≡ t → leb b 57 ≡ s → t && s ≡ false
    by_tests false s f g = refl
    by_tests true false f g = refl
    by_tests true true f g = absurd (omega (arith, h (omega (arith, leb-true _ _ f)) (omega (arith, leb-true _ _ g)), leb-true _ _ g))

empty : (w : List ℕ) → length w ≡ 0 → None ≡ number_of w
unfolding number_of
empty [] h = refl
empty (b ∷ l) h = absurd (omega arith)

begin : (w : List ℕ) → (length w ≡ 0 → ⊥) → number_of w ≡ digits_from 0 w
unfolding number_of
begin [] h = absurd (h refl)
begin (b ∷ l) h = refl

module _ (w : List ℕ) (x i : ℕ) (more : i < length w) (so_far : number_of w ≡ digits_from x (drop i w)) where
  other : is_digit (get_or w i 0) ≡ false → None ≡ number_of w
  unfolding digits_from
  other f = sym (so_far ∙ rw (drop-cons w i 0, f))

  wraps : (2 ^ 64 ≤ x * 10 + (get_or w i 0 - 48)) → None ≡ number_of w
  unfolding digits_from
  wraps h = sym (so_far ∙ rw (drop-cons w i 0, le-ltb _ _ h) (either (is_digit (get_or w i 0))))
    where
      either : (t : Bool) → cond {A = Option ℕ} t None None ≡ None
      either true = refl
      either false = refl

  next : (y : ℕ) → is_digit (get_or w i 0) ≡ true → y ≡ x * 10 + (get_or w i 0 - 48) → y < 2 ^ 64 → number_of w ≡ digits_from y (drop (i + 1) w)
  unfolding digits_from
  next y f g h = so_far ∙ rw (drop-cons w i 0, f, ← g, lt-ltb _ _ h, add-one) refl

end : (w : List ℕ) (x i : ℕ) → length w ≤ i → number_of w ≡ digits_from x (drop i w) → Some x ≡ number_of w
unfolding digits_from
end w x i past e = sym (e ∙ ap (digits_from x) (drop_of_length-le w past))

pub returns-then-is_empty : goal.returns-then-is_empty
returns-then-is_empty c = search (rules, empty)

pub loop-b-init : goal.loop-b-init
loop-b-init c = search (rules, begin)

pub returns-in_err-digit : goal.returns-in_err-digit
returns-in_err-digit c =
    c.from_residual.ensures ∙ other _ _ _ c.loop-b-test.true c.loop-b.invariant (no_digit _ _ c.from.ensures c.in_err-digit.ensures.cases)

pub returns-in_err-checked_mul : goal.returns-in_err-checked_mul
returns-in_err-checked_mul c =
    c.from_residual-in_err-checked_mul.ensures ∙ wraps _ _ _ c.loop-b-test.true c.loop-b.invariant (omega (arith, c.in_err-checked_mul.ensures))

pub returns-in_err-x : goal.returns-in_err-x
returns-in_err-x c =
    let d = digit_is _ _ _ _ c.from.ensures c.in_ok-digit.ensures.value c.in_ok-digit.ensures.cases in
    c.from_residual-in_err-x.ensures
    ∙ wraps _ _ _ c.loop-b-test.true c.loop-b.invariant (omega (arith, c.in_err-x.ensures, c.in_ok-checked_mul.ensures, c.from-in-loop-b.ensures, d.1))

pub loop-b-preserved : goal.loop-b-preserved
loop-b-preserved c =
    let d = digit_is _ _ _ _ c.from.ensures c.in_ok-digit.ensures.value c.in_ok-digit.ensures.cases in
    next _ _ _ c.loop-b-test.true c.loop-b.invariant _ d.0 (omega (arith, c.in_ok-x.ensures, c.in_ok-checked_mul.ensures, c.from-in-loop-b.ensures, d.1)) (omega (arith, c.in_ok-x.ensures))

pub returns : goal.returns
returns c = search end
