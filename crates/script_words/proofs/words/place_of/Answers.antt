-- `script_words::words::place_of` meets its contract: the place that `position` finds is how far the byte is.
-- Assumes nothing.
use Rattle.std.specs.Prelude.{MatchOption}
use Rattle.std.proofs.Common.{rules, tests, arith, ◌≡◌, ap, ℕ, ◌+◌, ◌≤◌, ◌<◌, Bool, true, false, cond, eqb, ltb, List, length, length-drop, take, drop, ◌-◌, refl, ◌∙◌, ltb-true, ltb-false, Option, Some, None}
use Rattle.std.proofs.Math.Seq.{take-length}
use Rattle.std.specs.List.{position_or_len}
use Rattle.std.proofs.lemmas.Iterator.{YieldsList-from_slice}
use Rattle.std.proofs.lemmas.Iterator.Search.{position_from_yields_List}
use Rattle.script_words.specs.Text.{up_to}
use Rattle.script_words.proofs.Pieces.{place_is, up_to_most}
use Rattle.script_words.proofs.words.place_of.Goals as goal

-- what `position` answers, in the words of `up_to`
found : (b : ℕ) (l : List ℕ) (r : Option ℕ) → r ≡ cond (ltb (position_or_len (λ x. eqb x b) l) (length l)) (Some (position_or_len (λ x. eqb x b) l)) None → MatchOption r (up_to b l ≡ length l) (λ i. (i ≡ up_to b l) × (i < length l))
found b l r f =
    let place : r ≡ cond (ltb (up_to b l) (length l)) (Some (up_to b l)) None = rw (← place_is b l) at f in
    rw place (by_test (ltb (up_to b l) (length l)) refl)
  where
    by_test : (t : Bool) → ltb (up_to b l) (length l) ≡ t → MatchOption (cond t (Some (up_to b l)) None) (up_to b l ≡ length l) (λ i. (i ≡ up_to b l) × (i < length l))
    by_test true h = (refl, ltb-true _ _ h)
    by_test false h = omega (arith, ltb-false _ _ h, up_to_most b l)

rest : (s : List ℕ) (from : ℕ) → from ≤ length s → take (length s - from) (drop from s) ≡ drop from s
rest s from h = rw (← length-drop from s, take-length (drop from s)) refl

answer : (s : List ℕ) (from b : ℕ) (r : Option ℕ) → from ≤ length s → MatchOption r (up_to b (drop from s) ≡ length (drop from s)) (λ i. (i ≡ up_to b (drop from s)) × (i < length (drop from s))) → MatchOption r (from + up_to b (drop from s) ≡ length s) (λ i. (from + i ≡ from + up_to b (drop from s)) × (from ≤ from + i) × (from + i < length s))
answer s from b None h m = omega (arith, m, length-drop from s)
answer s from b (Some i) h m = (ap (λ k. from + k) m.0, omega arith, omega (arith, m.1, length-drop from s))

pub returns-in_err-i : goal.returns-in_err-i
returns-in_err-i c =
    let l = drop c.args.from c.args.s.now in
    let all = rest c.args.s.now c.args.from (omega arith) in
    let e = position_from_yields_List (λ x. eqb x c.args.b) _ _ _ c.position.ensures.ran (YieldsList-from_slice l (c.iter.ensures.rest ∙ all)) (λ x b q k. search (rules, tests)) in
    let m = answer c.args.s.now c.args.from c.args.b _ c.requires (found c.args.b l _ e) in
    rw c.from_residual.ensures (rw (c.in_err-i.was) at m)

pub returns : goal.returns
returns c =
    let l = drop c.args.from c.args.s.now in
    let all = rest c.args.s.now c.args.from (omega arith) in
    let e = position_from_yields_List (λ x. eqb x c.args.b) _ _ _ c.position.ensures.ran (YieldsList-from_slice l (c.iter.ensures.rest ∙ all)) (λ x b q k. search (rules, tests)) in
    let m = answer c.args.s.now c.args.from c.args.b _ c.requires (found c.args.b l _ e) in
    rw (c.in_ok-i.was) at m
