-- A strict total order of ballots as a record of laws, what follows from them, and that the ballots of the plant with `above` are one. The agreement compares ballots through this record alone.
-- Assumes nothing.
use Rattle.std.specs.Prelude.{◌≡◌, true, ◌⊎◌, ℕ, ◌+◌, ◌≤◌}
use Rattle.std.proofs.Common.{sym, ap, subst, inl, inr, arith, ltb-true, lt-ltb}
use Rattle.std.proofs.Math.Decide.{dec_lt}
use Rattle.messages.specs.declared.Ballot.{Ballot}
use Rattle.messages.specs.Ballots.{ballot0, above}
use Rattle.proposer_rules.specs.Rules.{next_ballot}
use Rattle.agreement.specs.Members.{decide}

pub data Compared (A B C : Type 0) : Type 0 where
  lower : A → Compared A B C
  equal : B → Compared A B C
  higher : C → Compared A B C

pub record Order : Type 1 where
  pub Ballot : Type 0
  -- what a key without a block has
  pub zero : Ballot
  pub Below : Ballot → Ballot → Type 0
  pub irreflexive : (x : Ballot) → Below x x → ⊥
  pub transitive : {x y z : Ballot} → Below x y → Below y z → Below x z
  pub compare : (x y : Ballot) → Compared (Below x y) (x ≡ y) (Below y x)

unfoldable pub by_order : {A X Y Z : Type 0} → Compared X Y Z → (X → A) → (Y → A) → (Z → A) → A
by_order (lower p) f g h = f p
by_order (equal p) f g h = g p
by_order (higher p) f g h = h p

module _ (O : Order) where
  open O use {Ballot, Below, irreflexive, transitive, compare}

  abbrev pub NotAbove : Ballot → Ballot → Type 0
  NotAbove x y = Below y x → ⊥

  pub itself : (x : Ballot) → NotAbove x x
  itself x = irreflexive x

  pub below_not_above : {x y : Ballot} → Below x y → NotAbove x y
  below_not_above {x} h g = irreflexive x (transitive h g)

  pub below_then : {x y z : Ballot} → Below x y → NotAbove y z → Below x z
  below_then {x} {y} {z} h g = by_order (compare y z) (λ p. transitive h p) (λ e. subst (Below x) e h) (λ p. absurd (g p))

  pub then_below : {x y z : Ballot} → NotAbove x y → Below y z → Below x z
  then_below {x} {y} {z} g h = by_order (compare x y) (λ p. transitive p h) (λ e. subst (λ u. Below u z) (sym e) h) (λ p. absurd (g p))

  pub not_above_trans : {x y z : Ballot} → NotAbove x y → NotAbove y z → NotAbove x z
  not_above_trans {x} {y} {z} g h p = g (then_below h p)

  pub below_or_equal : {x y : Ballot} → NotAbove x y → Below x y ⊎ (x ≡ y)
  below_or_equal {x} {y} g = by_order (compare x y) (λ p. inl p) (λ e. inr e) (λ p. absurd (g p))

  pub not_above_both : {x y : Ballot} → NotAbove x y → NotAbove y x → x ≡ y
  not_above_both {x} {y} g h = by_order (compare x y) (λ p. absurd (h p)) (λ e. e) (λ p. absurd (g p))

-- ---- the plant's ballots

pub same_ballot : {x y : Ballot} → x.0 ≡ y.0 → x ≡ y
same_ballot {x} {y} e = ap (λ (n : ℕ). record { 0 = n }) e

-- the counter that a ballot needs
abbrev pub counter_of : Ballot → ℕ
counter_of b = b.0

-- the ballot after a counter is above all that the counter covers
pub next_above : (b : Ballot) (c : ℕ) → counter_of b ≤ c → above (next_ballot c) b ≡ true
next_above b c h = lt-ltb b.0 (c + 1) (omega arith)

pub next_counted : (c : ℕ) → counter_of (next_ballot c) ≤ c + 1
next_counted c = omega arith

pub compare_ballots : (x y : Ballot) → Compared (above y x ≡ true) (x ≡ y) (above x y ≡ true)
compare_ballots x y =
    decide (dec_lt x.0 y.0)
    (λ h. lower (lt-ltb x.0 y.0 h))
    (λ g. decide (dec_lt y.0 x.0) (λ h. higher (lt-ltb y.0 x.0 h)) (λ h. equal (same_ballot {x = x} {y = y} (omega arith))))

abbrev pub plant_order : Order
plant_order = record {
  Ballot = Ballot;
  zero = ballot0;
  Below = λ x y. above y x ≡ true;
  irreflexive = λ x h. let lt = ltb-true x.0 x.0 h in omega arith;
  transitive = λ {x} {y} {z} h g. lt-ltb x.0 z.0 (omega (arith, ltb-true x.0 y.0 h, ltb-true y.0 z.0 g));
  compare = compare_ballots;
}
