-- The laws of the late requests: what stands where the search for the lowest ballot ends, and what the rules make of the places there.
-- Assumes nothing.
use Rattle.std.specs.Prelude.{◌≡◌, Bool, not, cond, ◌&&◌, length, get_or, set}
use Rattle.std.proofs.Math.Path.{refl, ap}
use Rattle.std.proofs.Common.{sym, ◌∙◌, arith, ltb-true, ltb-false}
use Rattle.std.proofs.Math.Bool.{true, false, and-true}
use mathlib.Core.List.{List, [], ◌∷◌}
use Rattle.std.specs.Prelude.{Option, None, Some}
use Prim.Native.Nat.{ℕ, suc, ◌≤◌, ◌<◌}
use Rattle.messages.specs.declared.Ballot.{Ballot}
use Rattle.messages.specs.Ballots.{above}
use Rattle.proposer_rules.specs.State.{Pending, Proposer}
use Rattle.proposer_rules.specs.Rules.{late, drop_late, in_time, insert, late_ones}
use Rattle.proposer_clock.specs.Late.{none_below, late_of}

-- place i holds it: it is the first of the late ones, and the others are those without it
pub record LateAt (s : Proposer) (t : ℕ) (l : List (Option Pending)) (i : ℕ) : Type 0 where
  pub pending : Pending
  pub there : get_or l i None ≡ Some pending
  pub is_late : late s t pending ≡ true
  pub first : late_ones s t l ≡ pending ∷ late_ones s t (set l i None)
  pub kept : in_time s t (set l i None) ≡ in_time s t l
  pub lowest : (b : Ballot) → none_below s t b l ≡ not (above b pending.ballot)

pub record NoneLate (s : Proposer) (t : ℕ) (l : List (Option Pending)) : Type 0 where
  pub nothing : late_ones s t l ≡ []
  pub kept : in_time s t l ≡ l
  pub lowest : (b : Ballot) → none_below s t b l ≡ true

-- one of the two holds
data Lateness (s : Proposer) (t : ℕ) (l : List (Option Pending)) : Type 0 where
  nothing_late : late_of s t l ≡ length l → NoneLate s t l → Lateness s t l
  late_at : (i : ℕ) → late_of s t l ≡ i → i < length l → LateAt s t l i → Lateness s t l

insert_first : (p q : Pending) (l : List Pending) → above p.ballot q.ballot ≡ false → insert p (q ∷ l) ≡ p ∷ q ∷ l
unfolding insert
insert_first p q l h = rw h

insert_behind : (p q : Pending) (l : List Pending) → above p.ballot q.ballot ≡ true → insert p (q ∷ l) ≡ q ∷ insert p l
unfolding insert
insert_behind p q l h = rw h

-- one that is not above another: what is not above the first is not above the other
pub lower_decides : (a b c : Ballot) → above b c ≡ false → (not (above a b) && not (above a c)) ≡ not (above a b)
lower_decides a b c h = go (above a b) (above a c) refl refl
  where
    go : (x y : Bool) → above a b ≡ x → above a c ≡ y → (not x && not y) ≡ not x
    go true y ex ey = refl
    go false false ex ey = refl
    go false true ex ey = absurd (omega (arith, ltb-false c.0 b.0 h, ltb-false b.0 a.0 ex, ltb-true c.0 a.0 ey))

pub higher_drops : (a b c : Ballot) → above b c ≡ true → (not (above a b) && not (above a c)) ≡ not (above a c)
higher_drops a b c h = go (above a b) (above a c) refl refl
  where
    go : (x y : Bool) → above a b ≡ x → above a c ≡ y → (not x && not y) ≡ not y
    go false y ex ey = refl
    go true true ex ey = refl
    go true false ex ey = absurd (omega (arith, ltb-true c.0 b.0 h, ltb-true b.0 a.0 ex, ltb-false c.0 a.0 ey))

module _ (s : Proposer) (t : ℕ) (l : List (Option Pending)) where
  behind_free : Lateness s t l → Lateness s t (None ∷ l)
  unfolding late_of late_ones in_time none_below
  behind_free (nothing_late e n) = nothing_late (ap suc e) (record { nothing = n.nothing; kept = ap (λ (r : List (Option Pending)). None ∷ r) n.kept; lowest = n.lowest })
  behind_free (late_at i e h f) =
      late_at (suc i) (ap suc e) (omega arith)
      (record { pending = f.pending; there = f.there; is_late = f.is_late; first = f.first; kept = ap (λ (r : List (Option Pending)). None ∷ r) f.kept; lowest = f.lowest })

  module _ (p : Pending) where
    behind_early : late s t p ≡ false → Lateness s t l → Lateness s t (Some p ∷ l)
    unfolding late_of late_ones in_time none_below
    behind_early o (nothing_late e n) =
        nothing_late (rw o (ap suc e))
        (record { nothing = rw o n.nothing; kept = rw o (ap (λ (r : List (Option Pending)). Some p ∷ r) n.kept); lowest = λ b. rw o (n.lowest b) })
    behind_early o (late_at i e h f) =
        late_at (suc i) (rw o (ap suc e)) (omega arith)
        (record {
          pending = f.pending;
          there = f.there;
          is_late = f.is_late;
          first = rw o f.first;
          kept = rw o (ap (λ (r : List (Option Pending)). Some p ∷ r) f.kept);
          lowest = λ b. rw o (f.lowest b);
        })

    lowest_here : late s t p ≡ true → insert p (late_ones s t l) ≡ p ∷ late_ones s t l → ((b : Ballot) → (not (above b p.ballot) && none_below s t b l) ≡ not (above b p.ballot)) → LateAt s t (Some p ∷ l) 0
    unfolding late_ones in_time none_below
    lowest_here o first low = record { pending = p; there = refl; is_late = o; first = rw o first; kept = rw o; lowest = λ b. rw o (low b) }

    lowest_behind : (i : ℕ) (f : LateAt s t l i) → late s t p ≡ true → above p.ballot f.pending.ballot ≡ true → LateAt s t (Some p ∷ l) (suc i)
    unfolding late_ones in_time none_below
    lowest_behind i f o m = record {
      pending = f.pending;
      there = f.there;
      is_late = f.is_late;
      first = rw o (ap (insert p) f.first ∙ insert_behind p f.pending (late_ones s t (set l i None)) m);
      kept = ap (λ (r : List (Option Pending)). drop_late s t (Some p) ∷ r) f.kept;
      lowest = λ b. rw (o, f.lowest b) (higher_drops b p.ballot f.pending.ballot m);
    }

    before_others : (i : ℕ) (f : LateAt s t l i) → late_of s t l ≡ i → i < length l → late s t p ≡ true → (m : Bool) → above p.ballot f.pending.ballot ≡ m → Lateness s t (Some p ∷ l)
    unfolding late_of
    before_others i f e h o true em = late_at (suc i) (rw (o, f.lowest p.ballot, em) (ap suc e)) (omega arith) (lowest_behind i f o em)
    before_others i f e h o false em =
        let lower : none_below s t p.ballot l ≡ true = f.lowest p.ballot ∙ rw em in
        late_at 0 (rw (o, lower)) (omega arith)
        (lowest_here o (ap (insert p) f.first ∙ insert_first p f.pending (late_ones s t (set l i None)) em ∙ ap (λ (r : List Pending). p ∷ r) (sym f.first))
        (λ b. rw (f.lowest b) (lower_decides b p.ballot f.pending.ballot em)))

    with_late : late s t p ≡ true → Lateness s t l → Lateness s t (Some p ∷ l)
    unfolding late_of insert
    with_late o (nothing_late e n) =
        late_at 0 (rw (o, n.lowest p.ballot)) (omega arith)
        (lowest_here o (rw n.nothing) (λ b. rw (n.lowest b) (and-true (not (above b p.ballot)))))
    with_late o (late_at i e h f) = before_others i f e h o (above p.ballot f.pending.ballot) refl

    with_one : (o : Bool) → late s t p ≡ o → Lateness s t l → Lateness s t (Some p ∷ l)
    with_one true e v = with_late e v
    with_one false e v = behind_early e v

lateness : (s : Proposer) (t : ℕ) (l : List (Option Pending)) → Lateness s t l
unfolding late_of late_ones in_time none_below
lateness s t [] = nothing_late refl (record { nothing = refl; kept = refl; lowest = λ b. refl })
lateness s t (None ∷ l) = behind_free s t l (lateness s t l)
lateness s t (Some p ∷ l) = with_one s t l p (late s t p) refl (lateness s t l)

pub late_none : (s : Proposer) (t : ℕ) (l : List (Option Pending)) → late_of s t l ≡ length l → NoneLate s t l
late_none s t l e = elim (lateness s t l) [ nothing_late e' n ↦ n | late_at i e' h f ↦ absurd (omega arith) ]

pub late_some : (s : Proposer) (t : ℕ) (l : List (Option Pending)) (i : ℕ) → late_of s t l ≡ i → i < length l → LateAt s t l i
late_some s t l i e h = go (lateness s t l)
  where
    go : Lateness s t l → LateAt s t l i
    go (nothing_late e' n) = absurd (omega arith)
    go (late_at j e' h' f) =
        let same : j ≡ i = omega arith in
        rw same at f

length-insert : (p : Pending) (l : List Pending) → length (insert p l) ≡ suc (length l)
unfolding insert
length-insert p [] = refl
length-insert p (q ∷ l) = go (above p.ballot q.ballot) (length-insert p l)
  where
    go : (m : Bool) → length (insert p l) ≡ suc (length l) → length (cond m (q ∷ insert p l) (p ∷ q ∷ l)) ≡ suc (suc (length l))
    go true e = ap suc e
    go false e = refl

pub length_late : (s : Proposer) (t : ℕ) (l : List (Option Pending)) → length (late_ones s t l) ≤ length l
unfolding late_ones
length_late s t [] = omega arith
length_late s t (None ∷ l) = omega (arith, length_late s t l)
length_late s t (Some p ∷ l) = go (late s t p) (length_late s t l)
  where
    go : (o : Bool) → length (late_ones s t l) ≤ length l → length (cond o (insert p (late_ones s t l)) (late_ones s t l)) ≤ suc (length l)
    go true h = omega (arith, length-insert p (late_ones s t l))
    go false h = omega arith
