-- The laws of the places: what stands where a search ends, and what a rule makes of the places there.
-- Assumes nothing.
use Rattle.std.specs.Prelude.{◌≡◌, refl, Bool, true, false, cond, ℕ, zero, suc, ◌<◌, eqb, length, get_or, set}
use Rattle.std.proofs.Common.{ap, arith, eqb-true, eq-eqb}
use mathlib.Core.List.{List, [], ◌∷◌}
use Rattle.std.specs.Prelude.{Option, None, Some}
use Rattle.messages.specs.declared.Ballot.{Ballot}
use Rattle.proposer_rules.specs.State.{Pending}
use Rattle.proposer_rules.specs.Rules.{is_ballot, pick_pending, pending_at, replace_at, no_place, take_place}
use Rattle.proposer_area.specs.Places.{place_of, free_of}

-- ---- the request at a ballot

-- place i holds it
pub record FoundAt (b : Ballot) (l : List (Option Pending)) (i : ℕ) : Type 0 where
  pub pending : Pending
  pub there : get_or l i None ≡ Some pending
  pub has_ballot : is_ballot b pending ≡ true
  pub only : pending_at b l ≡ Some pending
  pub replaced : (q : Option Pending) → replace_at pending.ballot q l ≡ set l i q

-- two ballots that are one are equal to no third, or both are
same_ballot : (b c : Ballot) (p : Pending) → eqb c.0 b.0 ≡ true → is_ballot c p ≡ is_ballot b p
same_ballot b c p e = rw (eqb-true c.0 b.0 e)

module _ (b : Ballot) (p : Pending) (l : List (Option Pending)) where
  found_first : is_ballot b p ≡ true → FoundAt b (Some p ∷ l) 0
  unfolding pending_at replace_at
  found_first h = record { pending = p; there = refl; has_ballot = h; only = rw h; replaced = λ q. rw (eq-eqb p.ballot.0 p.ballot.0 refl) }

  found_behind : (i : ℕ) → is_ballot b p ≡ false → FoundAt b l i → FoundAt b (Some p ∷ l) (suc i)
  unfolding pending_at replace_at
  found_behind i h f = record {
    pending = f.pending;
    there = f.there;
    has_ballot = f.has_ballot;
    only = rw h f.only;
    replaced = λ q. rw (same_ballot b f.pending.ballot p f.has_ballot, h) (ap (λ (r : List (Option Pending)). Some p ∷ r) (f.replaced q));
  }

found_behind_free : (b : Ballot) (l : List (Option Pending)) (i : ℕ) → FoundAt b l i → FoundAt b (None ∷ l) (suc i)
unfolding pending_at replace_at
found_behind_free b l i f = record {
  pending = f.pending;
  there = f.there;
  has_ballot = f.has_ballot;
  only = f.only;
  replaced = λ q. ap (λ (r : List (Option Pending)). None ∷ r) (f.replaced q);
}

pub find_some : (b : Ballot) (l : List (Option Pending)) (i : ℕ) → place_of b l ≡ i → i < length l → FoundAt b l i
unfolding place_of
find_some b [] i e h = absurd (omega arith)
find_some b (None ∷ l) zero e h = absurd (omega arith)
find_some b (None ∷ l) (suc i) e h = found_behind_free b l i (find_some b l i (omega arith) (omega arith))
find_some b (Some p ∷ l) i e h = go (is_ballot b p) refl i e h (find_some b l)
  where
    go : (t : Bool) → is_ballot b p ≡ t → (j : ℕ) → cond t 0 (suc (place_of b l)) ≡ j → j < suc (length l) → ((k : ℕ) → place_of b l ≡ k → k < length l → FoundAt b l k) → FoundAt b (Some p ∷ l) j
    go true et zero e' h' later = found_first b p l et
    go true et (suc j) e' h' later = absurd (omega arith)
    go false et zero e' h' later = absurd (omega arith)
    go false et (suc j) e' h' later = found_behind b p l j et (later j (omega arith) (omega arith))

pub find_none : (b : Ballot) (l : List (Option Pending)) → place_of b l ≡ length l → pending_at b l ≡ None
unfolding place_of pending_at
find_none b [] e = refl
find_none b (None ∷ l) e = find_none b l (omega arith)
find_none b (Some p ∷ l) e = go (is_ballot b p) e (find_none b l)
  where
    go : (t : Bool) → cond t 0 (suc (place_of b l)) ≡ suc (length l) → (place_of b l ≡ length l → pending_at b l ≡ None) → pick_pending t p (pending_at b l) ≡ None
    go true e' later = absurd (omega arith)
    go false e' later = later (omega arith)

-- ---- the lowest free place

pub record FreeAt (l : List (Option Pending)) (i : ℕ) : Type 0 where
  pub there : get_or l i None ≡ None
  pub room : no_place l ≡ false
  pub taken : (p : Pending) → take_place p l ≡ set l i (Some p)

pub free_some : (l : List (Option Pending)) (i : ℕ) → free_of l ≡ i → i < length l → FreeAt l i
unfolding free_of no_place take_place
free_some [] i e h = absurd (omega arith)
free_some (None ∷ l) zero e h = record { there = refl; room = refl; taken = λ p. refl }
free_some (None ∷ l) (suc i) e h = absurd (omega arith)
free_some (Some q ∷ l) zero e h = absurd (omega arith)
free_some (Some q ∷ l) (suc i) e h =
    let f = free_some l i (omega arith) (omega arith) in
    record { there = f.there; room = f.room; taken = λ p. ap (λ (r : List (Option Pending)). Some q ∷ r) (f.taken p) }

pub free_none : (l : List (Option Pending)) → free_of l ≡ length l → no_place l ≡ true
unfolding free_of no_place
free_none [] e = refl
free_none (None ∷ l) e = absurd (omega arith)
free_none (Some q ∷ l) e = free_none l (omega arith)
