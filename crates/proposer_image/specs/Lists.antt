-- Two lists in a row: which addresses are listed, whether each is listed elsewhere, and whether none stands twice.
-- Assumes nothing.
use Rattle.std.specs.Prelude.{◌≡◌, refl, Bool, true, false, not, ◌&&◌, ◌||◌, List, [], ◌∷◌, ◌++◌, ℕ, eqb}
use Rattle.std.proofs.Common.{sym, ap, ◌∙◌}
use Rattle.std.proofs.Math.Bool.{and-true, and_assoc, or_assoc}
use Rattle.messages.specs.Limits.{none_zero}
use Rattle.proposer_rules.specs.State.{listed}
use Rattle.proposer_place.specs.Area.{distinct, all_listed}
use Rattle.proposer_image.specs.Good.{each_listed}

-- the head of a list goes behind a test of the rest
and_swap : (x y z : Bool) → (x && (y && z)) ≡ (y && (x && z))
and_swap true y z = refl
and_swap false true z = refl
and_swap false false z = refl

listed_append : (a : ℕ) (l m : List ℕ) → listed a (l ++ m) ≡ (listed a l || listed a m)
unfolding listed
listed_append a [] m = refl
listed_append a (x ∷ l) m = ap (λ (r : Bool). eqb x a || r) (listed_append a l m) ∙ sym (or_assoc (eqb x a) (listed a l) (listed a m))

-- the code's one test of two lists, where each is to be listed
pub each_listed_lem : (l m : List ℕ) → all_listed l m ≡ each_listed true l m
unfolding all_listed each_listed
each_listed_lem [] m = refl
each_listed_lem (x ∷ l) m = ap (λ (r : Bool). listed x m && r) (each_listed_lem l m)

pub all_listed_append : (l m k : List ℕ) → all_listed (l ++ m) k ≡ (all_listed l k && all_listed m k)
unfolding all_listed
all_listed_append [] m k = refl
all_listed_append (x ∷ l) m k = ap (λ (r : Bool). listed x k && r) (all_listed_append l m k) ∙ sym (and_assoc (listed x k) (all_listed l k) (all_listed m k))

pub distinct_append : (l m : List ℕ) → distinct (l ++ m) ≡ (distinct l && distinct m && each_listed false l m)
unfolding distinct each_listed
distinct_append [] m = sym (and-true (distinct m))
distinct_append (x ∷ l) m =
    ap (λ (r : Bool). not r && distinct (l ++ m)) (listed_append x l m)
    ∙ ap (λ (r : Bool). not (listed x l || listed x m) && r) (distinct_append l m)
    ∙ go (listed x l) (listed x m) (distinct l)
  where
    go : (u v w : Bool) → (not (u || v) && (w && distinct m && each_listed false l m)) ≡ ((not u && w) && distinct m && (not v && each_listed false l m))
    go true v w = refl
    go false v w = and_swap (not v) (w && distinct m) (each_listed false l m)

-- no entry is address 0 where 0 is not listed
pub none_zero_lem : (l : List ℕ) → none_zero l ≡ not (listed 0 l)
unfolding none_zero listed
none_zero_lem [] = refl
none_zero_lem (x ∷ l) = ap (λ (r : Bool). not (eqb x 0) && r) (none_zero_lem l) ∙ go (eqb x 0)
  where
    go : (u : Bool) → (not u && not (listed 0 l)) ≡ not (u || listed 0 l)
    go true = refl
    go false = refl
