-- Answerers that stand in the waited-for list and answered once are no more than its entries: there is room to note one more.
-- Assumes nothing.
use Rattle.std.specs.Prelude.{◌≡◌, refl, Bool, true, false, not, cond, ◌||◌, List, [], ◌∷◌, ◌++◌, ℕ, suc, ◌+◌, ◌≤◌, ◌<◌, eqb, length}
use Rattle.std.proofs.Common.{sym, ◌∙◌, arith, eq-eqb, ne_eqb, length-append}
use Rattle.std.proofs.lemmas.Bool.{false≢true, not-true}
use Rattle.std.proofs.Math.Decide.{ℕ_discrete}
use Rattle.leaf_fields.specs.Laws.{and_true}
use Rattle.messages.specs.Limits.{list_most}
use Rattle.proposer_rules.specs.State.{Pending, listed}
use Rattle.proposer_place.specs.Area.{distinct, all_listed, answers_fit}

-- neither of two tests holds
pub or_false : (t u : Bool) → (t || u) ≡ false → (t ≡ false) × (u ≡ false)
or_false true u e = absurd (false≢true (sym e))
or_false false u e = (refl, e)

-- one more answer in a count
pub more : (l : List ℕ) (x : ℕ) → length (l ++ (x ∷ [])) ≡ length l + 1
more l x = length-append l (x ∷ [])

-- ---- a list without one entry

unfoldable without : ℕ → List ℕ → List ℕ
without x [] = []
without x (y ∷ l) = cond (eqb y x) l (y ∷ without x l)

length-without : (x : ℕ) (l : List ℕ) → listed x l ≡ true → length l ≡ suc (length (without x l))
unfolding without listed
length-without x [] h = absurd (false≢true h)
length-without x (y ∷ l) h = go (eqb y x) h (λ e. length-without x l e)
  where
    go : (t : Bool) → (t || listed x l) ≡ true → (listed x l ≡ true → length l ≡ suc (length (without x l))) → length (y ∷ l) ≡ suc (length (cond t l (y ∷ without x l)))
    go true e rest = refl
    go false e rest = omega (arith, rest e)

-- another entry is still there
listed-without : (x z : ℕ) (l : List ℕ) → (x ≡ z → ⊥) → listed z l ≡ true → listed z (without x l) ≡ true
unfolding without listed
listed-without x z [] ne h = h
listed-without x z (y ∷ l) ne h = elim (ℕ_discrete y x) [
  | yes e ↦ rw (eq-eqb y x e) (rw (ne_eqb y z (λ d. ne (sym e ∙ d))) at h)
  | no n ↦ rw (ne_eqb y x n) (go (eqb y z) h (λ e. listed-without x z l ne e))
]
  where
    go : (t : Bool) → (t || listed z l) ≡ true → (listed z l ≡ true → listed z (without x l) ≡ true) → (t || listed z (without x l)) ≡ true
    go true e rest = refl
    go false e rest = rest e

-- where x is not among them, they all still stand in the list without x
all_without : (x : ℕ) (xs l : List ℕ) → listed x xs ≡ false → all_listed xs l ≡ true → all_listed xs (without x l) ≡ true
unfolding all_listed listed
all_without x [] l h all = refl
all_without x (y ∷ xs) l h all =
    let parts = and_true (listed y l) (all_listed xs l) all in
    let apart = or_false (eqb y x) (listed x xs) h in
    rw (listed-without x y l (λ e. absurd (false≢true (sym apart.0 ∙ eq-eqb y x (sym e)))) parts.0) (all_without x xs l apart.1 parts.1)

-- distinct entries of a list are no more than the list has
pub no_more : (xs l : List ℕ) → distinct xs ≡ true → all_listed xs l ≡ true → length xs ≤ length l
unfolding distinct all_listed
no_more [] l d all = omega arith
no_more (x ∷ xs) l d all =
    let ds = and_true (not (listed x xs)) (distinct xs) d in
    let parts = and_true (listed x l) (all_listed xs l) all in
    omega (arith, length-without x l parts.0, no_more xs (without x l) ds.1 (all_without x xs l (not-true _ ds.0) parts.1))

-- ---- room for one more answer

listed_append : (x : ℕ) (l m : List ℕ) → listed x l ≡ false → listed x m ≡ false → listed x (l ++ m) ≡ false
unfolding listed
listed_append x [] m hl hm = hm
listed_append x (y ∷ l) m hl hm = go (eqb y x) hl (λ e. listed_append x l m e hm)
  where
    go : (t : Bool) → (t || listed x l) ≡ false → (listed x l ≡ false → listed x (l ++ m) ≡ false) → (t || listed x (l ++ m)) ≡ false
    go true e rest = e
    go false e rest = rest e

pub room_for_one : (p : Pending) (from : ℕ) → answers_fit p ≡ true → length p.waiting_for ≤ list_most → listed from p.acks_from ≡ false → listed from p.nacks_from ≡ false → listed from p.waiting_for ≡ true → (length p.acks_from < list_most) × (length p.nacks_from < list_most)
unfolding answers_fit distinct all_listed
room_for_one p from fits short no_yes no_no waited =
    let parts = and_true (all_listed (p.acks_from ++ p.nacks_from) p.waiting_for) (distinct (p.acks_from ++ p.nacks_from)) fits in
    let fresh : listed from (p.acks_from ++ p.nacks_from) ≡ false = listed_append from p.acks_from p.nacks_from no_yes no_no in
    let count : length (from ∷ (p.acks_from ++ p.nacks_from)) ≤ length p.waiting_for =
    no_more (from ∷ (p.acks_from ++ p.nacks_from)) p.waiting_for (rw (fresh, parts.1)) (rw (waited, parts.0)) in
    (omega (arith, count, length-append p.acks_from p.nacks_from, short), omega (arith, count, length-append p.acks_from p.nacks_from, short))
