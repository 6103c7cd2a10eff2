-- Sets of addresses as lists with repeats: more than half of the different addresses of a list, and that two such majorities of one set meet. A majority by the proposer's rules is one.
-- Assumes nothing.
use Rattle.std.specs.Prelude.{◌≡◌, refl, ◌⊎◌, true, List, [], ◌∷◌, ◌++◌, ℕ, ◌*◌, ◌≤◌, ◌<◌, length}
use Rattle.std.proofs.Common.{sym, inl, inr, arith, leb-true, length-append}
use mathlib.Core.List.Memᴰ
use Rattle.std.proofs.Math.Decide.{ℕ_discrete}
use Rattle.proposer_rules.specs.Rules.{majority, reached}
use Rattle.agreement.specs.Members.{either, decide, In, Distinct, none_yet, one_more, distinct_length, distinct_append}

pub record SameSet (l m : List ℕ) : Type 0 where
  pub to : (a : ℕ) → In a l → In a m
  pub fro : (a : ℕ) → In a m → In a l

pub in? : (a : ℕ) (l : List ℕ) → Dec (In a l)
in? a [] = no (λ m. Memᴰ.not-nil m)
in? a (x ∷ l) =
    decide (ℕ_discrete a x) (λ e. yes (Memᴰ.head e)) (λ ne. decide (in? a l) (λ m. yes (Memᴰ.tail m)) (λ nm. no (λ m. either (Memᴰ.cases_cons m) ne nm)))

-- ---- the different addresses of a list

unfoldable pub unless_in : {X : Type 0} → Dec X → ℕ → List ℕ → List ℕ
unless_in (yes there) a l = l
unless_in (no absent) a l = a ∷ l

-- each address of a list once
unfoldable pub once_each : List ℕ → List ℕ
once_each [] = []
once_each (a ∷ l) = unless_in (in? a (once_each l)) a (once_each l)

once_distinct : (l : List ℕ) → Distinct (once_each l)
unfolding once_each unless_in
once_distinct [] = none_yet
once_distinct (a ∷ l) = go (in? a (once_each l)) (once_distinct l)
  where
    go : (d : Dec (In a (once_each l))) → Distinct (once_each l) → Distinct (unless_in d a (once_each l))
    go (yes there) rest = rest
    go (no absent) rest = one_more absent rest

once_in : (l : List ℕ) (b : ℕ) → In b (once_each l) → In b l
unfolding once_each unless_in
once_in [] b m = m
once_in (a ∷ l) b m = go (in? a (once_each l)) m (once_in l b)
  where
    go : (d : Dec (In a (once_each l))) → In b (unless_in d a (once_each l)) → (In b (once_each l) → In b l) → In b (a ∷ l)
    go (yes there) n rest = Memᴰ.tail (rest n)
    go (no absent) n rest = either (Memᴰ.cases_cons n) (λ e. Memᴰ.head e) (λ k. Memᴰ.tail (rest k))

in_once : (l : List ℕ) (b : ℕ) → In b l → In b (once_each l)
unfolding once_each unless_in
in_once [] b m = m
in_once (a ∷ l) b m = go (in? a (once_each l)) (in_once l b)
  where
    go : (d : Dec (In a (once_each l))) → (In b l → In b (once_each l)) → In b (unless_in d a (once_each l))
    go (yes there) rest = either (Memᴰ.cases_cons m) (λ e. Memᴰ.cast e there) rest
    go (no absent) rest = either (Memᴰ.cases_cons m) (λ e. Memᴰ.head e) (λ k. Memᴰ.tail (rest k))

-- ---- majorities

-- q names more than half of the different addresses of l, each once
pub record Majority (l q : List ℕ) : Type 0 where
  pub each_once : Distinct q
  pub inside : (a : ℕ) → In a q → In a l
  pub more_than_half : length (once_each l) < 2 * length q

pub record Common (x y : List ℕ) : Type 0 where
  pub who : ℕ
  pub left : In who x
  pub right : In who y

common? : (x y : List ℕ) → Common x y ⊎ ((a : ℕ) → In a x → In a y → ⊥)
common? [] y = inr (λ a m n. Memᴰ.not-nil m)
common? (x ∷ l) y =
    decide (in? x y)
    (λ m. inl (record { who = x; left = Memᴰ.head refl; right = m }))
    (λ nm. either (common? l y)
    (λ c. inl (record { who = c.who; left = Memᴰ.tail c.left; right = c.right }))
    (λ apart. inr (λ a m n. either (Memᴰ.cases_cons m) (λ e. nm (Memᴰ.cast (sym e) n)) (λ k. apart a k n))))

-- two majorities of lists with one set of addresses meet, whatever either list repeats
pub majorities_meet : {l m q r : List ℕ} → SameSet l m → Majority l q → Majority m r → Common q r
majorities_meet {l} {m} {q} {r} same mq mr =
    either (common? q r) (λ c. c) (λ apart.
    let d : Distinct (q ++ r) = distinct_append mq.each_once mr.each_once apart in
    let in-l : length (q ++ r) ≤ length (once_each l) = distinct_length d (λ a n. in_once l a (either (Memᴰ.append_cases q n) (mq.inside a) (λ k. same.fro a (mr.inside a k)))) in
    let in-m : length (q ++ r) ≤ length (once_each m) = distinct_length d (λ a n. in_once m a (either (Memᴰ.append_cases q n) (λ k. same.to a (mq.inside a k)) (mr.inside a))) in
    absurd (omega (arith, length-append q r, mq.more_than_half, mr.more_than_half)))

-- a majority has a member
pub record Member (q : List ℕ) : Type 0 where
  pub who : ℕ
  pub there : In who q

pub someone : {l q : List ℕ} → Majority l q → Member q
someone {l} {q} h = go q h.more_than_half
  where
    go : (r : List ℕ) → length (once_each l) < 2 * length r → Member r
    go [] less = absurd (omega arith)
    go (x ∷ r) less = record { who = x; there = Memᴰ.head refl }

-- a majority of one list of a set is one of each
pub same_majority : {l m q : List ℕ} → SameSet l m → Majority l q → Majority m q
same_majority {l} {m} {q} same h =
    let shorter : length (once_each m) ≤ length (once_each l) = distinct_length (once_distinct m) (λ a n. in_once l a (same.fro a (once_in m a n))) in
    record { each_once = h.each_once; inside = λ a n. same.to a (h.inside a n); more_than_half = omega (arith, h.more_than_half) }

-- "Majority of a list of n, repeats counted: n/2 rounded down, plus 1", of different answerers, is one
pub reached_majority : (l q : List ℕ) → Distinct q → ((a : ℕ) → In a q → In a l) → reached q l ≡ true → Majority l q
reached_majority l q d inside h =
    let enough : majority l ≤ length q = leb-true (majority l) (length q) h in
    let shorter : length (once_each l) ≤ length l = distinct_length (once_distinct l) (once_in l) in
    record { each_once = d; inside = inside; more_than_half = omega arith }
