-- What `min_by_key` gives: the first item with the least key, where a key is what n says of what v reads of the item.
-- Assumes nothing.
use Rattle.std.proofs.Common.{◌≡◌, refl, sym, ap, subst, ◌∙◌, List, [], ◌∷◌, ℕ, Option, None, Some, MatchOption, Bor}
use Rattle.std.proofs.lemmas.Iterator.{YieldsList}
use Rattle.std.proofs.lemmas.Iterator.Consumers.{reduce_by_from_yields_List}
use Rattle.std.specs.Fn.{CalledAt}
use Rattle.std.specs.Iterator.{Drains, KeyTurn, PicksMinByKey}
use Rattle.std.specs.List.{FoldsTo, reduce}
use Rattle.std.specs.Option.{option_map}
use Rattle.std.specs.Ordering.{nat_cmp, min_by_ordering}
use Rattle.std.specs.declared.cmp.Ordering.{Ordering}
use Rattle.std.specs.declared.cmp.Ordering.TheVariants.{Less, Equal, Greater}
use Rattle.proposer_clock.specs.Lesser.{lesser}
use denote.Param.Members.{Mut}

-- a choice reads as the choice of what is read
picked : {A B : Type 0} (v : A → B) (o : Ordering) (p z : A) → v (min_by_ordering o p z) ≡ min_by_ordering o (v p) (v z)
picked v Less p z = refl
picked v Equal p z = refl
picked v Greater p z = refl

-- keys of a type K, whose order is that of the numbers that they stand for
module _ {A B F K : Type 0} (order : K → K → Ordering) (number : K → ℕ) (orders : (k l : K) → order k l ≡ nat_cmp (number k) (number l)) (v : A → B) (n : B → K) (g : Mut F (Bor A × Unit {0}) K) (f : F) (keys : (x : A) (k : K) (q : F) → CalledAt g f x k q → (q ≡ f) × (k ≡ n (v x))) where
  abbrev m : B → ℕ
  m b = number (n b)

  turns : (xs : List A) (p : (F × K) × A) (q : F × K) (y : A) → p.0.0 ≡ f → p.0.1 ≡ n (v p.1) → FoldsTo {P = (F × K) × A} (KeyTurn min_by_ordering min_by_ordering g order) p xs (q, y) → FoldsTo (λ a z c. c ≡ lesser (λ w. m (v w)) a z) p.1 xs y
  turns [] p q y e k h = ap (λ w. w.1) h
  turns (z ∷ zs) p q y e k h =
      let j = h.0 in
      let t = h.1 in
      let called = keys z t.0 j.0.0 (subst (λ w. CalledAt g w z t.0 j.0.0) e t.2) in
      let first : nat_cmp (m (v p.1)) (m (v z)) ≡ t.1 = sym (orders (n (v p.1)) (n (v z))) ∙ ap (λ a. order a (n (v z))) (sym k) ∙ ap (order p.0.1) (sym called.1) ∙ t.3 in
      let best : j.1 ≡ lesser (λ w. m (v w)) p.1 z = t.5 ∙ ap (λ o. min_by_ordering o p.1 z) (sym first) in
      let key : j.0.1 ≡ n (v j.1) = t.4 ∙ ap (λ a. min_by_ordering t.1 a t.0) k ∙ ap (min_by_ordering t.1 (n (v p.1))) called.1 ∙ sym (picked (λ w. n (v w)) t.1 p.1 z) ∙ ap (λ w. n (v w)) (sym t.5) in
      (j.1, best, turns zs j q y called.0 key h.2)

  folded : {S : Type 0} (steps : S → Option A → S → Type 0) (s : S) (r : Option A) → PicksMinByKey steps g order s f r → MatchOption r (Drains steps s []) (λ y. (x : A) × (xs : List A) × Drains steps s (x ∷ xs) × FoldsTo (λ a z c. c ≡ lesser (λ w. m (v w)) a z) x xs y)
  folded steps s None h = h
  folded steps s (Some y) h =
      let called = keys h.0 h.2 h.3 h.6 in
      (h.0, h.1, h.5, turns h.1 ((h.3, h.2), h.0) h.4 y called.0 called.1 h.7)

  pub least_from : {S : Type 0} {steps : S → Option A → S → Type 0} {all : List B} (s : S) (r : Option A) → PicksMinByKey steps g order s f r → YieldsList steps v s all → option_map v r ≡ reduce (lesser m) all
  least_from {steps = steps} s r h road =
      reduce_by_from_yields_List (lesser (λ w. m (v w))) (lesser m) s r (λ p z. picked v (nat_cmp (m (v p)) (m (v z))) p z) (folded steps s r h) road
