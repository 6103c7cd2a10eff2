-- What holds of every member of a list, of some member, of any two members; and lists without repeats.
-- Assumes nothing.
use Rattle.std.specs.Prelude.{◌≡◌, refl, ◌⊎◌, suc, ◌≤◌, length}
use Rattle.std.proofs.Common.{sym, ◌∙◌, ap, subst, inl, inr, arith}
use mathlib.Core.List.Memᴰ
use mathlib.Core.List.{List, [], ◌∷◌, ◌++◌, Memᴰ}

unfoldable pub either : {A B C : Type 0} → A ⊎ B → (A → C) → (B → C) → C
either (inl a) f g = f a
either (inr b) f g = g b

unfoldable pub decide : {A C : Type 0} → Dec A → (A → C) → ((A → ⊥) → C) → C
decide (yes a) f g = f a
decide (no n) f g = g n

abbrev pub In : {A : Type 0} → A → List A → Type 0
In a l = Memᴰ a l

-- ---- every member, some member, any two members

pub record SomeOf {A : Type 0} (l : List A) (P : A → Type 0) : Type 0 where
  pub it : A
  pub at : In it l
  pub is : P it

pub all_cons : {A : Type 0} {P : A → Type 0} {x : A} {l : List A} → P x → ((a : A) → In a l → P a) → (a : A) → In a (x ∷ l) → P a
all_cons {P = P} px rest a m = either (Memᴰ.cases_cons m) (λ e. subst P (sym e) px) (rest a)

pub some_cons : {A : Type 0} {P : A → Type 0} {x : A} {l : List A} → SomeOf l P → SomeOf (x ∷ l) P
some_cons s = record { it = s.it; at = Memᴰ.tail s.at; is = s.is }

pub some_head : {A : Type 0} {P : A → Type 0} {x : A} {l : List A} → P x → SomeOf (x ∷ l) P
some_head {x = x} p = record { it = x; at = Memᴰ.head refl; is = p }

pub some_in : {A : Type 0} {P : A → Type 0} {l m : List A} → ((a : A) → In a l → In a m) → SomeOf l P → SomeOf m P
some_in sub s = record { it = s.it; at = sub s.it s.at; is = s.is }

pub pair_cons : {A : Type 0} {P : A → A → Type 0} {x : A} {l : List A} → P x x → ((a : A) → In a l → P x a) → ((a : A) → In a l → P a x) → ((a b : A) → In a l → In b l → P a b) → (a b : A) → In a (x ∷ l) → In b (x ∷ l) → P a b
pair_cons {A} {P} {x} {l} both left right old a b m n =
    let row : (c : A) → In c (x ∷ l) → P x c = all_cons both left in
    let low : (c : A) → In c l → P c b = λ c k. all_cons {P = P c} (right c k) (λ d j. old c d k j) b n in
    all_cons {P = λ c. P c b} (row b n) low a m

-- ---- lists without repeats

pub data Distinct {A : Type 0} : List A → Type 0 where
  none_yet : Distinct []
  one_more : {x : A} {xs : List A} → (In x xs → ⊥) → Distinct xs → Distinct (x ∷ xs)

-- the list without the entry that a membership points at
without : {A : Type 0} {a : A} {l : List A} → In a l → List A
without (Memᴰ.head {xs = xs} e) = xs
without (Memᴰ.tail {x = x} m) = x ∷ without m

length-without : {A : Type 0} {a : A} {l : List A} (m : In a l) → suc (length (without m)) ≡ length l
unfolding without
length-without (Memᴰ.head e) = refl
length-without (Memᴰ.tail m) = ap suc (length-without m)

in_without : {A : Type 0} {a b : A} {l : List A} (m : In a l) → In b l → (b ≡ a → ⊥) → In b (without m)
unfolding without
in_without (Memᴰ.head e) n ne = either (Memᴰ.cases_cons n) (λ e'. absurd (ne (e' ∙ sym e))) (λ n'. n')
in_without (Memᴰ.tail m) n ne =
    either (Memᴰ.cases_cons n) (λ e'. Memᴰ.head e') (λ n'. Memᴰ.tail (in_without m n' ne))

-- a list without repeats inside another is no longer than it; the other may repeat
pub distinct_length : {A : Type 0} {x y : List A} → Distinct x → ((a : A) → In a x → In a y) → length x ≤ length y
distinct_length none_yet sub = omega arith
distinct_length {y = y} (one_more {x = x} {xs = xs} new d) sub =
    let m : In x y = sub x (Memᴰ.head refl) in
    let rest : length xs ≤ length (without m) = distinct_length d (λ a n. in_without m (sub a (Memᴰ.tail n)) (λ e. new (Memᴰ.cast (sym e) n))) in
    omega (arith, length-without m)

pub distinct_append : {A : Type 0} {x y : List A} → Distinct x → Distinct y → ((a : A) → In a x → In a y → ⊥) → Distinct (x ++ y)
distinct_append none_yet dy apart = dy
distinct_append {y = y} (one_more {x = x} {xs = xs} new dx) dy apart =
    one_more (λ m. either (Memᴰ.append_cases xs m) new (λ n. apart x (Memᴰ.head refl) n)) (distinct_append dx dy (λ a m n. apart a (Memᴰ.tail m) n))

pub all_append : {A : Type 0} {P : A → Type 0} (x : List A) {y : List A} → ((a : A) → In a x → P a) → ((a : A) → In a y → P a) → (a : A) → In a (x ++ y) → P a
all_append x left right a m = either (Memᴰ.append_cases x m) (left a) (right a)
