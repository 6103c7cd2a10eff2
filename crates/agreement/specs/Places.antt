-- The pending requests of a proposer: what is found at a ballot, and which stand in the places after one is replaced, dropped, added or late. Their ballots stay apart.
-- Assumes nothing.
use Rattle.std.specs.Prelude.{◌≡◌, refl, ◌⊎◌, Bool, true, false, cond, ◌||◌, List, [], ◌∷◌, ℕ, eqb}
use Rattle.std.proofs.Common.{sym, ◌∙◌, ap, inl, inr, arith, eqb-true}
use Rattle.std.proofs.lemmas.Bool.{false≢true, eqb-false}
use mathlib.Core.List.Memᴰ
use Rattle.std.specs.Prelude.{Option, None, Some}
use Rattle.messages.specs.declared.Ballot.{Ballot}
use Rattle.proposer_rules.specs.State.{Pending, Proposer, listed}
use Rattle.proposer_rules.specs.Rules.{is_ballot, pick_pending, pending_at, replace_at, take_place, drop_late, late, in_time}
use Rattle.agreement.specs.Members.{either, In}
use Rattle.agreement.specs.Order.{same_ballot}

pub none_not_some : {A : Type 0} {x : A} → None ≡ Some x → ⊥
none_not_some e = let z : ◌≡◌ {A = ℕ} 0 1 = cc in omega arith

pub some_same : {A : Type 0} {x y : A} → Some x ≡ Some y → x ≡ y
some_same e = cc

-- ---- addresses

pub listed_in : (a : ℕ) (l : List ℕ) → listed a l ≡ true → In a l
unfolding listed
listed_in a [] h = absurd (false≢true h)
listed_in a (x ∷ l) h = go (eqb x a) refl h (listed_in a l)
  where
    go : (b : Bool) → eqb x a ≡ b → b || listed a l ≡ true → (listed a l ≡ true → In a l) → In a (x ∷ l)
    go true e h later = Memᴰ.head (sym (eqb-true x a e))
    go false e h later = Memᴰ.tail (later h)

pub not_listed : (a : ℕ) (l : List ℕ) → listed a l ≡ false → In a l → ⊥
unfolding listed
not_listed a [] h m = Memᴰ.not-nil m
not_listed a (x ∷ l) h m = go (eqb x a) refl h (not_listed a l)
  where
    go : (b : Bool) → eqb x a ≡ b → b || listed a l ≡ false → (listed a l ≡ false → In a l → ⊥) → ⊥
    go true e h later = false≢true (sym h)
    go false e h later = either (Memᴰ.cases_cons m) (λ d. eqb-false x a e (sym d)) (later h)

-- ---- ballots

-- a request is at a ballot, or not
at_ballot : (b : Ballot) (p : Pending) → is_ballot b p ≡ true → p.ballot ≡ b
at_ballot b p h = same_ballot {x = p.ballot} {y = b} (eqb-true p.ballot.0 b.0 h)

not_at_ballot : (b : Ballot) (p : Pending) → is_ballot b p ≡ false → p.ballot ≡ b → ⊥
not_at_ballot b p h e = eqb-false p.ballot.0 b.0 h (ap (λ (c : Ballot). c.0) e)

-- no two pending requests have one ballot
pub data Apart : List (Option Pending) → Type 0 where
  empty : Apart []
  idle : {l : List (Option Pending)} → Apart l → Apart (None ∷ l)
  busy : {p : Pending} {l : List (Option Pending)} → ((q : Pending) → In (Some q) l → q.ballot ≡ p.ballot → ⊥) → Apart l → Apart (Some p ∷ l)

pub found_there : (b : Ballot) (l : List (Option Pending)) (p : Pending) → pending_at b l ≡ Some p → In (Some p) l × (p.ballot ≡ b)
unfolding pending_at
found_there b [] p e = absurd (none_not_some e)
found_there b (None ∷ l) p e =
    let r = found_there b l p e in
    (Memᴰ.tail r.0, r.1)
found_there b (Some q ∷ l) p e = go (is_ballot b q) refl e (found_there b l p)
  where
    go : (h : Bool) → is_ballot b q ≡ h → pick_pending h q (pending_at b l) ≡ Some p → (pending_at b l ≡ Some p → In (Some p) l × (p.ballot ≡ b)) → In (Some p) (Some q ∷ l) × (p.ballot ≡ b)
    go true eh e later =
        let same : q ≡ p = some_same e in
        (Memᴰ.head (sym e), ap (λ (x : Pending). x.ballot) (sym same) ∙ at_ballot b q eh)
    go false eh e later =
        let r = later e in
        (Memᴰ.tail r.0, r.1)

pub in_replaced : (b : Ballot) (o : Option Pending) (l : List (Option Pending)) → Apart l → (x : Pending) → In (Some x) (replace_at b o l) → (o ≡ Some x) ⊎ (In (Some x) l × (x.ballot ≡ b → ⊥))
unfolding replace_at
in_replaced b o [] empty x m = absurd (Memᴰ.not-nil m)
in_replaced b o (None ∷ l) (idle others) x m =
    either (Memᴰ.cases_cons m) (λ e. absurd (none_not_some (sym e))) (λ n.
    either (in_replaced b o l others x n) (λ e. inl e) (λ r. inr (Memᴰ.tail r.0, r.1)))
in_replaced b o (Some p ∷ l) (busy new others) x m = go (is_ballot b p) refl m (in_replaced b o l others x)
  where
    go : (h : Bool) → is_ballot b p ≡ h → In (Some x) (cond h (o ∷ l) (Some p ∷ replace_at b o l)) → (In (Some x) (replace_at b o l) → (o ≡ Some x) ⊎ (In (Some x) l × (x.ballot ≡ b → ⊥))) → (o ≡ Some x) ⊎ (In (Some x) (Some p ∷ l) × (x.ballot ≡ b → ⊥))
    go true eh m later =
        either (Memᴰ.cases_cons m) (λ e. inl (sym e)) (λ n.
        let here : p.ballot ≡ b = at_ballot b p eh in
        inr (Memᴰ.tail n, λ e. new x n (e ∙ sym here)))
    go false eh m later =
        either (Memᴰ.cases_cons m)
        (λ e. inr (Memᴰ.head e, λ d. not_at_ballot b p eh (ap (λ (q : Pending). q.ballot) (sym (some_same e)) ∙ d)))
        (λ n. either (later n) (λ e. inl e) (λ r. inr (Memᴰ.tail r.0, r.1)))

-- they stay apart, where the new one's ballot is no other one's
pub apart_replaced : (b : Ballot) (o : Option Pending) (l : List (Option Pending)) → Apart l → ((q : Pending) → o ≡ Some q → (x : Pending) → In (Some x) l → (x.ballot ≡ b → ⊥) → x.ballot ≡ q.ballot → ⊥) → Apart (replace_at b o l)
unfolding replace_at
apart_replaced b o [] empty h = empty
apart_replaced b o (None ∷ l) (idle others) h = idle (apart_replaced b o l others (λ q e x m. h q e x (Memᴰ.tail m)))
apart_replaced b o (Some p ∷ l) (busy new others) h = go (is_ballot b p) refl o h (apart_replaced b o l others (λ q e x m. h q e x (Memᴰ.tail m))) (in_replaced b o l others)
  where
    go : (i : Bool) → is_ballot b p ≡ i → (u : Option Pending) → ((q : Pending) → u ≡ Some q → (x : Pending) → In (Some x) (Some p ∷ l) → (x.ballot ≡ b → ⊥) → x.ballot ≡ q.ballot → ⊥) → Apart (replace_at b o l) → ((x : Pending) → In (Some x) (replace_at b o l) → (o ≡ Some x) ⊎ (In (Some x) l × (x.ballot ≡ b → ⊥))) → Apart (cond i (u ∷ l) (Some p ∷ replace_at b o l))
    go true ei None h rest there = idle others
    go true ei (Some q) h rest there =
        let here : p.ballot ≡ b = at_ballot b p ei in
        busy (λ x m. h q refl x (Memᴰ.tail m) (λ e. new x m (e ∙ sym here))) others
    go false ei u h' rest there =
        busy (λ x m e. either (there x m)
        (λ d. h x d p (Memᴰ.head refl) (not_at_ballot b p ei) (sym e))
        (λ r. new x r.0 e)) rest

pub in_taken : (q : Pending) (l : List (Option Pending)) (x : Pending) → In (Some x) (take_place q l) → (x ≡ q) ⊎ In (Some x) l
unfolding take_place
in_taken q [] x m = absurd (Memᴰ.not-nil m)
in_taken q (None ∷ l) x m = either (Memᴰ.cases_cons m) (λ e. inl (some_same e)) (λ n. inr (Memᴰ.tail n))
in_taken q (Some p ∷ l) x m =
    either (Memᴰ.cases_cons m) (λ e. inr (Memᴰ.head e)) (λ n.
    either (in_taken q l x n) (λ e. inl e) (λ k. inr (Memᴰ.tail k)))

pub apart_taken : (q : Pending) (l : List (Option Pending)) → Apart l → ((x : Pending) → In (Some x) l → x.ballot ≡ q.ballot → ⊥) → Apart (take_place q l)
unfolding take_place
apart_taken q [] empty h = empty
apart_taken q (None ∷ l) (idle others) h = busy (λ x m. h x (Memᴰ.tail m)) others
apart_taken q (Some p ∷ l) (busy new others) h =
    busy
    (λ x m e. either (in_taken q l x m) (λ d. h p (Memᴰ.head refl) (sym e ∙ ap (λ (y : Pending). y.ballot) d)) (λ n. new x n e))
    (apart_taken q l others (λ x m. h x (Memᴰ.tail m)))

kept_late : (s : Proposer) (t : ℕ) (o : Option Pending) (x : Pending) → drop_late s t o ≡ Some x → o ≡ Some x
kept_late s t None x e = e
kept_late s t (Some p) x e = go (late s t p) e
  where
    go : (h : Bool) → cond h None (Some p) ≡ Some x → Some p ≡ Some x
    go true e = absurd (none_not_some e)
    go false e = e

pub in_time_lem : (s : Proposer) (t : ℕ) (l : List (Option Pending)) (x : Pending) → In (Some x) (in_time s t l) → In (Some x) l
unfolding in_time
in_time_lem s t [] x m = absurd (Memᴰ.not-nil m)
in_time_lem s t (o ∷ l) x m =
    either (Memᴰ.cases_cons m) (λ e. Memᴰ.head (sym (kept_late s t o x (sym e)))) (λ n. Memᴰ.tail (in_time_lem s t l x n))

pub apart_in_time : (s : Proposer) (t : ℕ) (l : List (Option Pending)) → Apart l → Apart (in_time s t l)
unfolding in_time
apart_in_time s t [] empty = empty
apart_in_time s t (None ∷ l) (idle others) = idle (apart_in_time s t l others)
apart_in_time s t (Some p ∷ l) (busy new others) = go (late s t p) (apart_in_time s t l others)
  where
    go : (h : Bool) → Apart (in_time s t l) → Apart (cond h None (Some p) ∷ in_time s t l)
    go true rest = idle rest
    go false rest = busy (λ x m. new x (in_time_lem s t l x m)) rest
