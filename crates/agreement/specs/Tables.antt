-- The registers of an acceptor's table: all fresh in a fresh table; after a store its key has the stored register, and every other key the one it had. And the outcomes of a message, by whether it is refused, answered alone, or stored and answered.
-- Assumes nothing.
use Rattle.std.specs.Prelude.{◌≡◌, Bool, not, ◌&&◌, ◌||◌, List, [], ◌∷◌, ℕ, zero, suc, ◌+◌, ◌<◌, ltb, length, get_or, set}
use Rattle.std.proofs.Math.Path.{refl, sym, ap, subst}
use Rattle.std.proofs.Common.{◌∙◌, zero-add, add-zero, arith, get_or-set_same, get_or-set_other}
use Rattle.std.proofs.Math.Bool.{true, false, false≢true, cond}
use mathlib.Core.List.Memᴰ
use Rattle.std.specs.Prelude.{Option, None, Some}
use Rattle.std.proofs.Math.Nat.{sub-zero}
use Rattle.leaf_fields.specs.Fields.{same}
use Rattle.leaf_fields.specs.Laws.{same-true, same_refl}
use Rattle.messages.specs.declared.Address.{Address}
use Rattle.messages.specs.declared.answer.Refusal.{Refusal}
use Rattle.messages.specs.declared.Ballot.{Ballot}
use Rattle.messages.specs.Ballots.{above, not_below}
use Rattle.messages.specs.Message.{Key, Value, Failure, Verdict, Message}
use Rattle.messages.specs.Limits.{within_limits}
use Rattle.messages.specs.Refusals.{test, first_due}
use Rattle.messages.specs.Answers.{one, refused}
use Rattle.storage_block.specs.Block.{Slot, free, used, Register, register, fresh}
use Rattle.storage_search.specs.declared.Found.{Found}
use Rattle.storage_search.specs.Table.{none_bad, holds, is_free, count, first_from, found_by, where_is, is_twice, is_full, register_in, register_by}
use Rattle.storage_search.specs.Laws.{first_in_lem, count-none, where_at, where_free, held_at}
use Rattle.acceptor_rules.specs.Rules.{Job, proposal, acceptance, job_of, Outcome, keep, put, outcome, work_on, key_twice, foreign, no_block, put_at, perform, unless, receive}
use Rattle.acceptor.specs.Stores.{Takes, known, new}
use Rattle.acceptor.specs.Dependence.{register_for, none_not_some}
use Rattle.agreement.specs.Members.{In}

-- ---- a fresh table

none_held : (k : Key) (n : ℕ) (l : List Slot) → ((x : Slot) → In x l → x ≡ free) → first_from (holds k) n l ≡ None
unfolding first_from
none_held k n [] h = refl
none_held k n (x ∷ l) h =
    let here : x ≡ free = h x (Memᴰ.head refl) in
    rw here (none_held k (suc n) l (λ y m. h y (Memᴰ.tail m)))

pub fresh_register : (k : Key) (l : List Slot) → ((x : Slot) → In x l → x ≡ free) → register_for k l ≡ fresh k
unfolding where_is
fresh_register k l h = go (ltb 1 (count (holds k) l)) (first_from (holds k) 0 l) (first_from is_free 0 l) (none_held k 0 l h)
  where
    go : (c : Bool) (o f : Option ℕ) → o ≡ None → register_by k l (cond c Found.Twice (found_by o f)) ≡ fresh k
    go true o f e = refl
    go false None None e = refl
    go false None (Some i) e = refl
    go false (Some i) f e = let z : ◌≡◌ {A = ℕ} 0 1 = cc in absurd (omega arith)

-- ---- one slot set

-- what it makes no difference to is found and counted as before
first_kept : (p : Slot → Bool) (n : ℕ) (l : List Slot) (i : ℕ) (x : Slot) → p x ≡ p (get_or l i free) → first_from p n (set l i x) ≡ first_from p n l
unfolding first_from
first_kept p n [] i x e = refl
first_kept p n (s ∷ l) zero x e = rw e
first_kept p n (s ∷ l) (suc i) x e = ap (λ (o : Option ℕ). cond (p s) (Some n) o) (first_kept p (suc n) l i x e)

count_kept : (p : Slot → Bool) (l : List Slot) (i : ℕ) (x : Slot) → p x ≡ p (get_or l i free) → count p (set l i x) ≡ count p l
unfolding count
count_kept p [] i x e = refl
count_kept p (s ∷ l) zero x e = rw e
count_kept p (s ∷ l) (suc i) x e = ap (λ (c : ℕ). cond (p s) (suc c) c) (count_kept p l i x e)

-- the one slot of its kind is found, and counted once
new_found : (p : Slot → Bool) (n : ℕ) (l : List Slot) (i : ℕ) (x : Slot) → count p l ≡ 0 → p x ≡ true → i < length l → (first_from p n (set l i x) ≡ Some (n + i)) × (count p (set l i x) ≡ 1)
unfolding first_from count
new_found p n [] i x c e h = absurd (omega arith)
new_found p n (s ∷ l) zero x c e h = go (p s) refl
  where
    go : (b : Bool) → p s ≡ b → (cond (p x) (Some n) (first_from p (suc n) l) ≡ Some (n + 0)) × (cond (p x) (suc (count p l)) (count p l) ≡ 1)
    go true ps = let z : suc (count p l) ≡ 0 = rw ps at c in absurd (omega arith)
    go false ps =
        let rest : count p l ≡ 0 = rw ps at c in
        (rw (e, add-zero), rw (e, rest))
new_found p n (s ∷ l) (suc i) x c e h = go (p s) refl (λ rest. new_found p (suc n) l i x rest e (omega arith))
  where
    go : (b : Bool) → p s ≡ b → (count p l ≡ 0 → (first_from p (suc n) (set l i x) ≡ Some (suc n + i)) × (count p (set l i x) ≡ 1)) → (cond (p s) (Some n) (first_from p (suc n) (set l i x)) ≡ Some (n + suc i)) × (cond (p s) (suc (count p (set l i x))) (count p (set l i x)) ≡ 1)
    go true ps later = let z : suc (count p l) ≡ 0 = rw ps at c in absurd (omega arith)
    go false ps later =
        let r = later (rw ps at c) in
        let behind : suc n + i ≡ n + suc i = omega arith in
        (rw ps (r.0 ∙ ap (λ (k : ℕ). Some k) behind), rw ps r.1)

-- ---- after a store

not_same : (a b : List ℕ) → (a ≡ b → ⊥) → same a b ≡ false
not_same a b ne = go (same a b) refl
  where
    go : (h : Bool) → same a b ≡ h → h ≡ false
    go true e = absurd (ne (same-true a b e))
    go false e = refl

module _ (k : Key) (l : List Slot) (i : ℕ) where
  found_known : where_is k l ≡ Found.At i → (ltb 1 (count (holds k) l) ≡ false) × (first_from (holds k) 0 l ≡ Some i)
  unfolding where_is
  found_known e = go (ltb 1 (count (holds k) l)) (first_from (holds k) 0 l) (first_from is_free 0 l) e
    where
      go : (c : Bool) (o f : Option ℕ) → cond c Found.Twice (found_by o f) ≡ Found.At i → (c ≡ false) × (o ≡ Some i)
      go true o f e = (cc, cc)
      go false None None e = (refl, cc)
      go false None (Some j) e = (refl, cc)
      go false (Some j) f e = (refl, cc)

  found_new : where_is k l ≡ Found.Free i → count (holds k) l ≡ 0
  unfolding where_is
  found_new e = count-none (holds k) 0 l (go (ltb 1 (count (holds k) l)) (first_from (holds k) 0 l) (first_from is_free 0 l) e)
    where
      go : (c : Bool) (o f : Option ℕ) → cond c Found.Twice (found_by o f) ≡ Found.Free i → o ≡ None
      go true o f e = cc
      go false None f e = refl
      go false (Some j) f e = cc

  module _ (r : Register) (its-key : r.key ≡ k) (takes : Takes k l i) where
    has_key : holds k (used r) ≡ true
    has_key = rw its-key (same_refl k)

    inside : i < length l
    inside = go takes
      where
        go : Takes k l i → i < length l
        go (known e) = (where_at k l i e).0
        go (new e) = (where_free k l i e).0

    there : where_is k (set l i (used r)) ≡ Found.At i
    unfolding where_is
    there = go takes
      where
        at_place : (c : Bool) (o f : Option ℕ) → c ≡ false → o ≡ Some i → cond c Found.Twice (found_by o f) ≡ Found.At i
        at_place c o f ec eo = rw (ec, eo)

        go : Takes k l i → cond (ltb 1 (count (holds k) (set l i (used r)))) Found.Twice (found_by (first_from (holds k) 0 (set l i (used r))) (first_from is_free 0 (set l i (used r)))) ≡ Found.At i
        go (known e) =
            let held : holds k (used r) ≡ holds k (get_or l i free) = has_key ∙ sym (where_at k l i e).1 in
            let f = found_known e in
            at_place _ _ _ (ap (λ (c : ℕ). ltb 1 c) (count_kept (holds k) l i (used r) held) ∙ f.0) (first_kept (holds k) 0 l i (used r) held ∙ f.1)
        go (new e) =
            let f = new_found (holds k) 0 l i (used r) (found_new e) has_key inside in
            at_place _ _ _ (ap (λ (c : ℕ). ltb 1 c) f.1) (f.0 ∙ ap (λ (c : ℕ). Some c) (zero-add i))

    -- its key has the stored register
    pub register_stored : register_for k (set l i (used r)) ≡ r
    register_stored = ap (register_by k (set l i (used r))) there ∙ ap (register_in k) (get_or-set_same l i (used r) free inside)

    -- and another key the register that it had
    module _ (other : Key) (ne : other ≡ k → ⊥) where
      not_stored : holds other (used r) ≡ false
      not_stored = not_same r.key other (λ e. ne (sym e ∙ its-key))

      not_there : holds other (get_or l i free) ≡ false
      not_there = go takes
        where
          go : Takes k l i → holds other (get_or l i free) ≡ false
          go (known e) =
              let h = held_at k (get_or l i free) (where_at k l i e).1 in
              rw h.is_used (not_same h.register.key other (λ d. ne (sym d ∙ h.has_key)))
          go (new e) = ap (holds other) (where_free k l i e).1

      pub register_kept : register_for other (set l i (used r)) ≡ register_for other l
      unfolding where_is
      register_kept =
          let held = not_stored ∙ sym not_there in
          rw (count_kept (holds other) l i (used r) held, first_kept (holds other) 0 l i (used r) held)
          (go (ltb 1 (count (holds other) l)) (first_from (holds other) 0 l) (first_from is_free 0 (set l i (used r))) (first_from is_free 0 l) refl)
        where
          elsewhere : (j : ℕ) → first_from (holds other) 0 l ≡ Some j → j ≡ i → ⊥
          elsewhere j e same_place =
              let h = (first_in_lem (holds other) 0 l j e).2 in
              false≢true (sym not_there ∙ ap (λ (n : ℕ). holds other (get_or l n free)) (sym same_place) ∙ rw (sub-zero j) at h)

          go : (c : Bool) (o f g : Option ℕ) → first_from (holds other) 0 l ≡ o → register_by other (set l i (used r)) (cond c Found.Twice (found_by o f)) ≡ register_by other l (cond c Found.Twice (found_by o g))
          go true o f g e = refl
          go false None None None e = refl
          go false None None (Some y) e = refl
          go false None (Some x) None e = refl
          go false None (Some x) (Some y) e = refl
          go false (Some j) f g e = ap (register_in other) (get_or-set_other l i j (used r) free (elsewhere j e))

-- ---- the outcomes of a message

data AcceptorDoes (l : List Slot) (from : Address) (m : Message) : Outcome → Type 0 where
  refuses : (r : Refusal) → AcceptorDoes l from m (outcome keep (refused r))
  answers : (j : Job) → job_of m ≡ Some j → (work_on l j).stores ≡ false → AcceptorDoes l from m (outcome keep (one from (work_on l j).answer))
  stores : (j : Job) (i : ℕ) → job_of m ≡ Some j → Takes j.key l i → (work_on l j).stores ≡ true → AcceptorDoes l from m (outcome (put i (work_on l j).next) (one from (work_on l j).answer))

module _ (l : List Slot) (from : Address) (m : Message) where
  by_place : (j : Job) → job_of m ≡ Some j → (f : Found) (s : Bool) → where_is j.key l ≡ f → (work_on l j).stores ≡ s → AcceptorDoes l from m (unless (first_due (test (is_twice f) Refusal.Damaged ∷ test (is_full f && s) Refusal.NoRoom ∷ [])) (outcome (cond s (put_at f (work_on l j).next) keep) (one from (work_on l j).answer)))
  by_place j jm (Found.At i) true ef es = stores j i jm (known ef) es
  by_place j jm (Found.Free i) true ef es = stores j i jm (new ef) es
  by_place j jm Found.Full true ef es = refuses Refusal.NoRoom
  by_place j jm Found.Twice s ef es = refuses Refusal.Damaged
  by_place j jm (Found.At i) false ef es = answers j jm es
  by_place j jm (Found.Free i) false ef es = answers j jm es
  by_place j jm Found.Full false ef es = answers j jm es

  by_tests : (b : Bool) (o : Option Job) (f : Bool) → job_of m ≡ o → AcceptorDoes l from m (unless (first_due (test (not b || key_twice l o) Refusal.Damaged ∷ test (foreign o) Refusal.WrongKind ∷ test (not f) Refusal.OverLimit ∷ test (no_block l o) Refusal.NoRoom ∷ [])) (perform l from o))
  by_tests false o f eo = refuses Refusal.Damaged
  by_tests true None f eo = refuses Refusal.WrongKind
  by_tests true (Some j) false eo = over (is_twice (where_is j.key l))
    where
      over : (d : Bool) → AcceptorDoes l from m (unless (first_due (test d Refusal.Damaged ∷ test true Refusal.OverLimit ∷ test (no_block l (Some j)) Refusal.NoRoom ∷ [])) (perform l from (Some j)))
      over true = refuses Refusal.Damaged
      over false = refuses Refusal.OverLimit
  by_tests true (Some j) true eo = by_place j eo (where_is j.key l) (work_on l j).stores refl refl

  acceptor_does_lem : AcceptorDoes l from m (receive l from m)
  unfolding receive
  acceptor_does_lem = by_tests (none_bad l) (job_of m) (within_limits from m) refl

-- ---- a proposal and an accept

module _ (l : List Slot) (from : Address) (b : Ballot) (k : Key) where
  abbrev pub here : Register
  here = register_for k l

  pub data ProposalDoes : Outcome → Type 0 where
    refuses_proposal : (r : Refusal) → ProposalDoes (outcome keep (refused r))
    rejects_proposal : ProposalDoes (outcome keep (one from (Message.ProposeRes b here.accepted here.value (Verdict.Denied (Failure.ProposalRejected here.seen)))))
    promises : (i : ℕ) → Takes k l i → above b here.seen ≡ true → ProposalDoes (outcome (put i (register here.key b here.accepted here.value)) (one from (Message.ProposeRes b here.accepted here.value Verdict.Granted)))

  abbrev proposal_answer : Bool → Message
  proposal_answer h = Message.ProposeRes b here.accepted here.value (cond h Verdict.Granted (Verdict.Denied (Failure.ProposalRejected here.seen)))

  rejected_by_lem : (h : Bool) → h ≡ false → ProposalDoes (outcome keep (one from (proposal_answer h)))
  rejected_by_lem true e = absurd (false≢true (sym e))
  rejected_by_lem false e = rejects_proposal

  promised_by_lem : (h : Bool) → above b here.seen ≡ h → h ≡ true → (i : ℕ) → Takes k l i → ProposalDoes (outcome (put i (register here.key b here.accepted here.value)) (one from (proposal_answer h)))
  promised_by_lem true eh e i takes = promises i takes eh
  promised_by_lem false eh e i takes = absurd (false≢true e)

  its_proposal : (j : Job) → job_of (Message.ProposeReq b k) ≡ Some j → proposal b k ≡ j
  its_proposal j e = cc

  proposal_cases : (o : Outcome) → AcceptorDoes l from (Message.ProposeReq b k) o → ProposalDoes o
  unfolding work_on
  proposal_cases o (refuses r) = refuses_proposal r
  proposal_cases o (answers j e no_store) = subst (λ (x : Job). (work_on l x).stores ≡ false → ProposalDoes (outcome keep (one from (work_on l x).answer))) (its_proposal j e) (λ h. rejected_by_lem (above b here.seen) h) no_store
  proposal_cases o (stores j i e takes does) = subst (λ (x : Job). Takes x.key l i → (work_on l x).stores ≡ true → ProposalDoes (outcome (put i (work_on l x).next) (one from (work_on l x).answer))) (its_proposal j e) (λ t h. promised_by_lem (above b here.seen) refl h i t) takes does

  pub proposal_does : ProposalDoes (receive l from (Message.ProposeReq b k))
  proposal_does = proposal_cases (receive l from (Message.ProposeReq b k)) (acceptor_does_lem l from (Message.ProposeReq b k))

  module _ (v : Option Value) where
    pub data AcceptDoes : Outcome → Type 0 where
      refuses_accept : (r : Refusal) → AcceptDoes (outcome keep (refused r))
      rejects_accept : AcceptDoes (outcome keep (one from (Message.AcceptRes b (Verdict.Denied (Failure.AcceptRejected here.seen)))))
      accepts : (i : ℕ) → Takes k l i → not_below b here.seen ≡ true → AcceptDoes (outcome (put i (register here.key b b v)) (one from (Message.AcceptRes b Verdict.Granted)))

    abbrev accept_answer : Bool → Message
    accept_answer h = Message.AcceptRes b (cond h Verdict.Granted (Verdict.Denied (Failure.AcceptRejected here.seen)))

    turned_down_by : (h : Bool) → h ≡ false → AcceptDoes (outcome keep (one from (accept_answer h)))
    turned_down_by true e = absurd (false≢true (sym e))
    turned_down_by false e = rejects_accept

    accepted_by : (h : Bool) → not_below b here.seen ≡ h → h ≡ true → (i : ℕ) → Takes k l i → AcceptDoes (outcome (put i (register here.key b b v)) (one from (accept_answer h)))
    accepted_by true eh e i takes = accepts i takes eh
    accepted_by false eh e i takes = absurd (false≢true e)

    its_acceptance : (j : Job) → job_of (Message.AcceptReq b k v) ≡ Some j → acceptance b k v ≡ j
    its_acceptance j e = cc

    accept_cases : (o : Outcome) → AcceptorDoes l from (Message.AcceptReq b k v) o → AcceptDoes o
    unfolding work_on
    accept_cases o (refuses r) = refuses_accept r
    accept_cases o (answers j e no_store) = subst (λ (x : Job). (work_on l x).stores ≡ false → AcceptDoes (outcome keep (one from (work_on l x).answer))) (its_acceptance j e) (λ h. turned_down_by (not_below b here.seen) h) no_store
    accept_cases o (stores j i e takes does) = subst (λ (x : Job). Takes x.key l i → (work_on l x).stores ≡ true → AcceptDoes (outcome (put i (work_on l x).next) (one from (work_on l x).answer))) (its_acceptance j e) (λ t h. accepted_by (not_below b here.seen) refl h i t) takes does

    pub accept_does : AcceptDoes (receive l from (Message.AcceptReq b k v))
    accept_does = accept_cases (receive l from (Message.AcceptReq b k v)) (acceptor_does_lem l from (Message.AcceptReq b k v))

-- any other message is refused
pub record Refuses (o : Outcome) : Type 0 where
  pub refusal : Refusal
  pub is : o ≡ outcome keep (refused refusal)

pub others_refused : (l : List Slot) (from : Address) (m : Message) → job_of m ≡ None → Refuses (receive l from m)
others_refused l from m foreign-kind = go (receive l from m) (acceptor_does_lem l from m)
  where
    go : (o : Outcome) → AcceptorDoes l from m o → Refuses o
    go o (refuses r) = record { refusal = r; is = refl }
    go o (answers j e no_store) = absurd (none_not_some j (sym foreign-kind ∙ e))
    go o (stores j i e takes does) = absurd (none_not_some j (sym foreign-kind ∙ e))
