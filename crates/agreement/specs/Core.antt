-- The agreement without messages: registers, grants, choices and acceptances, the three moves, and the invariant that they keep. It stands over any strict total order of ballots and any notion of a majority.
-- Assumes nothing.
use Rattle.std.specs.Prelude.{◌≡◌, refl, ◌⊎◌, List, [], ◌∷◌, ℕ}
use Rattle.std.proofs.Common.{sym, ◌∙◌, subst, inl, inr}
use mathlib.Core.List.Memᴰ
use Rattle.std.specs.Prelude.{Option, None}
use Rattle.messages.specs.Message.{Key, Value, Request}
use Rattle.proposer_rules.specs.State.{key_of}
use Rattle.proposer_rules.specs.Rules.{applied}
use Rattle.agreement.specs.Members.{either, In, SomeOf, all_cons, some_cons, some_head, pair_cons}
use Rattle.agreement.specs.Order.{Order, NotAbove, itself, below_not_above, then_below, not_above_trans}

-- the value that a request makes of one
abbrev pub made : Request → Option Value → Option Value
made r v = (applied r v).value

module _ (O : Order) where
  open O use {Ballot, Below, zero}

  -- what an acceptor holds for a key
  pub record Held : Type 0 where
    pub seen : Ballot
    pub accepted : Ballot
    pub value : Option Value

  -- acceptor `who` promised ballot `ballot` of a key to proposer `to`, and had accepted this
  pub record Grant : Type 0 where
    pub who : ℕ
    pub to : ℕ
    pub key : Key
    pub ballot : Ballot
    pub had : Ballot
    pub value : Option Value

  -- proposer `by` makes its value for a ballot by a request, that came as arrival `arrival`, from the value of another ballot
  pub record Choice : Type 0 where
    pub by : ℕ
    pub ballot : Ballot
    pub request : Request
    pub arrival : ℕ
    pub source : Ballot
    pub old : Option Value

  abbrev pub chosen : Choice → Option Value
  chosen c = made c.request c.old

  abbrev pub valve : Choice → Key
  valve c = key_of c.request

  -- acceptor `who` accepted a value at a ballot of a key
  pub record Acceptance : Type 0 where
    pub who : ℕ
    pub key : Key
    pub ballot : Ballot
    pub value : Option Value

  pub record Core : Type 0 where
    pub holds : ℕ → Key → Held
    pub grants : List Grant
    pub choices : List Choice
    pub acceptances : List Acceptance

  -- ---- what is said of them

  abbrev pub Accepted : List Acceptance → Key → Ballot → Option Value → Type 0
  Accepted l k b v = SomeOf l (λ w. (w.key ≡ k) × (w.ballot ≡ b) × (w.value ≡ v))

  abbrev pub AcceptedBy : List Acceptance → ℕ → Key → Ballot → Option Value → Type 0
  AcceptedBy l a k b v = SomeOf l (λ w. (w.who ≡ a) × (w.key ≡ k) × (w.ballot ≡ b) × (w.value ≡ v))

  -- a ballot and its value are the fresh register's
  abbrev pub AtStart : Ballot → Option Value → Type 0
  AtStart b v = (b ≡ zero) × (v ≡ None)

  pub record HeldOk (gs : List Grant) (l : List Acceptance) (a : ℕ) (k : Key) (h : Held) : Type 0 where
    pub not_negative : NotAbove O zero h.seen
    pub ordered : NotAbove O h.accepted h.seen
    pub origin : AtStart h.accepted h.value ⊎ AcceptedBy l a k h.accepted h.value
    pub highest : (w : Acceptance) → In w l → w.who ≡ a → w.key ≡ k → NotAbove O w.ballot h.accepted
    pub kept : (g : Grant) → In g gs → g.who ≡ a → g.key ≡ k → NotAbove O g.ballot h.seen

  pub record GrantOk (l : List Acceptance) (g : Grant) : Type 0 where
    pub positive : Below zero g.ballot
    pub earlier : Below g.had g.ballot
    pub origin : AtStart g.had g.value ⊎ AcceptedBy l g.who g.key g.had g.value
    pub covers : (w : Acceptance) → In w l → w.who ≡ g.who → w.key ≡ g.key → Below w.ballot g.ballot → NotAbove O w.ballot g.had

  -- acceptor a promised ballot b of key k to proposer p, and had accepted nothing above ballot s
  abbrev pub Backed : List Grant → ℕ → ℕ → Key → Ballot → Ballot → Type 0
  Backed gs a p k b s = SomeOf gs (λ g. (g.who ≡ a) × (g.to ≡ p) × (g.key ≡ k) × (g.ballot ≡ b) × NotAbove O g.had s)

  -- a choice was made before c, of its key, at the ballot and with the value that c comes from
  abbrev pub Parent : List Choice → Choice → Type 0
  Parent cs c = AtStart c.source c.old ⊎ SomeOf cs (λ d. (valve d ≡ valve c) × (d.ballot ≡ c.source) × (chosen d ≡ c.old))

  -- the latest choice stands first
  pub data Rooted : List Choice → Type 0 where
    bare : Rooted []
    grown : {c : Choice} {cs : List Choice} → Parent cs c → Rooted cs → Rooted (c ∷ cs)

  -- ---- what the registers become

  -- one register is another, and the rest are as they were
  pub record Changed (old new : ℕ → Key → Held) (a : ℕ) (k : Key) (h : Held) : Type 1 where
    pub each : (P : ℕ → Key → Held → Type 0) → P a k h → ((x : ℕ) (y : Key) → (x ≡ a → y ≡ k → ⊥) → P x y (old x y)) → (x : ℕ) (y : Key) → P x y (new x y)

  abbrev pub promised_held : Held → Ballot → Held
  promised_held h b = record { seen = b; accepted = h.accepted; value = h.value }

  abbrev pub accepted_held : Ballot → Option Value → Held
  accepted_held b v = record { seen = b; accepted = b; value = v }

  -- ---- the moves

  abbrev pub granted : Core → ℕ → Key → ℕ → Ballot → Grant
  granted s a k p b = record { who = a; to = p; key = k; ballot = b; had = (s.holds a k).accepted; value = (s.holds a k).value }

  -- acceptor a promises ballot b of key k to proposer p
  abbrev pub promise : Core → (ℕ → Key → Held) → ℕ → Key → ℕ → Ballot → Core
  promise s new a k p b = record { holds = new; grants = granted s a k p b ∷ s.grants; choices = s.choices; acceptances = s.acceptances }

  abbrev pub choose : Core → Choice → Core
  choose s c = record { holds = s.holds; grants = s.grants; choices = c ∷ s.choices; acceptances = s.acceptances }

  abbrev pub acceptance : ℕ → Key → Ballot → Option Value → Acceptance
  acceptance a k b v = record { who = a; key = k; ballot = b; value = v }

  -- acceptor a accepts value v at ballot b of key k
  abbrev pub accept : Core → (ℕ → Key → Held) → ℕ → Key → Ballot → Option Value → Core
  accept s new a k b v = record { holds = new; grants = s.grants; choices = s.choices; acceptances = acceptance a k b v ∷ s.acceptances }

  -- ---- the start

  abbrev pub fresh_held : Held
  fresh_held = record { seen = zero; accepted = zero; value = None }

  abbrev pub begun : (ℕ → Key → Held) → Core
  begun f = record { holds = f; grants = []; choices = []; acceptances = [] }

module _ (O : Order) (Quorum : List ℕ → Type 0) where
  open O use {Ballot, Below, zero}

  -- ---- the invariant

  pub record ChoiceOk (gs : List (Grant O)) (l : List (Acceptance O)) (c : Choice O) : Type 0 where
    pub voters : List ℕ
    pub quorum : Quorum voters
    pub backed : (a : ℕ) → In a voters → Backed O gs a c.by (valve O c) c.ballot c.source
    pub rises : Below c.source c.ballot
    pub origin : AtStart O c.source c.old ⊎ Accepted O l (valve O c) c.source c.old

  pub record Sound (s : Core O) : Type 0 where
    pub held : (a : ℕ) (k : Key) → HeldOk O s.grants s.acceptances a k (s.holds a k)
    pub grant : (g : Grant O) → In g s.grants → GrantOk O s.acceptances g
    -- an acceptor promises a ballot of a key to one proposer
    pub once : (g h : Grant O) → In g s.grants → In h s.grants → g.who ≡ h.who → g.key ≡ h.key → g.ballot ≡ h.ballot → g.to ≡ h.to
    pub choice : (c : Choice O) → In c s.choices → ChoiceOk s.grants s.acceptances c
    pub rooted : Rooted O s.choices
    -- a proposer makes one choice at a ballot
    pub single : (c d : Choice O) → In c s.choices → In d s.choices → c.by ≡ d.by → c.ballot ≡ d.ballot → c ≡ d
    -- an arrival makes one choice
    pub spent : (c d : Choice O) → In c s.choices → In d s.choices → c.arrival ≡ d.arrival → c ≡ d
    pub asked : (w : Acceptance O) → In w s.acceptances → SomeOf s.choices (λ c. (valve O c ≡ w.key) × (c.ballot ≡ w.ballot) × (chosen O c ≡ w.value))

  later : {w : Acceptance O} {l : List (Acceptance O)} {a : ℕ} {k : Key} {b : Ballot} {v : Option Value} → AtStart O b v ⊎ AcceptedBy O l a k b v → AtStart O b v ⊎ AcceptedBy O (w ∷ l) a k b v
  later (inl z) = inl z
  later (inr w) = inr (some_cons w)

  later_any : {w : Acceptance O} {l : List (Acceptance O)} {k : Key} {b : Ballot} {v : Option Value} → AtStart O b v ⊎ Accepted O l k b v → AtStart O b v ⊎ Accepted O (w ∷ l) k b v
  later_any (inl z) = inl z
  later_any (inr w) = inr (some_cons w)

  -- ---- a promise

  module _ (s : Core O) (i : Sound s) (new : ℕ → Key → Held O) (a : ℕ) (k : Key) (p : ℕ) (b : Ballot) (changed : Changed O s.holds new a k (promised_held O (s.holds a k) b)) (more : Below (s.holds a k).seen b) where
    promise_held : (x : ℕ) (y : Key) → HeldOk O (granted O s a k p b ∷ s.grants) s.acceptances x y (new x y)
    promise_held =
        changed.each (λ x y h. HeldOk O (granted O s a k p b ∷ s.grants) s.acceptances x y h)
        (let o = i.held a k in
        record {
          not_negative = below_not_above O (then_below O o.not_negative more);
          ordered = below_not_above O (then_below O o.ordered more);
          origin = o.origin;
          highest = o.highest;
          kept = all_cons (λ _ _. itself O b) (λ g m e d. below_not_above O (then_below O (o.kept g m e d) more));
        })
        (λ x y ne.
        let o = i.held x y in
        record {
          not_negative = o.not_negative;
          ordered = o.ordered;
          origin = o.origin;
          highest = o.highest;
          kept = all_cons (λ e d. absurd (ne (sym e) (sym d))) o.kept;
        })

    promise_grant : (g : Grant O) → In g (granted O s a k p b ∷ s.grants) → GrantOk O s.acceptances g
    promise_grant =
        all_cons
        (let o = i.held a k in
        record {
          positive = then_below O o.not_negative more;
          earlier = then_below O o.ordered more;
          origin = o.origin;
          covers = λ w m e d _. o.highest w m e d;
        })
        i.grant

    promise_once : (g h : Grant O) → In g (granted O s a k p b ∷ s.grants) → In h (granted O s a k p b ∷ s.grants) → g.who ≡ h.who → g.key ≡ h.key → g.ballot ≡ h.ballot → g.to ≡ h.to
    promise_once =
        pair_cons {P = λ g h. g.who ≡ h.who → g.key ≡ h.key → g.ballot ≡ h.ballot → g.to ≡ h.to}
        (λ _ _ _. refl)
        (λ g m e d f. absurd ((i.held a k).kept g m (sym e) (sym d) (rw (← f) more)))
        (λ g m e d f. absurd ((i.held a k).kept g m e d (rw f more)))
        i.once

    promise_choice : (c : Choice O) → In c s.choices → ChoiceOk (granted O s a k p b ∷ s.grants) s.acceptances c
    promise_choice c m =
        let o = i.choice c m in
        record { voters = o.voters; quorum = o.quorum; backed = λ x n. some_cons (o.backed x n); rises = o.rises; origin = o.origin }

    pub promise_sound : Sound (promise O s new a k p b)
    promise_sound = record {
      held = promise_held;
      grant = promise_grant;
      once = promise_once;
      choice = promise_choice;
      rooted = i.rooted;
      single = i.single;
      spent = i.spent;
      asked = i.asked;
    }

  -- ---- an acceptance

  module _ (s : Core O) (i : Sound s) (new : ℕ → Key → Held O) (a : ℕ) (k : Key) (b : Ballot) (v : Option Value) (changed : Changed O s.holds new a k (accepted_held O b v)) (least : NotAbove O (s.holds a k).seen b) (from : SomeOf s.choices (λ c. (valve O c ≡ k) × (c.ballot ≡ b) × (chosen O c ≡ v))) where
    accept_held : (x : ℕ) (y : Key) → HeldOk O s.grants (acceptance O a k b v ∷ s.acceptances) x y (new x y)
    accept_held =
        changed.each (λ x y h. HeldOk O s.grants (acceptance O a k b v ∷ s.acceptances) x y h)
        (let o = i.held a k in
        record {
          not_negative = not_above_trans O o.not_negative least;
          ordered = itself O b;
          origin = inr (some_head (refl, refl, refl, refl));
          highest = all_cons (λ _ _. itself O b) (λ w m e d. not_above_trans O (o.highest w m e d) (not_above_trans O o.ordered least));
          kept = λ g m e d. not_above_trans O (o.kept g m e d) least;
        })
        (λ x y ne.
        let o = i.held x y in
        record {
          not_negative = o.not_negative;
          ordered = o.ordered;
          origin = later o.origin;
          highest = all_cons (λ e d. absurd (ne (sym e) (sym d))) o.highest;
          kept = o.kept;
        })

    accept_grant : (g : Grant O) → In g s.grants → GrantOk O (acceptance O a k b v ∷ s.acceptances) g
    accept_grant g m =
        let o = i.grant g m in
        record {
          positive = o.positive;
          earlier = o.earlier;
          origin = later o.origin;
          covers = all_cons (λ e d lt. absurd (not_above_trans O ((i.held a k).kept g m (sym e) (sym d)) least lt)) o.covers;
        }

    accept_choice : (c : Choice O) → In c s.choices → ChoiceOk s.grants (acceptance O a k b v ∷ s.acceptances) c
    accept_choice c m =
        let o = i.choice c m in
        record { voters = o.voters; quorum = o.quorum; backed = o.backed; rises = o.rises; origin = later_any o.origin }

    pub accept_sound : Sound (accept O s new a k b v)
    accept_sound = record {
      held = accept_held;
      grant = accept_grant;
      once = i.once;
      choice = accept_choice;
      rooted = i.rooted;
      single = i.single;
      spent = i.spent;
      asked = all_cons from i.asked;
    }

  -- ---- a choice

  module _ (s : Core O) (i : Sound s) (c : Choice O) (ok : ChoiceOk s.grants s.acceptances c) (unused : (d : Choice O) → In d s.choices → d.by ≡ c.by → d.ballot ≡ c.ballot → ⊥) (unspent : (d : Choice O) → In d s.choices → d.arrival ≡ c.arrival → ⊥) where
    choose_parent : Parent O s.choices c
    choose_parent =
        either ok.origin (λ z. inl z) (λ w.
        let d = i.asked w.it w.at in
        inr (record { it = d.it; at = d.at; is = (d.is.0 ∙ w.is.0, d.is.1 ∙ w.is.1, d.is.2 ∙ w.is.2) }))

    pub choose_sound : Sound (choose O s c)
    choose_sound = record {
      held = i.held;
      grant = i.grant;
      once = i.once;
      choice = all_cons ok i.choice;
      rooted = grown choose_parent i.rooted;
      single = pair_cons {P = λ d e. d.by ≡ e.by → d.ballot ≡ e.ballot → d ≡ e} (λ _ _. refl) (λ d m e f. absurd (unused d m (sym e) (sym f))) (λ d m e f. absurd (unused d m e f)) i.single;
      spent = pair_cons {P = λ d e. d.arrival ≡ e.arrival → d ≡ e} (λ _. refl) (λ d m e. absurd (unspent d m (sym e))) (λ d m e. absurd (unspent d m e)) i.spent;
      asked = λ w m. some_cons (i.asked w m);
    }

  -- ---- the start

  fresh_held_lem : (a : ℕ) (k : Key) → HeldOk O [] [] a k (fresh_held O)
  fresh_held_lem a k = record {
    not_negative = itself O zero;
    ordered = itself O zero;
    origin = inl (refl, refl);
    highest = λ w m. absurd (Memᴰ.not-nil m);
    kept = λ g m. absurd (Memᴰ.not-nil m);
  }

  pub begun_sound : (f : ℕ → Key → Held O) → ((a : ℕ) (k : Key) → f a k ≡ fresh_held O) → Sound (begun O f)
  begun_sound f fresh = record {
    held = λ a k. subst (HeldOk O [] [] a k) (sym (fresh a k)) (fresh_held_lem a k);
    grant = λ g m. absurd (Memᴰ.not-nil m);
    once = λ g h m. absurd (Memᴰ.not-nil m);
    choice = λ c m. absurd (Memᴰ.not-nil m);
    rooted = bare;
    single = λ c d m. absurd (Memᴰ.not-nil m);
    spent = λ c d m. absurd (Memᴰ.not-nil m);
    asked = λ w m. absurd (Memᴰ.not-nil m);
  }
