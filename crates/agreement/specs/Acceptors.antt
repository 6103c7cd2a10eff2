-- A message that an acceptor hears keeps the plant tied to the core: a stored promise is a grant, a stored value an acceptance.
-- Assumes nothing.
use Rattle.std.specs.Prelude.{◌≡◌, refl, Bool, set}
use Rattle.std.proofs.Math.Path.{sym, ap, subst}
use Rattle.std.proofs.Common.{◌∙◌, arith}
use Rattle.std.proofs.Math.Bool.{true, false, false≢true}
use mathlib.Core.List.Memᴰ
use mathlib.Core.List.{List, [], ◌∷◌, ◌++◌}
use Rattle.std.specs.Prelude.{Option}
use Prim.Native.Nat.{ℕ}
use Rattle.std.proofs.lemmas.Bool.{not-true}
use Rattle.leaf_fields.specs.Fields.{same}
use Rattle.leaf_fields.specs.Laws.{same-true, same_refl}
use Rattle.messages.specs.declared.Ballot.{Ballot}
use Rattle.messages.specs.Ballots.{above, not_below}
use Rattle.messages.specs.Message.{Key, Value, Verdict, Message}
use Rattle.storage_block.specs.Block.{Slot, used, Register, register}
use Rattle.acceptor_rules.specs.Rules.{Outcome, receive}
use Rattle.acceptor.specs.Stores.{Takes}
use Rattle.acceptor.specs.Dependence.{register_for, key_for}
use Rattle.acceptor.specs.Images.{stored_in}
use Rattle.proposer_rules.specs.State.{Proposer}
use Rattle.agreement.specs.Members.{In, SomeOf, some_head, all_cons, all_append}
use Rattle.agreement.specs.Order.{plant_order, NotAbove}
use Rattle.agreement.specs.Majority.{Majority}
use Rattle.agreement.specs.Core as C
use Rattle.agreement.specs.Core.{Held, chosen, valve, Changed, promised_held, granted, promise_sound, accept_sound}
use Rattle.agreement.specs.Plant.{Party, acceptor, proposer, Frame, Plant, address, with_party, sent_by, accepted_from, accepted_in, acceptor_does}
use Rattle.agreement.specs.Tables.{register_stored, register_kept, ProposalDoes, refuses_proposal, rejects_proposal, promises, proposal_does, AcceptDoes, refuses_accept, rejects_accept, accepts, accept_does, Refuses, others_refused}
use Rattle.agreement.specs.Link.{Past, held_as, holds_of, core_of, UsedFor, Means, ProposerOk, Tied, Grows, means_grows, proposer_grows, party_each, sound_same}

module _ (fixed : List ℕ) where
  -- the past of a plant that is tied
  pub record TiedPlant (s : Plant) : Type 0 where
    pub past : Past
    pub tied : Tied fixed s past

  -- ---- a step that leaves the core as it was

  module _ (s : Plant) (h : Past) (tie : Tied fixed s h) (parties : ℕ → Party) (frames : List Frame) where
    abbrev pub same_core : Plant
    same_core = record { party = parties; frames = frames ++ s.frames; arrivals = s.arrivals; acceptances = s.acceptances }

    unmoved : Grows fixed s h same_core h
    unmoved = record { arrivals = λ _ m. m; acceptances = λ _ m. m; grants = λ _ m. m; choices = λ _ m. m; uses = λ _ m. m }

    pub core_kept : ((x : ℕ) (k : Key) → holds_of (parties x) k ≡ holds_of (s.party x) k) → ((p : ℕ) (P : Proposer) → parties p ≡ proposer P → ProposerOk fixed s h p P) → ((f : Frame) → In f frames → Means fixed s h f f.message) → Tied fixed same_core h
    core_kept held ok new = record {
      core = sound_same (Majority fixed) (λ a. holds_of (s.party a)) (λ a. holds_of (parties a)) h.grants h.choices s.acceptances held tie.core;
      proposers = λ p P e. proposer_grows fixed unmoved (λ _ m. m) (λ _ m. m) p P (ok p P e);
      sent = all_append {P = λ f. Means fixed same_core h f f.message} frames (λ f m. means_grows fixed unmoved f f.message (new f m)) (λ f m. means_grows fixed unmoved f f.message (tie.sent f m));
      arrived = tie.arrived;
      used_once = tie.used_once;
      grant_use = tie.grant_use;
      choice_use = tie.choice_use;
      numbered = tie.numbered;
      number_once = tie.number_once;
    }

  -- ---- an acceptor

  not_proposer : (l : List Slot) (P : Proposer) → acceptor l ≡ proposer P → ⊥
  not_proposer l P e = let z : ◌≡◌ {A = ℕ} 0 1 = cc in omega arith

  module _ (s : Plant) (h : Past) (tie : Tied fixed s h) (from a : ℕ) (l : List Slot) (here : s.party a ≡ acceptor l) where
    abbrev after : List Slot → ℕ → Party
    after l' = with_party s.party a (acceptor l')

    -- what the messages that an acceptor takes must mean
    abbrev pub Heard : Message → Type 0
    Heard (Message.ClientRequest id r) = Unit {0}
    Heard (Message.ClientResponse id r) = Unit {0}
    Heard (Message.SetAcceptAcceptors k) = Unit {0}
    Heard (Message.SetProposeAcceptors k) = Unit {0}
    Heard (Message.ProposeReq b k) = UsedFor h.uses from b k
    Heard (Message.ProposeRes b c v r) = Unit {0}
    Heard (Message.AcceptReq b k v) = SomeOf h.choices (λ c. (c.by ≡ from) × (c.ballot ≡ b) × (valve plant_order c ≡ k) × (chosen plant_order c ≡ v))
    Heard (Message.AcceptRes b r) = Unit {0}

    held_here : (k : Key) → holds_of (s.party a) k ≡ held_as (register_for k l)
    unfolding holds_of
    held_here k = ap (λ (P : Party). holds_of P k) here

    -- the proposers are as they were
    others : (l' : List Slot) (p : ℕ) (P : Proposer) → after l' p ≡ proposer P → ProposerOk fixed s h p P
    others l' = party_each (λ p Q. (P : Proposer) → Q ≡ proposer P → ProposerOk fixed s h p P) s.party a (acceptor l') (λ P e. absurd (not_proposer l' P e)) (λ p ne P e. tie.proposers p P e)

    held_kept : (x : ℕ) (k : Key) → holds_of (after l x) k ≡ holds_of (s.party x) k
    unfolding holds_of
    held_kept = party_each (λ x P. (k : Key) → holds_of P k ≡ holds_of (s.party x) k) s.party a (acceptor l) (λ k. sym (held_here k)) (λ x ne k. refl)

    -- nothing is stored
    keeps : (frames : List Frame) → ((f : Frame) → In f frames → Means fixed s h f f.message) → Tied fixed (record { party = after l; frames = frames ++ s.frames; arrivals = s.arrivals; acceptances = s.acceptances }) h
    keeps frames new = core_kept s h tie (after l) frames held_kept (others l) new

    -- a register is stored
    module _ (k : Key) (i : ℕ) (r : Register) (its-key : r.key ≡ k) (takes : Takes k l i) where
      abbrev stored : List Slot
      stored = set l i (used r)

      changed : Changed plant_order (λ x. holds_of (s.party x)) (λ x. holds_of (after stored x)) a k (held_as r)
      unfolding holds_of
      changed = record {
        each = λ P new old. party_each (λ x Q. (y : Key) → P x y (holds_of Q y)) s.party a (acceptor stored)
            (λ y. by P new old y (same y k) refl)
            (λ x ne y. old x y (λ e _. ne e));
      }
        where
          by : (P : ℕ → Key → Held plant_order → Type 0) → P a k (held_as r) → ((x : ℕ) (y : Key) → (x ≡ a → y ≡ k → ⊥) → P x y (holds_of (s.party x) y)) → (y : Key) (b : Bool) → same y k ≡ b → P a y (held_as (register_for y stored))
          by P new old y true e = rw (same-true y k e) (subst (λ (u : Register). P a k (held_as u)) (sym (register_stored k l i r its-key takes)) new)
          by P new old y false e =
              let ne : y ≡ k → ⊥ = λ d. false≢true (sym e ∙ ap (λ (z : Key). same z k) d ∙ same_refl k) in
              subst (λ (u : Register). P a y (held_as u)) (sym (register_kept k l i r its-key takes y ne)) (subst (P a y) (held_here y) (old a y (λ _ d. ne d)))

    -- a promise is stored
    module _ (b : Ballot) (k : Key) (i : ℕ) (takes : Takes k l i) (up : above b (register_for k l).seen ≡ true) (asked : UsedFor h.uses from b k) where
      abbrev promised_register : Register
      promised_register = register (register_for k l).key b (register_for k l).accepted (register_for k l).value

      abbrev promise_sent : Frame
      promise_sent = record { from = a; to = from; message = Message.ProposeRes b (register_for k l).accepted (register_for k l).value Verdict.Granted }

      abbrev promise_plant : Plant
      promise_plant = record { party = after (set l i (used promised_register)); frames = promise_sent ∷ s.frames; arrivals = s.arrivals; acceptances = s.acceptances }

      abbrev promise_past : Past
      promise_past = record { grants = granted plant_order (core_of s h) a k from b ∷ h.grants; choices = h.choices; uses = h.uses }

      promise_grows : Grows fixed s h promise_plant promise_past
      promise_grows = record { arrivals = λ _ m. m; acceptances = λ _ m. m; grants = λ _ m. Memᴰ.tail m; choices = λ _ m. m; uses = λ _ m. m }

      promise_changed : Changed plant_order (λ x. holds_of (s.party x)) (λ x. holds_of (promise_plant.party x)) a k (promised_held plant_order (holds_of (s.party a) k) b)
      promise_changed = subst (λ (u : Held plant_order). Changed plant_order (λ x. holds_of (s.party x)) (λ x. holds_of (promise_plant.party x)) a k (promised_held plant_order u b)) (sym (held_here k)) (changed k i promised_register (key_for k l) takes)

      promise_tied : Tied fixed promise_plant promise_past
      promise_tied = record {
        core = promise_sound plant_order (Majority fixed) (core_of s h) tie.core (λ x. holds_of (promise_plant.party x)) a k from b promise_changed (ap (λ (u : Held plant_order). above b u.seen) (held_here k) ∙ up);
        proposers = λ p P e. proposer_grows fixed promise_grows (λ _ m. m) (λ _ m. m) p P (others (set l i (used promised_register)) p P e);
        sent = all_cons {P = λ f. Means fixed promise_plant promise_past f f.message} (some_head (refl, refl, refl, ap (λ (u : Held plant_order). u.accepted) (held_here k), ap (λ (u : Held plant_order). u.value) (held_here k))) (λ f m. means_grows fixed promise_grows f f.message (tie.sent f m));
        arrived = tie.arrived;
        used_once = tie.used_once;
        grant_use = all_cons asked tie.grant_use;
        choice_use = λ c m.
            let u = tie.choice_use c m in
            record { its = u.its; used = u.used; by = u.by; ballot = u.ballot; number = u.number; request = u.request; latest = u.latest };
        numbered = tie.numbered;
        number_once = tie.number_once;
      }

    -- a value is stored
    module _ (b : Ballot) (k : Key) (v : Option Value) (i : ℕ) (takes : Takes k l i) (up : not_below b (register_for k l).seen ≡ true) (chose : SomeOf h.choices (λ c. (c.by ≡ from) × (c.ballot ≡ b) × (valve plant_order c ≡ k) × (chosen plant_order c ≡ v))) where
      abbrev accepted_register : Register
      accepted_register = register (register_for k l).key b b v

      abbrev acceptance_sent : Frame
      acceptance_sent = record { from = a; to = from; message = Message.AcceptRes b Verdict.Granted }

      abbrev acceptance_plant : Plant
      acceptance_plant = record { party = after (set l i (used accepted_register)); frames = acceptance_sent ∷ s.frames; arrivals = s.arrivals; acceptances = C.acceptance plant_order a k b v ∷ s.acceptances }

      accept_grows : Grows fixed s h acceptance_plant h
      accept_grows = record { arrivals = λ _ m. m; acceptances = λ _ m. Memᴰ.tail m; grants = λ _ m. m; choices = λ _ m. m; uses = λ _ m. m }

      least : NotAbove plant_order (holds_of (s.party a) k).seen b
      least e = false≢true (sym (not-true (above (register_for k l).seen b) up) ∙ ap (λ (u : Held plant_order). above u.seen b) (sym (held_here k)) ∙ e)

      accept_tied : Tied fixed acceptance_plant h
      accept_tied = record {
        core = accept_sound plant_order (Majority fixed) (core_of s h) tie.core (λ x. holds_of (acceptance_plant.party x)) a k b v (changed k i accepted_register (key_for k l) takes) least (record { it = chose.it; at = chose.at; is = (chose.is.2, chose.is.1, chose.is.3) });
        proposers = λ p P e. proposer_grows fixed accept_grows (λ _ m. m) (λ _ m. m) p P (others (set l i (used accepted_register)) p P e);
        sent = all_cons {P = λ f. Means fixed acceptance_plant h f f.message} (record { it = chose.it; at = chose.at; is = (chose.is.0, chose.is.1, some_head (refl, sym chose.is.2, refl, sym chose.is.3)) }) (λ f m. means_grows fixed accept_grows f f.message (tie.sent f m));
        arrived = tie.arrived;
        used_once = tie.used_once;
        grant_use = tie.grant_use;
        choice_use = tie.choice_use;
        numbered = tie.numbered;
        number_once = tie.number_once;
      }

    -- ---- by what the acceptor does

    no_frame : (f : Frame) → In f [] → Means fixed s h f f.message
    no_frame f m = absurd (Memᴰ.not-nil m)

    only_frame : (f : Frame) → Means fixed s h f f.message → (g : Frame) → In g (f ∷ []) → Means fixed s h g g.message
    only_frame f x = all_cons {P = λ g. Means fixed s h g g.message} x no_frame

    after_proposal : (b : Ballot) (k : Key) → UsedFor h.uses from b k → (o : Outcome) → ProposalDoes l (address from) b k o → TiedPlant (acceptor_does s a (Message.ProposeReq b k) l o)
    unfolding acceptor_does stored_in sent_by accepted_in accepted_from
    after_proposal b k x o (refuses_proposal r) = record { past = h; tied = keeps [] no_frame }
    after_proposal b k x o rejects_proposal = record { past = h; tied = keeps _ (only_frame _ tt) }
    after_proposal b k x o (promises i takes up) = record { past = promise_past b k i takes up x; tied = promise_tied b k i takes up x }

    after_accept : (b : Ballot) (k : Key) (v : Option Value) → SomeOf h.choices (λ c. (c.by ≡ from) × (c.ballot ≡ b) × (valve plant_order c ≡ k) × (chosen plant_order c ≡ v)) → (o : Outcome) → AcceptDoes l (address from) b k v o → TiedPlant (acceptor_does s a (Message.AcceptReq b k v) l o)
    unfolding acceptor_does stored_in sent_by accepted_in accepted_from
    after_accept b k v x o (refuses_accept r) = record { past = h; tied = keeps [] no_frame }
    after_accept b k v x o rejects_accept = record { past = h; tied = keeps _ (only_frame _ tt) }
    after_accept b k v x o (accepts i takes up) = record { past = h; tied = accept_tied b k v i takes up x }

    after_refusal : (m : Message) (o : Outcome) → Refuses o → TiedPlant (acceptor_does s a m l o)
    unfolding acceptor_does stored_in sent_by accepted_in
    after_refusal m o x = subst (λ (u : Outcome). TiedPlant (acceptor_does s a m l u)) (sym x.is) (record { past = h; tied = keeps [] no_frame })

    pub acceptor_hears : (m : Message) → Heard m → TiedPlant (acceptor_does s a m l (receive l (address from) m))
    acceptor_hears (Message.ClientRequest id r) x = after_refusal _ _ (others_refused l (address from) (Message.ClientRequest id r) refl)
    acceptor_hears (Message.ClientResponse id r) x = after_refusal _ _ (others_refused l (address from) (Message.ClientResponse id r) refl)
    acceptor_hears (Message.SetAcceptAcceptors k) x = after_refusal _ _ (others_refused l (address from) (Message.SetAcceptAcceptors k) refl)
    acceptor_hears (Message.SetProposeAcceptors k) x = after_refusal _ _ (others_refused l (address from) (Message.SetProposeAcceptors k) refl)
    acceptor_hears (Message.ProposeReq b k) x = after_proposal b k x _ (proposal_does l (address from) b k)
    acceptor_hears (Message.ProposeRes b c v r) x = after_refusal _ _ (others_refused l (address from) (Message.ProposeRes b c v r) refl)
    acceptor_hears (Message.AcceptReq b k v) x = after_accept b k v x _ (accept_does l (address from) b k v)
    acceptor_hears (Message.AcceptRes b r) x = after_refusal _ _ (others_refused l (address from) (Message.AcceptRes b r) refl)
