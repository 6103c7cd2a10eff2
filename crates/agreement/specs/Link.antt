-- What ties a plant to the core: what each table, pending request, frame and told answer means there, and that it keeps this meaning while the plant's past grows.
-- Assumes nothing.
use Rattle.std.specs.Prelude.{◌≡◌, refl, ◌⊎◌, Bool, true, false, cond, List, ℕ, ◌≤◌, ◌<◌, eqb, length}
use Rattle.std.proofs.Common.{sym, subst, inl, inr, eqb-true}
use Rattle.std.specs.Prelude.{Option, Some}
use Rattle.std.proofs.lemmas.Bool.{eqb-false}
use Rattle.messages.specs.declared.Ballot.{Ballot}
use Rattle.messages.specs.Message.{Key, Value, Failure, Verdict, Reply, Message}
use Rattle.storage_block.specs.Block.{Register}
use Rattle.acceptor.specs.Dependence.{register_for}
use Rattle.proposer_rules.specs.State.{Phase, Propose, Accept, Pending, Proposer, key_of}
use Rattle.agreement.specs.Members.{either, In, SomeOf, some_in, Distinct}
use Rattle.agreement.specs.Order.{plant_order, NotAbove, counter_of}
use Rattle.agreement.specs.Majority.{SameSet, Majority}
use Rattle.agreement.specs.Core.{made, Held, Grant, Choice, chosen, valve, Acceptance, Core, Accepted, AcceptedBy, AtStart, Backed, Sound, HeldOk, fresh_held}
use Rattle.agreement.specs.Plant.{Party, acceptor, proposer, client, Frame, Arrival, Plant, with_party, MajorityAccepted, Speaks}
use Rattle.agreement.specs.Places.{Apart}

-- ---- the past that no party holds

-- a ballot of a proposer was used for an arrival
pub record Use : Type 0 where
  pub by : ℕ
  pub ballot : Ballot
  pub arrival : Arrival

pub record Past : Type 0 where
  pub grants : List (Grant plant_order)
  pub choices : List (Choice plant_order)
  pub uses : List Use

abbrev pub held_as : Register → Held plant_order
held_as r = record { seen = r.seen; accepted = r.accepted; value = r.value }

unfoldable pub holds_of : Party → Key → Held plant_order
holds_of (acceptor l) k = held_as (register_for k l)
holds_of (proposer p) k = fresh_held plant_order
holds_of client k = fresh_held plant_order

abbrev pub core_of : Plant → Past → Core plant_order
core_of s h = record { holds = λ a. holds_of (s.party a); grants = h.grants; choices = h.choices; acceptances = s.acceptances }

-- ---- what each thing means

-- a proposer used a ballot for a request of a key
abbrev pub UsedFor : List Use → ℕ → Ballot → Key → Type 0
UsedFor us p b k = SomeOf us (λ u. (u.by ≡ p) × (u.ballot ≡ b) × (key_of u.arrival.request ≡ k))

-- no ballot above b was used for arrival n
abbrev pub Latest : List Use → Ballot → ℕ → Type 0
Latest us b n = (u : Use) → In u us → u.arrival.number ≡ n → NotAbove plant_order u.ballot b

module _ (fixed : List ℕ) where
  -- a frame
  abbrev pub Means : Plant → Past → Frame → Message → Type 0
  Means s h f (Message.ClientRequest id r) = ⊥
  Means s h f (Message.ClientResponse id (Reply.Done v)) = Speaks fixed s f id v (Reply.Done v)
  Means s h f (Message.ClientResponse id (Reply.Failed (Failure.CasFailed v))) = Speaks fixed s f id v (Reply.Failed (Failure.CasFailed v))
  Means s h f (Message.ClientResponse id (Reply.Failed (Failure.ProposalRejected b))) = Unit {0}
  Means s h f (Message.ClientResponse id (Reply.Failed (Failure.AcceptRejected b))) = Unit {0}
  Means s h f (Message.ClientResponse id (Reply.Failed Failure.Timeout)) = Unit {0}
  Means s h f (Message.SetAcceptAcceptors l) = ⊥
  Means s h f (Message.SetProposeAcceptors l) = ⊥
  Means s h f (Message.ProposeReq b k) = UsedFor h.uses f.from b k
  Means s h f (Message.ProposeRes b a v Verdict.Granted) = SomeOf h.grants (λ g. (g.who ≡ f.from) × (g.to ≡ f.to) × (g.ballot ≡ b) × (g.had ≡ a) × (g.value ≡ v))
  Means s h f (Message.ProposeRes b a v (Verdict.Denied e)) = Unit {0}
  Means s h f (Message.AcceptReq b k v) = SomeOf h.choices (λ c. (c.by ≡ f.from) × (c.ballot ≡ b) × (valve plant_order c ≡ k) × (chosen plant_order c ≡ v))
  Means s h f (Message.AcceptRes b Verdict.Granted) = SomeOf h.choices (λ c. (c.by ≡ f.to) × (c.ballot ≡ b) × AcceptedBy plant_order s.acceptances f.from (valve plant_order c) b (chosen plant_order c))
  Means s h f (Message.AcceptRes b (Verdict.Denied e)) = Unit {0}

  -- a pending request in its first phase
  pub record First (s : Plant) (h : Past) (p : ℕ) (q : Pending) : Type 0 where
    pub unchosen : (c : Choice plant_order) → In c h.choices → c.by ≡ p → c.ballot ≡ q.ballot → ⊥
    pub backed : (a : ℕ) → In a q.acks_from → Backed plant_order h.grants a p (key_of q.req) q.ballot q.promised
    pub origin : AtStart plant_order q.promised q.value ⊎ (plant_order.Below q.promised q.ballot × Accepted plant_order s.acceptances (key_of q.req) q.promised q.value)

  -- and in its second
  pub record Second (s : Plant) (h : Past) (p : ℕ) (q : Pending) : Type 0 where
    pub chose : SomeOf h.choices (λ c. (c.by ≡ p) × (c.ballot ≡ q.ballot) × (c.request ≡ q.req) × (c.old ≡ q.value))
    pub agreed : (a : ℕ) → In a q.acks_from → AcceptedBy plant_order s.acceptances a (key_of q.req) q.ballot (made q.req q.value)

  abbrev pub Stage : Plant → Past → ℕ → Pending → Phase → Type 0
  Stage s h p q Propose = First s h p q
  Stage s h p q Accept = Second s h p q

  pub record PendingOk (s : Plant) (h : Past) (p : ℕ) (q : Pending) : Type 0 where
    pub its : Use
    pub used : In its h.uses
    pub by : its.by ≡ p
    pub ballot : its.ballot ≡ q.ballot
    pub client : its.arrival.client ≡ q.client.0
    pub id : its.arrival.id ≡ q.id
    pub request : its.arrival.request ≡ q.req
    pub latest : Latest h.uses q.ballot its.arrival.number
    pub once : Distinct q.acks_from
    pub inside : (a : ℕ) → In a q.acks_from → In a q.waiting_for
    pub set : SameSet fixed q.waiting_for
    pub stage : Stage s h p q q.phase

  pub record ProposerOk (s : Plant) (h : Past) (p : ℕ) (P : Proposer) : Type 0 where
    pub accept_set : SameSet fixed P.accept_acceptors
    pub propose_set : SameSet fixed P.propose_acceptors
    -- "pending ballots are distinct and from 1 to the counter", and so are all that were ever used
    pub counted : (u : Use) → In u h.uses → u.by ≡ p → counter_of u.ballot ≤ P.counter
    pub apart : Apart P.places
    pub pending : (q : Pending) → In (Some q) P.places → PendingOk s h p q

  -- the use that a choice was made for
  pub record ChoiceUse (h : Past) (c : Choice plant_order) : Type 0 where
    pub its : Use
    pub used : In its h.uses
    pub by : its.by ≡ c.by
    pub ballot : its.ballot ≡ c.ballot
    pub number : its.arrival.number ≡ c.arrival
    pub request : its.arrival.request ≡ c.request
    pub latest : Latest h.uses c.ballot c.arrival

  pub record Tied (s : Plant) (h : Past) : Type 0 where
    pub core : Sound plant_order (Majority fixed) (core_of s h)
    pub proposers : (p : ℕ) (P : Proposer) → s.party p ≡ proposer P → ProposerOk s h p P
    pub sent : (f : Frame) → In f s.frames → Means s h f f.message
    pub arrived : (u : Use) → In u h.uses → In u.arrival s.arrivals × (u.arrival.at ≡ u.by)
    -- no proposer uses a ballot twice
    pub used_once : (u w : Use) → In u h.uses → In w h.uses → u.by ≡ w.by → u.ballot ≡ w.ballot → u ≡ w
    pub grant_use : (g : Grant plant_order) → In g h.grants → UsedFor h.uses g.to g.ballot g.key
    pub choice_use : (c : Choice plant_order) → In c h.choices → ChoiceUse h c
    pub numbered : (x : Arrival) → In x s.arrivals → x.number < length s.arrivals
    pub number_once : (x y : Arrival) → In x s.arrivals → In y s.arrivals → x.number ≡ y.number → x ≡ y

  -- ---- growth

  pub record Grows (s : Plant) (h : Past) (s' : Plant) (h' : Past) : Type 0 where
    pub arrivals : (x : Arrival) → In x s.arrivals → In x s'.arrivals
    pub acceptances : (w : Acceptance plant_order) → In w s.acceptances → In w s'.acceptances
    pub grants : (g : Grant plant_order) → In g h.grants → In g h'.grants
    pub choices : (c : Choice plant_order) → In c h.choices → In c h'.choices
    pub uses : (u : Use) → In u h.uses → In u h'.uses

  module _ {s s' : Plant} {h h' : Past} (up : Grows s h s' h') where
    majority_grows : {k : Key} {b : Ballot} {v : Option Value} → MajorityAccepted fixed s k b v → MajorityAccepted fixed s' k b v
    majority_grows m = record { voters = m.voters; majority = m.majority; all = λ a n. some_in up.acceptances (m.all a n) }

    speaks_grows : {f : Frame} {id : ℕ} {v : Option Value} {r : Reply} → Speaks fixed s f id v r → Speaks fixed s' f id v r
    speaks_grows m = record {
      arrival = m.arrival;
      arrived = up.arrivals m.arrival m.arrived;
      its_client = m.its_client;
      its_proposer = m.its_proposer;
      its_id = m.its_id;
      old = m.old;
      reply = m.reply;
      value = m.value;
      ballot = m.ballot;
      accepted = majority_grows m.accepted;
    }

    pub means_grows : (f : Frame) (m : Message) → Means s h f m → Means s' h' f m
    means_grows f (Message.ClientRequest id r) x = x
    means_grows f (Message.ClientResponse id (Reply.Done v)) x = speaks_grows x
    means_grows f (Message.ClientResponse id (Reply.Failed (Failure.CasFailed v))) x = speaks_grows x
    means_grows f (Message.ClientResponse id (Reply.Failed (Failure.ProposalRejected b))) x = tt
    means_grows f (Message.ClientResponse id (Reply.Failed (Failure.AcceptRejected b))) x = tt
    means_grows f (Message.ClientResponse id (Reply.Failed Failure.Timeout)) x = tt
    means_grows f (Message.SetAcceptAcceptors l) x = x
    means_grows f (Message.SetProposeAcceptors l) x = x
    means_grows f (Message.ProposeReq b k) x = some_in up.uses x
    means_grows f (Message.ProposeRes b a v Verdict.Granted) x = some_in up.grants x
    means_grows f (Message.ProposeRes b a v (Verdict.Denied e)) x = tt
    means_grows f (Message.AcceptReq b k v) x = some_in up.choices x
    means_grows f (Message.AcceptRes b Verdict.Granted) x = record { it = x.it; at = up.choices x.it x.at; is = (x.is.0, x.is.1, some_in up.acceptances x.is.2) }
    means_grows f (Message.AcceptRes b (Verdict.Denied e)) x = tt

    stage_grows : (p : ℕ) (q : Pending) → ((c : Choice plant_order) → In c h'.choices → c.by ≡ p → c.ballot ≡ q.ballot → In c h.choices) → (f : Phase) → Stage s h p q f → Stage s' h' p q f
    stage_grows p q old Propose x = record {
      unchosen = λ c m e d. x.unchosen c (old c m e d) e d;
      backed = λ a m. some_in up.grants (x.backed a m);
      origin = either x.origin (λ z. inl z) (λ w. inr (w.0, some_in up.acceptances w.1));
    }
    stage_grows p q old Accept x = record {
      chose = some_in up.choices x.chose;
      agreed = λ a m. some_in up.acceptances (x.agreed a m);
    }

    -- where no choice at its ballot is new, and no later use of its arrival
    pub pending_grows : (p : ℕ) (q : Pending) → ((c : Choice plant_order) → In c h'.choices → c.by ≡ p → c.ballot ≡ q.ballot → In c h.choices) → (x : PendingOk s h p q) → Latest h'.uses q.ballot x.its.arrival.number → PendingOk s' h' p q
    pending_grows p q old x latest = record {
      its = x.its;
      used = up.uses x.its x.used;
      by = x.by;
      ballot = x.ballot;
      client = x.client;
      id = x.id;
      request = x.request;
      latest = latest;
      once = x.once;
      inside = x.inside;
      set = x.set;
      stage = stage_grows p q old q.phase x.stage;
    }

    -- where no choice and no use is new
    pub proposer_grows : ((c : Choice plant_order) → In c h'.choices → In c h.choices) → ((u : Use) → In u h'.uses → In u h.uses) → (p : ℕ) (P : Proposer) → ProposerOk s h p P → ProposerOk s' h' p P
    proposer_grows choices uses p P x = record {
      accept_set = x.accept_set;
      propose_set = x.propose_set;
      counted = λ u m. x.counted u (uses u m);
      apart = x.apart;
      pending = λ q m.
          let o = x.pending q m in
          pending_grows p q (λ c n e d. choices c n) o (λ u n. o.latest u (uses u n));
    }

-- ---- parties

pub party_each : (X : ℕ → Party → Type 0) (f : ℕ → Party) (a : ℕ) (P : Party) → X a P → ((x : ℕ) → (x ≡ a → ⊥) → X x (f x)) → (x : ℕ) → X x (with_party f a P x)
unfolding with_party
party_each X f a P new old x = go (eqb x a) refl
  where
    go : (h : Bool) → eqb x a ≡ h → X x (cond h P (f x))
    go true e = rw (eqb-true x a e) new
    go false e = old x (eqb-false x a e)

-- registers that are as they were
pub sound_same : (Quorum : List ℕ → Type 0) (old new : ℕ → Key → Held plant_order) (gs : List (Grant plant_order)) (cs : List (Choice plant_order)) (l : List (Acceptance plant_order)) → ((a : ℕ) (k : Key) → new a k ≡ old a k) → Sound plant_order Quorum (record { holds = old; grants = gs; choices = cs; acceptances = l }) → Sound plant_order Quorum (record { holds = new; grants = gs; choices = cs; acceptances = l })
sound_same Quorum old new gs cs l e i = record {
  held = λ a k. subst (HeldOk plant_order gs l a k) (sym (e a k)) (i.held a k);
  grant = i.grant;
  once = i.once;
  choice = i.choice;
  rooted = i.rooted;
  single = i.single;
  spent = i.spent;
  asked = i.asked;
}
