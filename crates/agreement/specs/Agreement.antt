-- Demand 3: every run of a plant satisfies it.
-- Assumes nothing.
use Rattle.std.specs.Prelude.{◌≡◌, true, List, [], ◌∷◌, ℕ, ◌≤◌, ◌<◌}
use Rattle.std.proofs.Math.Path.{refl, ap, subst}
use Rattle.std.proofs.Common.{sym, ◌∙◌, subst₂, arith}
use mathlib.Core.List.Memᴰ
use Rattle.std.specs.Prelude.{Option, None, Some}
use Rattle.std.proofs.Math.ListN.{length}
use Rattle.messages.specs.declared.Ballot.{Ballot}
use Rattle.messages.specs.Ballots.{ballot0, above}
use Rattle.messages.specs.Message.{Key, Value, Request, Verdict, Reply, Message}
use Rattle.storage_block.specs.Block.{Slot}
use Rattle.acceptor.specs.Dependence.{register_for}
use Rattle.proposer_rules.specs.State.{Pending, Proposer, key_of}
use Rattle.agreement.specs.Members.{either, In, SomeOf, all_cons, pair_cons, one_more}
use Rattle.agreement.specs.Order.{plant_order, counter_of}
use Rattle.agreement.specs.Majority.{Majority, Common, Member, majorities_meet, someone}
use Rattle.agreement.specs.Core.{made, chosen, valve, Acceptance, AcceptedBy, fresh_held, Sound, begun_sound}
use Rattle.agreement.specs.Safety.{Chain, here, next, Won, above_zero, one_value_lem, comes_of_lem}
use Rattle.agreement.specs.Plant.{Party, acceptor, proposer, client, Frame, Arrival, Plant, hearing, hear, ticking, tick, arriving, Begins, Run, begins, delivers, requests, sets_accept, sets_propose, ticks, MajorityAccepted, ByRequests, unchanged, by_request, ComesOf, Tells, success, failed_compare, Speaks, Demand3}
use Rattle.agreement.specs.Tables.{fresh_register}
use Rattle.agreement.specs.Places.{none_not_some, Apart, empty, idle}
use Rattle.agreement.specs.Link.{Use, Past, held_as, holds_of, core_of, Means, Tied, Grows, means_grows, proposer_grows}
use Rattle.agreement.specs.Acceptors as Acceptors
use Rattle.agreement.specs.Acceptors.{TiedPlant, acceptor_hears}
use Rattle.agreement.specs.Steps as Steps
use Rattle.agreement.specs.Steps.{proposer_hears, proposer_ticks}

-- ---- the start

idle_apart : (l : List (Option Pending)) → ((x : Option Pending) → In x l → x ≡ None) → Apart l
idle_apart [] h = empty
idle_apart (None ∷ l) h = idle (idle_apart l (λ x m. h x (Memᴰ.tail m)))
idle_apart (Some q ∷ l) h = absurd (none_not_some (sym (h (Some q) (Memᴰ.head refl))))

module _ (fixed : List ℕ) (s : Plant) (b : Begins fixed s) where
  abbrev no_past : Past
  no_past = record { grants = []; choices = []; uses = [] }

  fresh_held_lem : (a : ℕ) (k : Key) → holds_of (s.party a) k ≡ fresh_held plant_order
  unfolding holds_of
  fresh_held_lem a k = go (s.party a) refl
    where
      go : (P : Party) → s.party a ≡ P → holds_of P k ≡ fresh_held plant_order
      go (acceptor l) e = ap held_as (fresh_register k l (b.fresh_tables a l e))
      go (proposer P) e = refl
      go client e = refl

  no_frame : (f : Frame) → In f s.frames → ⊥
  no_frame f m = Memᴰ.not-nil (subst (In f) b.nothing_sent m)

  no_arrival : (x : Arrival) → In x s.arrivals → ⊥
  no_arrival x m = Memᴰ.not-nil (subst (In x) b.nothing_arrived m)

  begin_tied : TiedPlant fixed s
  begin_tied = record {
    past = no_past;
    tied = record {
      core = subst (λ (l : List (Acceptance plant_order)). Sound plant_order (Majority fixed) (record { holds = λ a. holds_of (s.party a); grants = []; choices = []; acceptances = l })) (sym b.nothing_accepted) (begun_sound plant_order (Majority fixed) (λ a. holds_of (s.party a)) fresh_held_lem);
      proposers = λ p P e. record {
        accept_set = (b.one_set p P e).0;
        propose_set = (b.one_set p P e).1;
        counted = λ u m. absurd (Memᴰ.not-nil m);
        apart = idle_apart P.places (b.nothing_pending p P e);
        pending = λ q m. absurd (none_not_some (sym (b.nothing_pending p P e (Some q) m)));
      };
      sent = λ f m. absurd (no_frame f m);
      arrived = λ u m. absurd (Memᴰ.not-nil m);
      used_once = λ u w m. absurd (Memᴰ.not-nil m);
      grant_use = λ g m. absurd (Memᴰ.not-nil m);
      choice_use = λ c m. absurd (Memᴰ.not-nil m);
      numbered = λ x m. absurd (no_arrival x m);
      number_once = λ x y m. absurd (no_arrival x m);
    };
  }

-- ---- the steps

module _ (fixed : List ℕ) (s : Plant) (h : Past) (tie : Tied fixed s h) where
  -- a party hears a message that means what it must to an acceptor and to a proposer
  module _ (from to t : ℕ) (m : Message) where
    heard_by : (P : Party) → s.party to ≡ P → ((l : List Slot) (e : s.party to ≡ acceptor l) → Acceptors.Heard fixed s h tie from to l e m) → ((Q : Proposer) (e : s.party to ≡ proposer Q) → Steps.Heard fixed s h tie from to t Q e m) → TiedPlant fixed (hearing s from to t m P)
    unfolding hearing
    heard_by (acceptor l) e a q = acceptor_hears fixed s h tie from to l e m (a l e)
    heard_by (proposer P) e a q = proposer_hears fixed s h tie from to t P e m (q P e)
    heard_by client e a q = record { past = h; tied = tie }

    hear_tied : ((l : List Slot) (e : s.party to ≡ acceptor l) → Acceptors.Heard fixed s h tie from to l e m) → ((Q : Proposer) (e : s.party to ≡ proposer Q) → Steps.Heard fixed s h tie from to t Q e m) → TiedPlant fixed (hear s from to t m)
    unfolding hear
    hear_tied a q = heard_by (s.party to) refl a q

  -- a frame that was sent means that
  module _ (f : Frame) (t : ℕ) where
    acceptor_means : (l : List Slot) (e : s.party f.to ≡ acceptor l) (m : Message) → Means fixed s h f m → Acceptors.Heard fixed s h tie f.from f.to l e m
    acceptor_means l e (Message.ClientRequest id r) x = tt
    acceptor_means l e (Message.ClientResponse id r) x = tt
    acceptor_means l e (Message.SetAcceptAcceptors k) x = tt
    acceptor_means l e (Message.SetProposeAcceptors k) x = tt
    acceptor_means l e (Message.ProposeReq b k) x = x
    acceptor_means l e (Message.ProposeRes b a v r) x = tt
    acceptor_means l e (Message.AcceptReq b k v) x = x
    acceptor_means l e (Message.AcceptRes b r) x = tt

    proposer_means : (P : Proposer) (e : s.party f.to ≡ proposer P) (m : Message) → Means fixed s h f m → Steps.Heard fixed s h tie f.from f.to t P e m
    proposer_means P e (Message.ClientRequest id r) x = absurd x
    proposer_means P e (Message.ClientResponse id r) x = tt
    proposer_means P e (Message.SetAcceptAcceptors k) x = absurd x
    proposer_means P e (Message.SetProposeAcceptors k) x = absurd x
    proposer_means P e (Message.ProposeReq b k) x = tt
    proposer_means P e (Message.ProposeRes b a v Verdict.Granted) x = x
    proposer_means P e (Message.ProposeRes b a v (Verdict.Denied y)) x = tt
    proposer_means P e (Message.AcceptReq b k v) x = tt
    proposer_means P e (Message.AcceptRes b Verdict.Granted) x = x
    proposer_means P e (Message.AcceptRes b (Verdict.Denied y)) x = tt

    deliver_tied : In f s.frames → TiedPlant fixed (hear s f.from f.to t f.message)
    deliver_tied m = hear_tied f.from f.to t f.message (λ l e. acceptor_means l e f.message (tie.sent f m)) (λ P e. proposer_means P e f.message (tie.sent f m))

  tick_by_lem : (at t : ℕ) (P : Party) → s.party at ≡ P → TiedPlant fixed (ticking s at t P)
  unfolding ticking
  tick_by_lem at t (acceptor l) e = record { past = h; tied = tie }
  tick_by_lem at t (proposer P) e = proposer_ticks fixed s h tie at at t P e
  tick_by_lem at t client e = record { past = h; tied = tie }

  tick_tied : (at t : ℕ) → TiedPlant fixed (tick s at t)
  unfolding tick
  tick_tied at t = tick_by_lem at t (s.party at) refl

  -- one more arrival
  module _ (from at id : ℕ) (r : Request) where
    arrival_grows : Grows fixed s h (arriving s from at id r) h
    unfolding arriving
    arrival_grows = record { arrivals = λ _ m. Memᴰ.tail m; acceptances = λ _ m. m; grants = λ _ m. m; choices = λ _ m. m; uses = λ _ m. m }

    arrive_tied : Tied fixed (arriving s from at id r) h
    unfolding arriving
    arrive_tied = record {
      core = tie.core;
      proposers = λ p P e. proposer_grows fixed arrival_grows (λ _ m. m) (λ _ m. m) p P (tie.proposers p P e);
      sent = λ f m. means_grows fixed arrival_grows f f.message (tie.sent f m);
      arrived = λ u m. (Memᴰ.tail (tie.arrived u m).0, (tie.arrived u m).1);
      used_once = tie.used_once;
      grant_use = tie.grant_use;
      choice_use = tie.choice_use;
      numbered = all_cons {P = λ x. x.number < length (arriving s from at id r).arrivals} (omega arith) (λ x m. let low = tie.numbered x m in omega arith);
      number_once = pair_cons {P = λ x y. x.number ≡ y.number → x ≡ y} (λ _. refl) (λ x m e. let low = tie.numbered x m in absurd (omega arith)) (λ x m e. let low = tie.numbered x m in absurd (omega arith)) tie.number_once;
    }

    unserved : (u : Use) → In u h.uses → u.arrival.number ≡ length s.arrivals → ⊥
    unserved u m e = let low = tie.numbered u.arrival (tie.arrived u m).0 in omega arith

module _ (fixed : List ℕ) where
  request_tied : (s : Plant) (h : Past) → Tied fixed s h → (from at id : ℕ) (r : Request) (t : ℕ) → TiedPlant fixed (hear (arriving s from at id r) from at t (Message.ClientRequest id r))
  unfolding arriving
  request_tied s h tie from at id r t =
      let now = arrive_tied fixed s h tie from at id r in
      hear_tied fixed (arriving s from at id r) h now from at t (Message.ClientRequest id r) (λ l e. tt) (λ P e. record {
        arrival = record { number = length s.arrivals; client = from; at = at; id = id; request = r };
        came = Memᴰ.head refl;
        at = refl;
        its_client = refl;
        its_id = refl;
        its_request = refl;
        unserved = unserved fixed s h tie from at id r;
      })

  -- every plant of a run is tied to the core
  pub run_tied : (start : Plant) → Begins fixed start → {s : Plant} → Run fixed start s → TiedPlant fixed s
  run_tied start b begins = begin_tied fixed start b
  run_tied start b (delivers {s = s} run f m t) =
      let x = run_tied start b run in
      deliver_tied fixed s x.past x.tied f t m
  run_tied start b (requests {s = s} run from at id r t) =
      let x = run_tied start b run in
      request_tied s x.past x.tied from at id r t
  run_tied start b (sets_accept {s = s} run from at l same t) =
      let x = run_tied start b run in
      hear_tied fixed s x.past x.tied from at t (Message.SetAcceptAcceptors l) (λ k e. tt) (λ P e. same)
  run_tied start b (sets_propose {s = s} run from at l same t) =
      let x = run_tied start b run in
      hear_tied fixed s x.past x.tied from at t (Message.SetProposeAcceptors l) (λ k e. tt) (λ P e. same)
  run_tied start b (ticks {s = s} run at t) =
      let x = run_tied start b run in
      tick_tied fixed s x.past x.tied at t

  -- ---- the three clauses of a tied plant

  any_two_meet : (q r : List ℕ) → Majority fixed q → Majority fixed r → Common q r
  any_two_meet q r = majorities_meet (record { to = λ _ m. m; fro = λ _ m. m })

  has_member : (q : List ℕ) → Majority fixed q → Member q
  has_member q m = someone m

  module _ (s : Plant) (h : Past) (tie : Tied fixed s h) where
    -- a chain of choices is one of arrived requests
    by_requests : {k : Key} {b : Ballot} {v : Option Value} {b₁ : Ballot} {v₁ : Option Value} {ns : List ℕ} → Chain plant_order (Majority fixed) h.choices s.acceptances k b v b₁ v₁ ns → ByRequests s k b v b₁ v₁ ns
    by_requests here = unchanged
    by_requests {k = k} {b = b} {v = v} (next {b₁ = b₁} {v₁ = v₁} {ns = ns} ch c m ek lt eo ac) =
        let u = tie.choice_use c m in
        let x = u.its.arrival in
        let w = ac.it in
        let link : ByRequests s k b v w.ballot w.value (x.number ∷ ns) =
        by_request (by_requests ch) w ac.at ac.is.0 (ap (λ (y : Ballot). above y b₁) ac.is.1 ∙ lt) x (tie.arrived u.its u.used).0 (ap key_of u.request ∙ ek) (ac.is.2 ∙ ap (made c.request) eo ∙ ap (λ (y : Request). made y v₁) (sym u.request)) in
        subst (λ n. ByRequests s k b v c.ballot (chosen plant_order c) (n ∷ ns)) u.number (subst₂ (λ y z. ByRequests s k b v y z (x.number ∷ ns)) ac.is.1 ac.is.2 link)

    -- the choice that a majority accepted
    module _ (k : Key) (b : Ballot) (v : Option Value) (most : MajorityAccepted fixed s k b v) where
      its_choice : SomeOf h.choices (λ c. (valve plant_order c ≡ k) × (c.ballot ≡ b) × (chosen plant_order c ≡ v))
      its_choice =
          let x = someone most.majority in
          let w = most.all x.who x.there in
          let c = tie.core.asked w.it w.at in
          record { it = c.it; at = c.at; is = (c.is.0 ∙ w.is.1, c.is.1 ∙ w.is.2, c.is.2 ∙ w.is.3) }

      won : Won plant_order (Majority fixed) (core_of s h) its_choice.it
      won =
          let c = its_choice in
          record {
            chose = c.at;
            voters = most.voters;
            quorum = most.majority;
            all = λ a m.
                let w = most.all a m in
                record { it = w.it; at = w.at; is = (w.is.0, w.is.1 ∙ sym c.is.0, w.is.2 ∙ sym c.is.1, w.is.3 ∙ sym c.is.2) };
          }

      comes : (w : Acceptance plant_order) → In w s.acceptances → w.key ≡ k → above w.ballot b ≡ true → ComesOf s k b v w.ballot w.value
      comes w m ek lt =
          let c = its_choice in
          let u = tie.choice_use c.it c.at in
          let x = comes_of_lem plant_order (Majority fixed) any_two_meet has_member (core_of s h) tie.core c.it won w m (ek ∙ sym c.is.0) (ap (above w.ballot) c.is.1 ∙ lt) in
          let chain : ByRequests s (valve plant_order c.it) c.it.ballot (chosen plant_order c.it) w.ballot w.value x.arrivals = by_requests x.chain in
          record {
            own = u.its.arrival;
            own_arrived = (tie.arrived u.its u.used).0;
            own_key = ap key_of u.request ∙ c.is.0;
            old = c.it.old;
            own-made = sym c.is.2 ∙ ap (λ (y : Request). made y c.it.old) (sym u.request);
            numbers = x.arrivals;
            chain = subst (λ y. ByRequests s y b v w.ballot w.value x.arrivals) c.is.0 (subst₂ (λ y z. ByRequests s (valve plant_order c.it) y z w.ballot w.value x.arrivals) c.is.1 c.is.2 chain);
            used_once = one_more (λ n. x.fresh (Memᴰ.cast (sym u.number) n)) x.apart;
          }

    speaks : (f : Frame) → In f s.frames → (id : ℕ) (v : Option Value) (r : Reply) → Tells f id v r → Speaks fixed s f id v r
    speaks f m id v r (success e) = subst (Means fixed s h f) e (tie.sent f m)
    speaks f m id v r (failed_compare e) = subst (Means fixed s h f) e (tie.sent f m)

    tied_demand : Demand3 fixed s
    tied_demand = record {
      one_value = one_value_lem plant_order (Majority fixed) any_two_meet has_member (core_of s h) tie.core;
      comes_of = comes;
      speaks = speaks;
    }

    -- ---- tables

    -- what a table holds as accepted is fresh, or an acceptance at a ballot above 0
    pub data Logged (a : ℕ) (k : Key) (b : Ballot) (v : Option Value) : Type 0 where
      never : b ≡ ballot0 → v ≡ None → Logged a k b v
      accepted_there : (b ≡ ballot0 → ⊥) → AcceptedBy plant_order s.acceptances a k b v → Logged a k b v

    logged : (a : ℕ) (l : List Slot) → s.party a ≡ acceptor l → (k : Key) → Logged a k (register_for k l).accepted (register_for k l).value
    unfolding holds_of
    logged a l e k = subst (λ (P : Party). Logged a k (holds_of P k).accepted (holds_of P k).value) e (either (tie.core.held a k).origin (λ z. never z.0 z.1) (λ w. accepted_there (above0 w) w))
      where
        above0 : {b : Ballot} {v : Option Value} → AcceptedBy plant_order s.acceptances a k b v → b ≡ ballot0 → ⊥
        above0 w z =
            let c = tie.core.asked w.it w.at in
            let up = above_zero plant_order (Majority fixed) any_two_meet has_member (core_of s h) tie.core c.it c.at in
            plant_order.irreflexive ballot0 (subst (plant_order.Below ballot0) (c.is.1 ∙ w.is.2 ∙ z) up)

    same_values : (a c : ℕ) (k : Key) (b d : Ballot) (v u : Option Value) → Logged a k b v → Logged c k d u → b ≡ d → v ≡ u
    same_values a c k b d v u (never x y) (never z w) e = y ∙ sym w
    same_values a c k b d v u (never x y) (accepted_there z w) e = absurd (z (sym e ∙ x))
    same_values a c k b d v u (accepted_there x y) (never z w) e = absurd (x (e ∙ z))
    same_values a c k b d v u (accepted_there x y) (accepted_there z w) e = sym y.is.3 ∙ tied_demand.one_value y.it w.it y.at w.at (y.is.1 ∙ sym w.is.1) (y.is.2 ∙ e ∙ sym w.is.2) ∙ w.is.3

  -- demand 3, for every run of a plant that begins as the client says
  pub demand3 : (start : Plant) → Begins fixed start → {s : Plant} → Run fixed start s → Demand3 fixed s
  demand3 start b {s} run =
      let x = run_tied start b run in
      tied_demand s x.past x.tied

  -- two tables that hold a valve at one accepted ballot hold one value
  pub tables_agree : (start : Plant) → Begins fixed start → {s : Plant} → Run fixed start s → (a c : ℕ) (l m : List Slot) → s.party a ≡ acceptor l → s.party c ≡ acceptor m → (k : Key) → (register_for k l).accepted ≡ (register_for k m).accepted → (register_for k l).value ≡ (register_for k m).value
  tables_agree start b {s} run a c l m el em k e =
      let x = run_tied start b run in
      same_values s x.past x.tied a c k _ _ _ _ (logged s x.past x.tied a l el k) (logged s x.past x.tied c m em k) e

  -- "pending ballots are distinct and from 1 to the counter", as far as the counter
  pub ballots_apart : (start : Plant) → Begins fixed start → {s : Plant} → Run fixed start s → (p : ℕ) (P : Proposer) → s.party p ≡ proposer P → Apart P.places × ((q : Pending) → In (Some q) P.places → counter_of q.ballot ≤ P.counter)
  ballots_apart start b {s} run p P e =
      let x = (run_tied start b run).tied.proposers p P e in (
        x.apart,
        λ q m.
            let o = x.pending q m in
            subst (λ (y : Ballot). counter_of y ≤ P.counter) o.ballot (x.counted o.its o.used o.by),
      )
