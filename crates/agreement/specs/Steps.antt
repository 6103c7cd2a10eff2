-- Each thing that a proposer does with a message or a tick keeps the plant tied to the core.
-- Assumes nothing.
use Rattle.std.specs.Prelude.{◌≡◌, refl, Bool, cond, ℕ, ◌+◌, ◌≤◌}
use Rattle.std.proofs.Common.{sym, ◌∙◌, arith}
use Rattle.std.proofs.Math.Path.{ap, subst}
use Rattle.std.proofs.Math.Logic.{inl, inr}
use Rattle.std.proofs.Math.Bool.{true, false}
use mathlib.Core.List.Memᴰ
use mathlib.Core.List.{List, [], ◌∷◌}
use Rattle.std.specs.Prelude.{Option, Some}
use Rattle.std.proofs.Math.Nat.{le-max_left}
use Rattle.messages.specs.declared.Ballot.{Ballot}
use Rattle.messages.specs.declared.answer.Refusal.{Refusal}
use Rattle.messages.specs.Ballots.{above}
use Rattle.messages.specs.Message.{Value, Request, Failure, Verdict, Reply, Message}
use Rattle.messages.specs.Refusals.{test, first_due}
use Rattle.messages.specs.Answers.{nothing, refused}
use Rattle.proposer_rules.specs.State.{Propose, Accept, Pending, Proposer, key_of, with_no, with_yes}
use Rattle.proposer_rules.specs.Rules.{reached, next_ballot, raised, reply_of, applied, replace_at, take_place, Outcome, outcome, unless, to_each, all_timeouts, moved, asked, proposals, to_client, promised_by, to_accept, receive, clock_back, in_time, late_ones, rows_of, tick}
use Rattle.agreement.specs.Members.{either, In, SomeOf, all_cons}
use Rattle.agreement.specs.Order.{plant_order}
use Rattle.agreement.specs.Majority.{SameSet}
use Rattle.agreement.specs.Core.{chosen, valve, AcceptedBy}
use Rattle.agreement.specs.Plant.{proposer, Frame, Arrival, Plant, address, sent_by, proposer_does}
use Rattle.agreement.specs.Outcomes.{Waiting, ProposerDoes, keeps_silent, refuses, proposes, lists_accept, lists_propose, notes_promise, accepts, notes_rejection, retries, gives_up, notes_acceptance, succeeds, notes_no, fails, proposer_does_lem}
use Rattle.agreement.specs.Places.{some_same, in_replaced, apart_replaced, in_taken, apart_taken, in_time_lem, apart_in_time}
use Rattle.agreement.specs.Link.{Use, Past, Means, PendingOk, ProposerOk, Tied}
use Rattle.agreement.specs.Acceptors.{TiedPlant}
use Rattle.agreement.specs.Proposers.{to_rows_lem, its_ok, core_stays, dropped_ok, noted_ok, was, its_stage, no_ok, promised_ok, accepted_ok, told}
use Rattle.agreement.specs.Phases.{one_pending, no_choice, chosen_tied, unused, asked_tied}

raised_more : (c : ℕ) (last : Ballot) → c ≤ raised c last
raised_more c last = le-max_left c last.0

module _ (fixed : List ℕ) (s : Plant) (h : Past) (tie : Tied fixed s h) (from p t : ℕ) (P : Proposer) (here : s.party p ≡ proposer P) where
  abbrev Done : Outcome → Type 0
  Done o = TiedPlant fixed (proposer_does s p o)

  abbrev ok : ProposerOk fixed s h p P
  ok = its_ok fixed s h tie p P here

  no_frame : (f : Frame) → In f [] → Means fixed s h f f.message
  no_frame f m = absurd (Memᴰ.not-nil m)

  only_frame : (f : Frame) → Means fixed s h f f.message → (g : Frame) → In g (f ∷ []) → Means fixed s h g g.message
  only_frame f x = all_cons {P = λ g. Means fixed s h g g.message} x no_frame

  -- the core stays, and nothing is sent
  silently : (P' : Proposer) → ProposerOk fixed s h p P' → Done (outcome P' nothing)
  unfolding proposer_does sent_by
  silently P' x = record { past = h; tied = core_stays fixed s h tie p P here P' [] x no_frame }

  refusing : (r : Refusal) → Done (outcome P (refused r))
  unfolding proposer_does sent_by
  refusing r = record { past = h; tied = core_stays fixed s h tie p P here P [] ok no_frame }

  -- the core stays, and a client is told
  telling : (P' : Proposer) (q : Pending) (r : Reply) → ProposerOk fixed s h p P' → Means fixed s h (record { from = p; to = q.client.0; message = Message.ClientResponse q.id r }) (Message.ClientResponse q.id r) → Done (outcome P' (to_client q r))
  unfolding proposer_does sent_by
  telling P' q r x m = record { past = h; tied = core_stays fixed s h tie p P here P' _ x (only_frame _ m) }

  -- ---- a request that has just arrived

  pub record Fresh (id : ℕ) (r : Request) : Type 0 where
    pub arrival : Arrival
    pub came : In arrival s.arrivals
    pub at : arrival.at ≡ p
    pub its_client : arrival.client ≡ from
    pub its_id : arrival.id ≡ id
    pub its_request : arrival.request ≡ r
    pub unserved : (u : Use) → In u h.uses → u.arrival.number ≡ arrival.number → ⊥

  -- no pending request is at the ballot after counter c
  none_at : (c : ℕ) → P.counter ≤ c → (y : Pending) → In (Some y) P.places → y.ballot ≡ next_ballot c → ⊥
  none_at c more y m e =
      let o = ok.pending y m in
      unused fixed s h tie p P here c more o.its o.used o.by (o.ballot ∙ e)

  requested : (id : ℕ) (r : Request) → Fresh id r → Done (outcome (moved P (P.counter + 1) (take_place (asked P P.counter (address from) id r t false) P.places)) (proposals P P.counter r))
  unfolding proposer_does
  requested id r x =
      let q = asked P P.counter (address from) id r t false in
      record {
        past = _;
        tied = asked_tied fixed s h tie p P here P.counter (omega arith) x.arrival x.came x.at (address from) id r t false x.its_client x.its_id x.its_request (take_place q P.places)
            (apart_taken q P.places ok.apart (none_at P.counter (omega arith)))
            (λ y m. either (in_taken q P.places y m) (λ e. inl e) (λ n. inr (n, λ o e. x.unserved o.its o.used e)))
            (λ d m e. let u = tie.choice_use d m in x.unserved u.its u.used (u.number ∙ e));
      }

  -- ---- a retry

  retried : (b last : Ballot) (q : Pending) → Waiting P (address from) t b Propose q → Done (outcome (moved P (raised P.counter last + 1) (replace_at q.ballot (Some (asked P (raised P.counter last) q.client q.id q.req q.received_at true)) P.places)) (proposals P (raised P.counter last) q.req))
  unfolding proposer_does
  retried b last q w =
      let c = raised P.counter last in
      let more = raised_more P.counter last in
      let again = asked P c q.client q.id q.req q.received_at true in
      let o = was fixed s h tie p P here from t b Propose q w in
      let first = its_stage fixed s h tie p P here from t b Propose q w in
      let a = tie.arrived o.its o.used in
      record {
        past = _;
        tied = asked_tied fixed s h tie p P here c more o.its.arrival a.0 (a.1 ∙ o.by) q.client q.id q.req q.received_at true o.client o.id o.request (replace_at q.ballot (Some again) P.places)
            (apart_replaced q.ballot (Some again) P.places ok.apart (λ x e y m ne d. none_at c more y m (d ∙ ap (λ (z : Pending). z.ballot) (sym (some_same e)))))
            (λ y m. either (in_replaced q.ballot (Some again) P.places ok.apart y m) (λ e. inl (sym (some_same e))) (λ r. inr (r.0, λ u e. r.1 (one_pending fixed s h tie p p q y o u e).1)))
            (no_choice fixed s h tie p q o first);
      }

  -- ---- a majority of promises

  promised_phase : (q : Pending) (a : Ballot) (v : Option Value) → (promised_by q (address from) a v).phase ≡ q.phase
  promised_phase q a v = go (above a q.promised)
    where
      go : (k : Bool) → (cond k (with_yes q (address from) a v) (with_yes q (address from) q.promised q.value)).phase ≡ q.phase
      go true = refl
      go false = refl

  abbrev Granted : Ballot → Ballot → Option Value → Type 0
  Granted b a v = SomeOf h.grants (λ g. (g.who ≡ from) × (g.to ≡ p) × (g.ballot ≡ b) × (g.had ≡ a) × (g.value ≡ v))

  abbrev Agreed : Ballot → Type 0
  Agreed b = SomeOf h.choices (λ c. (c.by ≡ p) × (c.ballot ≡ b) × AcceptedBy plant_order s.acceptances from (valve plant_order c) b (chosen plant_order c))

  elected : (b a : Ballot) (v : Option Value) (q : Pending) (w : Waiting P (address from) t b Propose q) → Granted b a v → (n : Pending) → promised_by q (address from) a v ≡ n → reached n.acks_from n.waiting_for ≡ true → Done (outcome (moved P P.counter (replace_at n.ballot (Some (to_accept P n)) P.places)) (to_each P.accept_acceptors (Message.AcceptReq n.ballot (key_of n.req) (applied n.req n.value).value)))
  unfolding proposer_does
  elected b a v q w g n e enough =
      let good : PendingOk fixed s h p n = subst (PendingOk fixed s h p) e (promised_ok fixed s h tie p P here from t b a v q w g) in
      let first : n.phase ≡ Propose = ap (λ (x : Pending). x.phase) (sym e) ∙ promised_phase q a v ∙ w.phase in
      record { past = _; tied = chosen_tied fixed s h tie p P here n good first enough }

  -- ---- by what the proposer does

  -- what a message must mean that a proposer takes
  abbrev pub Heard : Message → Type 0
  Heard (Message.ClientRequest id r) = Fresh id r
  Heard (Message.ClientResponse id r) = Unit {0}
  Heard (Message.SetAcceptAcceptors l) = SameSet fixed l
  Heard (Message.SetProposeAcceptors l) = SameSet fixed l
  Heard (Message.ProposeReq b k) = Unit {0}
  Heard (Message.ProposeRes b a v Verdict.Granted) = Granted b a v
  Heard (Message.ProposeRes b a v (Verdict.Denied e)) = Unit {0}
  Heard (Message.AcceptReq b k v) = Unit {0}
  Heard (Message.AcceptRes b Verdict.Granted) = Agreed b
  Heard (Message.AcceptRes b (Verdict.Denied e)) = Unit {0}

  step : (m : Message) (o : Outcome) → ProposerDoes P (address from) t m o → Heard m → Done o
  step m o keeps_silent x = silently P ok
  step m o (refuses r) x = refusing r
  step m o (proposes id r) x = requested id r x
  step m o (lists_accept l) x = silently _ (record { accept_set = x; propose_set = ok.propose_set; counted = ok.counted; apart = ok.apart; pending = ok.pending })
  step m o (lists_propose l) x = silently _ (record { accept_set = ok.accept_set; propose_set = x; counted = ok.counted; apart = ok.apart; pending = ok.pending })
  step m o (notes_promise {b = b} {a = a} {v = v} q w) x = silently _ (noted_ok fixed s h tie p P here P.counter (promised_by q (address from) a v) (omega arith) (promised_ok fixed s h tie p P here from t b a v q w x))
  step m o (accepts {b = b} {a = a} {v = v} q w enough) x = elected b a v q w x (promised_by q (address from) a v) refl enough
  step m o (notes_rejection {b = b} {last = last} q w) x = silently _ (noted_ok fixed s h tie p P here (raised P.counter last) (with_no q (address from)) (raised_more P.counter last) (no_ok fixed s h tie p P here from t b Propose q w))
  step m o (retries {b = b} {last = last} q w) x = retried b last q w
  step m o (gives_up {last = last} q w) x = telling _ q (Reply.Failed (Failure.ProposalRejected last)) (dropped_ok fixed s h tie p P here (raised P.counter last) q.ballot (raised_more P.counter last)) tt
  step m o (notes_acceptance {b = b} q w) x = silently _ (noted_ok fixed s h tie p P here P.counter (with_yes q (address from) q.promised q.value) (omega arith) (accepted_ok fixed s h tie p P here from t b q w x))
  step m o (succeeds {b = b} q w enough) x = telling _ q (reply_of q.req q.value) (dropped_ok fixed s h tie p P here P.counter q.ballot (omega arith)) (told fixed s h tie p P here from t b q w x enough)
  step m o (notes_no {b = b} {last = last} q w) x = silently _ (noted_ok fixed s h tie p P here (raised P.counter last) (with_no q (address from)) (raised_more P.counter last) (no_ok fixed s h tie p P here from t b Accept q w))
  step m o (fails {last = last} q w) x = telling _ q (Reply.Failed (Failure.AcceptRejected last)) (dropped_ok fixed s h tie p P here (raised P.counter last) q.ballot (raised_more P.counter last)) tt

  pub proposer_hears : (m : Message) → Heard m → Done (receive P (address from) t m)
  proposer_hears m x = step m (receive P (address from) t m) (proposer_does_lem P (address from) t m) x

  -- ---- a tick

  in_time_ok : ProposerOk fixed s h p (moved P P.counter (in_time P t P.places))
  in_time_ok = record {
    accept_set = ok.accept_set;
    propose_set = ok.propose_set;
    counted = ok.counted;
    apart = apart_in_time P t P.places ok.apart;
    pending = λ q m. ok.pending q (in_time_lem P t P.places q m);
  }

  ticking : (k : Bool) → Done (unless (first_due (test k Refusal.ClockBack ∷ [])) P (outcome (moved P P.counter (in_time P t P.places)) (all_timeouts (rows_of (late_ones P t P.places)))))
  unfolding proposer_does
  ticking true = refusing Refusal.ClockBack
  ticking false = record { past = h; tied = core_stays fixed s h tie p P here _ _ in_time_ok (to_rows_lem (λ f. Means fixed s h f f.message) p (rows_of (late_ones P t P.places)) (λ a id. tt)) }

  pub proposer_ticks : Done (tick P t)
  unfolding tick
  proposer_ticks = ticking (clock_back t P.places)
