-- What a proposer may do with a message, by cases, and that its rules do one of these.
-- Assumes nothing.
use Rattle.std.specs.Prelude.{◌≡◌, refl, Bool, true, false, not, cond, ◌||◌, List, [], ◌∷◌, ℕ, ◌+◌}
use Rattle.std.specs.Prelude.{Option, None, Some}
use Rattle.messages.specs.declared.Address.{Address}
use Rattle.messages.specs.declared.Ballot.{Ballot}
use Rattle.messages.specs.declared.answer.Refusal.{Refusal}
use Rattle.messages.specs.Message.{Value, Request, Failure, Verdict, Reply, Message}
use Rattle.messages.specs.Limits.{within_limits}
use Rattle.messages.specs.Refusals.{test, first_due}
use Rattle.messages.specs.Answers.{nothing, refused}
use Rattle.proposer_rules.specs.State.{Phase, Propose, Accept, Pending, Proposer, listed, key_of, with_no, with_yes}
use Rattle.proposer_rules.specs.Rules.{reached, raised, used_up, applied, reply_of, pending_at, replace_at, no_place, take_place, Outcome, outcome, unless, to_each, moved, asked, proposals, to_client, promised_by, to_accept, foreign_promise, promise_above, no_ballot, promise_work, in_first, on_promise, first_phase, foreign_acceptance, acceptance_work, on_acceptance, foreign, with_lists, work, receive}

module _ (s : Proposer) (from : Address) (at : ℕ) where
  -- a pending request of a ballot and phase that waits for the sender and has no answer of it
  pub record Waiting (b : Ballot) (f : Phase) (p : Pending) : Type 0 where
    pub found : pending_at b s.places ≡ Some p
    pub phase : p.phase ≡ f
    pub silent : listed from.0 p.acks_from ≡ false
    pub waited : listed from.0 p.waiting_for ≡ true

  -- the request at its ballot becomes another, or is dropped, and the counter becomes c
  abbrev pub replaced : ℕ → Ballot → Option Pending → Proposer
  replaced c b o = moved s c (replace_at b o s.places)

  pub data ProposerDoes : Message → Outcome → Type 0 where
    keeps_silent : {m : Message} → ProposerDoes m (outcome s nothing)
    refuses : {m : Message} (r : Refusal) → ProposerDoes m (outcome s (refused r))
    proposes : (id : ℕ) (r : Request) → ProposerDoes (Message.ClientRequest id r) (outcome (moved s (s.counter + 1) (take_place (asked s s.counter from id r at false) s.places)) (proposals s s.counter r))
    lists_accept : (l : List ℕ) → ProposerDoes (Message.SetAcceptAcceptors l) (outcome (with_lists s l s.propose_acceptors) nothing)
    lists_propose : (l : List ℕ) → ProposerDoes (Message.SetProposeAcceptors l) (outcome (with_lists s s.accept_acceptors l) nothing)
    notes_promise : {b a : Ballot} {v : Option Value} (p : Pending) → Waiting b Propose p → ProposerDoes (Message.ProposeRes b a v Verdict.Granted) (outcome (replaced s.counter (promised_by p from a v).ballot (Some (promised_by p from a v))) nothing)
    accepts : {b a : Ballot} {v : Option Value} (p : Pending) → Waiting b Propose p → reached (promised_by p from a v).acks_from (promised_by p from a v).waiting_for ≡ true → ProposerDoes (Message.ProposeRes b a v Verdict.Granted) (outcome (replaced s.counter (promised_by p from a v).ballot (Some (to_accept s (promised_by p from a v)))) (to_each s.accept_acceptors (Message.AcceptReq (promised_by p from a v).ballot (key_of (promised_by p from a v).req) (applied (promised_by p from a v).req (promised_by p from a v).value).value)))
    notes_rejection : {b a : Ballot} {v : Option Value} {last : Ballot} (p : Pending) → Waiting b Propose p → ProposerDoes (Message.ProposeRes b a v (Verdict.Denied (Failure.ProposalRejected last))) (outcome (replaced (raised s.counter last) p.ballot (Some (with_no p from))) nothing)
    retries : {b a : Ballot} {v : Option Value} {last : Ballot} (p : Pending) → Waiting b Propose p → ProposerDoes (Message.ProposeRes b a v (Verdict.Denied (Failure.ProposalRejected last))) (outcome (replaced (raised s.counter last + 1) p.ballot (Some (asked s (raised s.counter last) p.client p.id p.req p.received_at true))) (proposals s (raised s.counter last) p.req))
    gives_up : {b a : Ballot} {v : Option Value} {last : Ballot} (p : Pending) → Waiting b Propose p → ProposerDoes (Message.ProposeRes b a v (Verdict.Denied (Failure.ProposalRejected last))) (outcome (replaced (raised s.counter last) p.ballot None) (to_client p (Reply.Failed (Failure.ProposalRejected last))))
    notes_acceptance : {b : Ballot} (p : Pending) → Waiting b Accept p → ProposerDoes (Message.AcceptRes b Verdict.Granted) (outcome (replaced s.counter p.ballot (Some (with_yes p from p.promised p.value))) nothing)
    succeeds : {b : Ballot} (p : Pending) → Waiting b Accept p → reached (with_yes p from p.promised p.value).acks_from p.waiting_for ≡ true → ProposerDoes (Message.AcceptRes b Verdict.Granted) (outcome (replaced s.counter p.ballot None) (to_client p (reply_of p.req p.value)))
    notes_no : {b : Ballot} {last : Ballot} (p : Pending) → Waiting b Accept p → ProposerDoes (Message.AcceptRes b (Verdict.Denied (Failure.AcceptRejected last))) (outcome (replaced (raised s.counter last) p.ballot (Some (with_no p from))) nothing)
    fails : {b : Ballot} {last : Ballot} (p : Pending) → Waiting b Accept p → ProposerDoes (Message.AcceptRes b (Verdict.Denied (Failure.AcceptRejected last))) (outcome (replaced (raised s.counter last) p.ballot None) (to_client p (Reply.Failed (Failure.AcceptRejected last))))

  -- ---- ClientRequest

  does_request : (id : ℕ) (r : Request) (u n : Bool) → ProposerDoes (Message.ClientRequest id r) (unless (first_due (test u Refusal.CounterUsedUp ∷ test n Refusal.NoRoom ∷ [])) s (outcome (moved s (s.counter + 1) (take_place (asked s s.counter from id r at false) s.places)) (proposals s s.counter r)))
  does_request id r true n = refuses Refusal.CounterUsedUp
  does_request id r false true = refuses Refusal.NoRoom
  does_request id r false false = proposes id r

  -- ---- ProposeRes

  module _ (b a : Ballot) (v : Option Value) (p : Pending) where
    does_granted : Waiting b Propose p → (h : Bool) → reached (promised_by p from a v).acks_from (promised_by p from a v).waiting_for ≡ h → ProposerDoes (Message.ProposeRes b a v Verdict.Granted) (cond h (outcome (replaced s.counter (promised_by p from a v).ballot (Some (to_accept s (promised_by p from a v)))) (to_each s.accept_acceptors (Message.AcceptReq (promised_by p from a v).ballot (key_of (promised_by p from a v).req) (applied (promised_by p from a v).req (promised_by p from a v).value).value))) (outcome (replaced s.counter (promised_by p from a v).ballot (Some (promised_by p from a v))) nothing))
    does_granted w true e = accepts p w e
    does_granted w false e = notes_promise p w

    does_rejected : (last : Ballot) → Waiting b Propose p → (h r : Bool) → ProposerDoes (Message.ProposeRes b a v (Verdict.Denied (Failure.ProposalRejected last))) (cond h (cond r (outcome (replaced (raised s.counter last) p.ballot None) (to_client p (Reply.Failed (Failure.ProposalRejected last)))) (outcome (replaced (raised s.counter last + 1) p.ballot (Some (asked s (raised s.counter last) p.client p.id p.req p.received_at true))) (proposals s (raised s.counter last) p.req))) (outcome (replaced (raised s.counter last) p.ballot (Some (with_no p from))) nothing))
    does_rejected last w true true = gives_up p w
    does_rejected last w true false = retries p w
    does_rejected last w false r = notes_rejection p w

    does_promise_work : Waiting b Propose p → (res : Verdict) → ProposerDoes (Message.ProposeRes b a v res) (promise_work s p from a v res)
    does_promise_work w Verdict.Granted = does_granted w (reached (promised_by p from a v).acks_from (promised_by p from a v).waiting_for) refl
    does_promise_work w (Verdict.Denied (Failure.ProposalRejected last)) = does_rejected last w (reached (with_no p from).nacks_from p.waiting_for) p.retried
    does_promise_work w (Verdict.Denied (Failure.AcceptRejected last)) = keeps_silent
    does_promise_work w (Verdict.Denied (Failure.CasFailed u)) = keeps_silent
    does_promise_work w (Verdict.Denied Failure.Timeout) = keeps_silent

    does_promise_tests : (res : Verdict) → pending_at b s.places ≡ Some p → p.phase ≡ Propose → (y n w f h c : Bool) → listed from.0 p.acks_from ≡ y → listed from.0 p.waiting_for ≡ w → ProposerDoes (Message.ProposeRes b a v res) (unless (first_due (test (y || n) Refusal.Repeated ∷ test (not w) Refusal.NotWaitedFor ∷ test f Refusal.ForeignError ∷ test h Refusal.PromisedAbove ∷ test c Refusal.CounterUsedUp ∷ [])) s (promise_work s p from a v res))
    does_promise_tests res e ph true n w f h c ey ew = refuses Refusal.Repeated
    does_promise_tests res e ph false true w f h c ey ew = refuses Refusal.Repeated
    does_promise_tests res e ph false false false f h c ey ew = refuses Refusal.NotWaitedFor
    does_promise_tests res e ph false false true true h c ey ew = refuses Refusal.ForeignError
    does_promise_tests res e ph false false true false true c ey ew = refuses Refusal.PromisedAbove
    does_promise_tests res e ph false false true false false true ey ew = refuses Refusal.CounterUsedUp
    does_promise_tests res e ph false false true false false false ey ew = does_promise_work (record { found = e; phase = ph; silent = ey; waited = ew }) res

    does_first : (res : Verdict) → pending_at b s.places ≡ Some p → (f : Phase) → p.phase ≡ f → ProposerDoes (Message.ProposeRes b a v res) (in_first s p f from a v res)
    does_first res e Accept ph = keeps_silent
    does_first res e Propose ph = does_promise_tests res e ph (listed from.0 p.acks_from) (listed from.0 p.nacks_from) (listed from.0 p.waiting_for) (foreign_promise res) (promise_above p res) (no_ballot s p from res) refl refl

  does_promise : (b a : Ballot) (v : Option Value) (res : Verdict) (o : Option Pending) → pending_at b s.places ≡ o → ProposerDoes (Message.ProposeRes b a v res) (on_promise s o from a v res)
  does_promise b a v res None e = keeps_silent
  does_promise b a v res (Some p) e = does_first b a v p res e p.phase refl

  -- ---- AcceptRes

  module _ (b : Ballot) (p : Pending) where
    does_taken : Waiting b Accept p → (h : Bool) → reached (with_yes p from p.promised p.value).acks_from p.waiting_for ≡ h → ProposerDoes (Message.AcceptRes b Verdict.Granted) (cond h (outcome (replaced s.counter p.ballot None) (to_client p (reply_of p.req p.value))) (outcome (replaced s.counter p.ballot (Some (with_yes p from p.promised p.value))) nothing))
    does_taken w true e = succeeds p w e
    does_taken w false e = notes_acceptance p w

    does_turned_down : (last : Ballot) → Waiting b Accept p → (h : Bool) → ProposerDoes (Message.AcceptRes b (Verdict.Denied (Failure.AcceptRejected last))) (cond h (outcome (replaced (raised s.counter last) p.ballot None) (to_client p (Reply.Failed (Failure.AcceptRejected last)))) (outcome (replaced (raised s.counter last) p.ballot (Some (with_no p from))) nothing))
    does_turned_down last w true = fails p w
    does_turned_down last w false = notes_no p w

    does_acceptance_work : Waiting b Accept p → (res : Verdict) → ProposerDoes (Message.AcceptRes b res) (acceptance_work s p from res)
    does_acceptance_work w Verdict.Granted = does_taken w (reached (with_yes p from p.promised p.value).acks_from p.waiting_for) refl
    does_acceptance_work w (Verdict.Denied (Failure.ProposalRejected last)) = keeps_silent
    does_acceptance_work w (Verdict.Denied (Failure.AcceptRejected last)) = does_turned_down last w (reached (with_no p from).nacks_from p.waiting_for)
    does_acceptance_work w (Verdict.Denied (Failure.CasFailed u)) = keeps_silent
    does_acceptance_work w (Verdict.Denied Failure.Timeout) = keeps_silent

    does_acceptance_tests : (res : Verdict) → pending_at b s.places ≡ Some p → (ph : Phase) → p.phase ≡ ph → (y n w f : Bool) → listed from.0 p.acks_from ≡ y → listed from.0 p.waiting_for ≡ w → ProposerDoes (Message.AcceptRes b res) (unless (first_due (test (first_phase ph) Refusal.FirstPhase ∷ test (y || n) Refusal.Repeated ∷ test (not w) Refusal.NotWaitedFor ∷ test f Refusal.ForeignError ∷ [])) s (acceptance_work s p from res))
    does_acceptance_tests res e Propose ph y n w f ey ew = refuses Refusal.FirstPhase
    does_acceptance_tests res e Accept ph true n w f ey ew = refuses Refusal.Repeated
    does_acceptance_tests res e Accept ph false true w f ey ew = refuses Refusal.Repeated
    does_acceptance_tests res e Accept ph false false false f ey ew = refuses Refusal.NotWaitedFor
    does_acceptance_tests res e Accept ph false false true true ey ew = refuses Refusal.ForeignError
    does_acceptance_tests res e Accept ph false false true false ey ew = does_acceptance_work (record { found = e; phase = ph; silent = ey; waited = ew }) res

  does_acceptance : (b : Ballot) (res : Verdict) (o : Option Pending) → pending_at b s.places ≡ o → ProposerDoes (Message.AcceptRes b res) (on_acceptance s o from res)
  does_acceptance b res None e = keeps_silent
  does_acceptance b res (Some p) e = does_acceptance_tests b p res e p.phase refl (listed from.0 p.acks_from) (listed from.0 p.nacks_from) (listed from.0 p.waiting_for) (foreign_acceptance res) refl refl

  -- ---- any message

  does_work : (m : Message) → ProposerDoes m (work s from at m)
  does_work (Message.ClientRequest id r) = does_request id r (used_up s.counter) (no_place s.places)
  does_work (Message.ClientResponse id r) = keeps_silent
  does_work (Message.SetAcceptAcceptors l) = lists_accept l
  does_work (Message.SetProposeAcceptors l) = lists_propose l
  does_work (Message.ProposeReq b k) = keeps_silent
  does_work (Message.ProposeRes b a v r) = does_promise b a v r (pending_at b s.places) refl
  does_work (Message.AcceptReq b k v) = keeps_silent
  does_work (Message.AcceptRes b r) = does_acceptance b r (pending_at b s.places) refl

  does_tests : (m : Message) (f l : Bool) → ProposerDoes m (unless (first_due (test f Refusal.WrongKind ∷ test l Refusal.OverLimit ∷ [])) s (work s from at m))
  does_tests m true l = refuses Refusal.WrongKind
  does_tests m false true = refuses Refusal.OverLimit
  does_tests m false false = does_work m

  pub proposer_does_lem : (m : Message) → ProposerDoes m (receive s from at m)
  unfolding receive
  proposer_does_lem m = does_tests m (foreign m) (not (within_limits from m))
