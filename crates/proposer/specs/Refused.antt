-- "Each sends nothing and leaves state": where a message or a tick is refused, the state is the one before.
-- Assumes nothing.
use Rattle.std.specs.Prelude.{◌≡◌, refl, Bool, true, false, cond, List, [], ◌∷◌, ℕ, ◌+◌}
use Rattle.std.specs.Prelude.{Option, None, Some}
use Rattle.std.proofs.Common.{arith}
use Rattle.messages.specs.declared.Address.{Address}
use Rattle.messages.specs.declared.Ballot.{Ballot}
use Rattle.messages.specs.declared.answer.Refusal.{Refusal}
use Rattle.messages.specs.Message.{Value, Failure, Verdict, Reply, Message}
use Rattle.messages.specs.Refusals.{test, first_due}
use Rattle.messages.specs.Answers.{Row, nothing, one, refused}
use Rattle.proposer_rules.specs.State.{Phase, Propose, Accept, Pending, Proposer, key_of, with_no, with_yes}
use Rattle.proposer_rules.specs.Rules.{Outcome, outcome, unless, to_each, all_timeouts, applied, reply_of, next_ballot, reached, raised, asked, with_lists, promised_by, to_accept, pending_at, replace_at, take_place, message_tests, promise_tests, acceptance_tests, request_tests, rejected, granted, promise_work, in_first, on_promise, turned_down, taken, acceptance_work, on_acceptance, work, receive, clock_back, in_time, late_ones, rows_of, moved, tick}

-- a refused outcome keeps the state
pub record Keeps (s : Proposer) (o : Outcome) : Type 0 where
  pub keeps : (r : Refusal) → o.told ≡ refused r → o.state ≡ s

-- ---- answers that are no refusals

nothing_told : (s s' : Proposer) → Keeps s (outcome s' nothing)
nothing_told s s' = record { keeps = λ r e. let z : ◌≡◌ {A = ℕ} 0 1 = cc in absurd (omega arith) }

one_told : (s s' : Proposer) (to : Address) (m : Message) → Keeps s (outcome s' (one to m))
one_told s s' to m = record { keeps = λ r e. let z : ◌≡◌ {A = ℕ} 0 1 = cc in absurd (omega arith) }

each_told : (s s' : Proposer) (l : List ℕ) (m : Message) → Keeps s (outcome s' (to_each l m))
each_told s s' [] m = nothing_told s s'
each_told s s' (x ∷ l) m = record { keeps = λ r e. let z : ◌≡◌ {A = ℕ} 0 1 = cc in absurd (omega arith) }

rows_told : (s s' : Proposer) (l : List Row) → Keeps s (outcome s' (all_timeouts l))
rows_told s s' [] = nothing_told s s'
rows_told s s' (x ∷ l) = record { keeps = λ r e. let z : ◌≡◌ {A = ℕ} 0 1 = cc in absurd (omega arith) }

-- ---- choices

unless_keeps : (s : Proposer) (t : Option Refusal) (o : Outcome) → Keeps s o → Keeps s (unless t s o)
unless_keeps s None o h = h
unless_keeps s (Some r) o h = record { keeps = λ x e. refl }

cond_keeps : (s : Proposer) (t : Bool) (o o' : Outcome) → Keeps s o → Keeps s o' → Keeps s (cond t o o')
cond_keeps s true o o' h h' = h
cond_keeps s false o o' h h' = h'

-- ---- the works

module _ (s : Proposer) where
  -- the state with another counter and other content of a request's place
  abbrev after : ℕ → Pending → Option Pending → Proposer
  after c p q = moved s c (replace_at p.ballot q s.places)

  granted_keeps : (p : Pending) → Keeps s (granted s p)
  granted_keeps p =
      cond_keeps s (reached p.acks_from p.waiting_for)
      (outcome (after s.counter p (Some (to_accept s p))) (to_each s.accept_acceptors (Message.AcceptReq p.ballot (key_of p.req) (applied p.req p.value).value)))
      (outcome (after s.counter p (Some p)) nothing)
      (each_told s (after s.counter p (Some (to_accept s p))) s.accept_acceptors (Message.AcceptReq p.ballot (key_of p.req) (applied p.req p.value).value))
      (nothing_told s (after s.counter p (Some p)))

  rejected_keeps : (p : Pending) (from : Address) (last : Ballot) → Keeps s (rejected s p from last)
  rejected_keeps p from last =
      let c = raised s.counter last in
      let retry : Proposer = after (c + 1) p (Some (asked s c p.client p.id p.req p.received_at true)) in
      let failure : Message = Message.ClientResponse p.id (Reply.Failed (Failure.ProposalRejected last)) in
      let asking : Message = Message.ProposeReq (next_ballot c) (key_of p.req) in
      let noted : Proposer = after c p (Some (with_no p from)) in
      cond_keeps s (reached (with_no p from).nacks_from p.waiting_for)
      (cond p.retried (outcome (after c p None) (one p.client failure)) (outcome retry (to_each s.propose_acceptors asking)))
      (outcome noted nothing)
      (cond_keeps s p.retried (outcome (after c p None) (one p.client failure)) (outcome retry (to_each s.propose_acceptors asking))
      (one_told s (after c p None) p.client failure)
      (each_told s retry s.propose_acceptors asking))
      (nothing_told s noted)

  taken_keeps : (p : Pending) → Keeps s (taken s p)
  taken_keeps p =
      let reply : Message = Message.ClientResponse p.id (reply_of p.req p.value) in
      cond_keeps s (reached p.acks_from p.waiting_for)
      (outcome (after s.counter p None) (one p.client reply))
      (outcome (after s.counter p (Some p)) nothing)
      (one_told s (after s.counter p None) p.client reply)
      (nothing_told s (after s.counter p (Some p)))

  turned_keeps : (p : Pending) (from : Address) (last : Ballot) → Keeps s (turned_down s p from last)
  turned_keeps p from last =
      let c = raised s.counter last in
      let failure : Message = Message.ClientResponse p.id (Reply.Failed (Failure.AcceptRejected last)) in
      let noted : Proposer = after c p (Some (with_no p from)) in
      cond_keeps s (reached (with_no p from).nacks_from p.waiting_for)
      (outcome (after c p None) (one p.client failure))
      (outcome noted nothing)
      (one_told s (after c p None) p.client failure)
      (nothing_told s noted)

promise_keeps : (s : Proposer) (p : Pending) (from : Address) (b : Ballot) (v : Option Value) (res : Verdict) → Keeps s (promise_work s p from b v res)
promise_keeps s p from b v Verdict.Granted = granted_keeps s (promised_by p from b v)
promise_keeps s p from b v (Verdict.Denied (Failure.ProposalRejected last)) = rejected_keeps s p from last
promise_keeps s p from b v (Verdict.Denied (Failure.AcceptRejected last)) = nothing_told s s
promise_keeps s p from b v (Verdict.Denied (Failure.CasFailed w)) = nothing_told s s
promise_keeps s p from b v (Verdict.Denied Failure.Timeout) = nothing_told s s

first_keeps : (s : Proposer) (p : Pending) (h : Phase) (from : Address) (b : Ballot) (v : Option Value) (res : Verdict) → Keeps s (in_first s p h from b v res)
first_keeps s p Accept from b v res = nothing_told s s
first_keeps s p Propose from b v res = unless_keeps s (first_due (promise_tests s p from res)) (promise_work s p from b v res) (promise_keeps s p from b v res)

on_promise_keeps : (s : Proposer) (o : Option Pending) (from : Address) (b : Ballot) (v : Option Value) (res : Verdict) → Keeps s (on_promise s o from b v res)
on_promise_keeps s None from b v res = nothing_told s s
on_promise_keeps s (Some p) from b v res = first_keeps s p p.phase from b v res

acceptance_keeps : (s : Proposer) (p : Pending) (from : Address) (res : Verdict) → Keeps s (acceptance_work s p from res)
acceptance_keeps s p from Verdict.Granted = taken_keeps s (with_yes p from p.promised p.value)
acceptance_keeps s p from (Verdict.Denied (Failure.ProposalRejected last)) = nothing_told s s
acceptance_keeps s p from (Verdict.Denied (Failure.AcceptRejected last)) = turned_keeps s p from last
acceptance_keeps s p from (Verdict.Denied (Failure.CasFailed w)) = nothing_told s s
acceptance_keeps s p from (Verdict.Denied Failure.Timeout) = nothing_told s s

on_acceptance_keeps : (s : Proposer) (o : Option Pending) (from : Address) (res : Verdict) → Keeps s (on_acceptance s o from res)
on_acceptance_keeps s None from res = nothing_told s s
on_acceptance_keeps s (Some p) from res = unless_keeps s (first_due (acceptance_tests p from res)) (acceptance_work s p from res) (acceptance_keeps s p from res)

work_keeps : (s : Proposer) (from : Address) (at : ℕ) (m : Message) → Keeps s (work s from at m)
work_keeps s from at (Message.ClientRequest id r) =
    let next : Proposer = moved s (s.counter + 1) (take_place (asked s s.counter from id r at false) s.places) in
    let asking : Message = Message.ProposeReq (next_ballot s.counter) (key_of r) in
    unless_keeps s (first_due (request_tests s)) (outcome next (to_each s.propose_acceptors asking)) (each_told s next s.propose_acceptors asking)
work_keeps s from at (Message.ClientResponse id r) = nothing_told s s
work_keeps s from at (Message.SetAcceptAcceptors l) = nothing_told s (with_lists s l s.propose_acceptors)
work_keeps s from at (Message.SetProposeAcceptors l) = nothing_told s (with_lists s s.accept_acceptors l)
work_keeps s from at (Message.ProposeReq b k) = nothing_told s s
work_keeps s from at (Message.ProposeRes b a v r) = on_promise_keeps s (pending_at b s.places) from a v r
work_keeps s from at (Message.AcceptReq b k v) = nothing_told s s
work_keeps s from at (Message.AcceptRes b r) = on_acceptance_keeps s (pending_at b s.places) from r

-- ---- a message, and a tick

pub message_keeps : (s : Proposer) (from : Address) (at : ℕ) (m : Message) → Keeps s (receive s from at m)
unfolding receive
message_keeps s from at m = unless_keeps s (first_due (message_tests from m)) (work s from at m) (work_keeps s from at m)

pub tick_keeps : (s : Proposer) (t : ℕ) → Keeps s (tick s t)
unfolding tick
tick_keeps s t =
    let kept : Proposer = moved s s.counter (in_time s t s.places) in
    let late-rows : List Row = rows_of (late_ones s t s.places) in
    unless_keeps s (first_due (test (clock_back t s.places) Refusal.ClockBack ∷ [])) (outcome kept (all_timeouts late-rows)) (rows_told s kept late-rows)
