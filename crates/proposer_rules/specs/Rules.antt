-- 01's section 'Proposer', on values: what a message or a tick does to a proposer and what it is answered.
-- Assumes nothing.
use Rattle.std.specs.Prelude.{Bool, true, false, not, cond, ◌&&◌, ◌||◌, List, [], ◌∷◌, ◌++◌, ℕ, zero, suc, ◌+◌, ◌-◌, ◌/◌, ◌^◌, max, eqb, leb, ltb, length, take, drop}
use Rattle.std.specs.Prelude.{Option, None, Some}
use Rattle.messages.specs.declared.Address.{Address}
use Rattle.messages.specs.declared.Ballot.{Ballot}
use Rattle.messages.specs.declared.Req.{Req}
use Rattle.messages.specs.declared.answer.Refusal.{Refusal}
use Rattle.messages.specs.Ballots.{above}
use Rattle.messages.specs.Message.{Key, Value, Request, Failure, Verdict, Reply, Message, given}
use Rattle.messages.specs.Limits.{within_limits}
use Rattle.messages.specs.Refusals.{Test, test, first_due}
use Rattle.messages.specs.Answers.{Row, Told, nothing, one, each, timeouts, refused}
use Rattle.leaf_fields.specs.Fields.{same}
use Rattle.proposer_rules.specs.State.{Phase, Propose, Accept, Pending, Proposer, key_of, listed, new_pending, with_no, with_yes, second_phase}

-- ---- numbers

-- "Majority of a list of n, repeats counted: n/2 rounded down, plus 1."
abbrev pub majority_of : ℕ → ℕ
majority_of n = n / 2 + 1

abbrev pub majority : List ℕ → ℕ
majority l = majority_of (length l)

-- "reached at that number or more"
abbrev pub reached : List ℕ → List ℕ → Bool
reached answers waiting = leb (majority waiting) (length answers)

-- the largest counter
abbrev pub counter_most : ℕ
counter_most = 2 ^ 64 - 1

-- the ballot after a counter, and the counter that a ballot raises to
abbrev pub next_ballot : ℕ → Ballot
next_ballot c = record { 0 = c + 1 }

-- "raise the counter to `last` if lower"
abbrev pub raised : ℕ → Ballot → ℕ
raised c last = max c last.0

-- "the counter .. is 2^64-1"
abbrev pub used_up : ℕ → Bool
used_up c = leb counter_most c

-- ---- the request

abbrev pub same_value : Option Value → Option Value → Bool
same_value None None = true
same_value None (Some w) = false
same_value (Some v) None = false
same_value (Some v) (Some w) = same v w

-- the new value, and whether a compare failed
pub record Applied : Type 0 where
  pub value : Option Value
  pub failed : Bool

-- "`Get` the promised value; `Del` none; `Set` its value; `Cas` the new one if old equals promised (none equals only none), else the promised value, marked failed."
abbrev pub applied : Request → Option Value → Applied
applied (Request.Get k) promised = record { value = promised; failed = false }
applied (Request.Del k) promised = record { value = None; failed = false }
applied (Request.Set k v) promised = record { value = Some v; failed = false }
applied (Request.Cas k old new) promised = record { value = cond (same_value old promised) new promised; failed = not (same_value old promised) }

-- a request whose bytes are one row: the value of a `Set`; of a `Cas` the old value's n bytes, then the new value
abbrev pub request_in : Req → List ℕ → ℕ → Request
request_in Req.Get s n = Request.Get []
request_in Req.Del s n = Request.Del []
request_in Req.Set s n = Request.Set [] s
request_in (Req.Cas old new) s n = Request.Cas [] (given old (take n s)) (given new (drop n s))

-- what the client is told after a majority of acceptances: "the new value, or `CasFailed` with the promised value"
abbrev pub reply_of : Request → Option Value → Reply
reply_of r promised = cond (applied r promised).failed (Reply.Failed (Failure.CasFailed promised)) (Reply.Done (applied r promised).value)

-- ---- the places

abbrev pub is_ballot : Ballot → Pending → Bool
is_ballot b p = eqb p.ballot.0 b.0

abbrev pub pick_pending : Bool → Pending → Option Pending → Option Pending
pick_pending true p rest = Some p
pick_pending false p rest = rest

-- the pending request at a ballot
unfoldable pub pending_at : Ballot → List (Option Pending) → Option Pending
pending_at b [] = None
pending_at b (None ∷ l) = pending_at b l
pending_at b (Some p ∷ l) = pick_pending (is_ballot b p) p (pending_at b l)

-- the place of the request at a ballot, with other content; none drops it
unfoldable pub replace_at : Ballot → Option Pending → List (Option Pending) → List (Option Pending)
replace_at b q [] = []
replace_at b q (None ∷ l) = None ∷ replace_at b q l
replace_at b q (Some p ∷ l) = cond (is_ballot b p) (q ∷ l) (Some p ∷ replace_at b q l)

abbrev pub is_free : Option Pending → Bool
is_free None = true
is_free (Some p) = false

-- no place is free
unfoldable pub no_place : List (Option Pending) → Bool
no_place [] = true
no_place (x ∷ l) = not (is_free x) && no_place l

-- "a new request takes the lowest free place"
unfoldable pub take_place : Pending → List (Option Pending) → List (Option Pending)
take_place p [] = []
take_place p (x ∷ l) = cond (is_free x) (Some p ∷ l) (x ∷ take_place p l)

-- ---- outcomes

pub record Outcome : Type 0 where
  pub state : Proposer
  pub told : Told

abbrev pub outcome : Proposer → Told → Outcome
outcome s t = record { state = s; told = t }

-- "Each sends nothing and leaves state and every lent area byte for byte."
abbrev pub unless : Option Refusal → Proposer → Outcome → Outcome
unless (Some r) s o = outcome s (refused r)
unless None s o = o

-- "A list without entries and a row without timeouts are the answer nothing."
abbrev pub to_each : List ℕ → Message → Told
to_each [] m = nothing
to_each (a ∷ l) m = each (a ∷ l) m

abbrev pub all_timeouts : List Row → Told
all_timeouts [] = nothing
all_timeouts (r ∷ l) = timeouts (r ∷ l)

-- the state with another counter and other places
abbrev pub moved : Proposer → ℕ → List (Option Pending) → Proposer
moved s c ps = record {
  counter = c;
  accept_acceptors = s.accept_acceptors;
  propose_acceptors = s.propose_acceptors;
  timeout = s.timeout;
  places = ps;
}

-- a request that is proposed at the ballot after a counter
abbrev pub asked : Proposer → ℕ → Address → ℕ → Request → ℕ → Bool → Pending
asked s c client id req at again = new_pending client id req (next_ballot c) s.propose_acceptors at again

-- and what is then sent: "`ProposeReq` goes to each entry of the propose list, in order"
abbrev pub proposals : Proposer → ℕ → Request → Told
proposals s c req = to_each s.propose_acceptors (Message.ProposeReq (next_ballot c) (key_of req))

abbrev pub to_client : Pending → Reply → Told
to_client p r = one p.client (Message.ClientResponse p.id r)

-- ---- ClientRequest: "counter plus 1 is the ballot"

abbrev pub request_tests : Proposer → List Test
request_tests s = test (used_up s.counter) Refusal.CounterUsedUp ∷ test (no_place s.places) Refusal.NoRoom ∷ []

abbrev pub on_request : Proposer → Address → ℕ → ℕ → Request → Outcome
on_request s from at id req =
    unless (first_due (request_tests s)) s
    (outcome (moved s (s.counter + 1) (take_place (asked s s.counter from id req at false) s.places)) (proposals s s.counter req))

-- ---- an answer to a pending request

-- refusals 6 and 7, in either phase
abbrev pub sender_tests : Pending → Address → List Test
sender_tests p from =
    test (listed from.0 p.acks_from || listed from.0 p.nacks_from) Refusal.Repeated
    ∷ test (not (listed from.0 p.waiting_for)) Refusal.NotWaitedFor
    ∷ []

-- "take the ballot and value if that ballot is above the highest promised"
abbrev pub promised_by : Pending → Address → Ballot → Option Value → Pending
promised_by p from b v = cond (above b p.promised) (with_yes p from b v) (with_yes p from p.promised p.value)

-- "go to the second phase with the current accept list, answers cleared"
abbrev pub to_accept : Proposer → Pending → Pending
to_accept s p = second_phase s.accept_acceptors p

-- ---- ProposeRes in the first phase

-- "a `ProposeRes` error other than `ProposalRejected`"
abbrev pub foreign_promise : Verdict → Bool
foreign_promise Verdict.Granted = false
foreign_promise (Verdict.Denied (Failure.ProposalRejected last)) = false
foreign_promise (Verdict.Denied (Failure.AcceptRejected last)) = true
foreign_promise (Verdict.Denied (Failure.CasFailed v)) = true
foreign_promise (Verdict.Denied Failure.Timeout) = true

-- "Ok promise while the request's ballot isn't above the highest promised"
abbrev pub promise_above : Pending → Verdict → Bool
promise_above p Verdict.Granted = not (above p.ballot p.promised)
promise_above p (Verdict.Denied e) = false

-- "a new ballot is needed and the counter, raised as this message says, is 2^64-1"
abbrev pub no_ballot : Proposer → Pending → Address → Verdict → Bool
no_ballot s p from Verdict.Granted = false
no_ballot s p from (Verdict.Denied (Failure.ProposalRejected last)) =
    reached (with_no p from).nacks_from p.waiting_for && not p.retried && used_up (raised s.counter last)
no_ballot s p from (Verdict.Denied (Failure.AcceptRejected last)) = false
no_ballot s p from (Verdict.Denied (Failure.CasFailed v)) = false
no_ballot s p from (Verdict.Denied Failure.Timeout) = false

abbrev pub promise_tests : Proposer → Pending → Address → Verdict → List Test
promise_tests s p from res =
    sender_tests p from
    ++ (test (foreign_promise res) Refusal.ForeignError
    ∷ test (promise_above p res) Refusal.PromisedAbove
    ∷ test (no_ballot s p from res) Refusal.CounterUsedUp
    ∷ [])

-- "at a majority of noes drop the request, and if not yet retried propose it anew (same arrival time, marked retried), else tell the client `ProposalRejected` with this message's `last`"; a retry uses its own place again
abbrev pub rejected : Proposer → Pending → Address → Ballot → Outcome
rejected s p from last =
    cond (reached (with_no p from).nacks_from p.waiting_for)
    (cond p.retried
    (outcome (moved s (raised s.counter last) (replace_at p.ballot None s.places)) (to_client p (Reply.Failed (Failure.ProposalRejected last))))
    (outcome
    (moved s (raised s.counter last + 1) (replace_at p.ballot (Some (asked s (raised s.counter last) p.client p.id p.req p.received_at true)) s.places))
    (proposals s (raised s.counter last) p.req)))
    (outcome (moved s (raised s.counter last) (replace_at p.ballot (Some (with_no p from)) s.places)) nothing)

-- "At a majority of yeses go to the second phase .. and send `AcceptReq` with the new value to each entry in order."
abbrev pub granted : Proposer → Pending → Outcome
granted s p =
    cond (reached p.acks_from p.waiting_for)
    (outcome (moved s s.counter (replace_at p.ballot (Some (to_accept s p)) s.places))
    (to_each s.accept_acceptors (Message.AcceptReq p.ballot (key_of p.req) (applied p.req p.value).value)))
    (outcome (moved s s.counter (replace_at p.ballot (Some p) s.places)) nothing)

abbrev pub promise_work : Proposer → Pending → Address → Ballot → Option Value → Verdict → Outcome
promise_work s p from a v Verdict.Granted = granted s (promised_by p from a v)
promise_work s p from a v (Verdict.Denied (Failure.ProposalRejected last)) = rejected s p from last
promise_work s p from a v (Verdict.Denied (Failure.AcceptRejected last)) = outcome s nothing
promise_work s p from a v (Verdict.Denied (Failure.CasFailed w)) = outcome s nothing
promise_work s p from a v (Verdict.Denied Failure.Timeout) = outcome s nothing

-- "if its ballot isn't pending or is past the first phase, silence and no change"
abbrev pub in_first : Proposer → Pending → Phase → Address → Ballot → Option Value → Verdict → Outcome
in_first s p Accept from a v res = outcome s nothing
in_first s p Propose from a v res = unless (first_due (promise_tests s p from res)) s (promise_work s p from a v res)

abbrev pub on_promise : Proposer → Option Pending → Address → Ballot → Option Value → Verdict → Outcome
on_promise s None from a v res = outcome s nothing
on_promise s (Some p) from a v res = in_first s p p.phase from a v res

-- ---- AcceptRes

-- "`AcceptRes` for a request in its first phase"
abbrev pub first_phase : Phase → Bool
first_phase Propose = true
first_phase Accept = false

-- "an `AcceptRes` error other than `AcceptRejected`"
abbrev pub foreign_acceptance : Verdict → Bool
foreign_acceptance Verdict.Granted = false
foreign_acceptance (Verdict.Denied (Failure.ProposalRejected last)) = true
foreign_acceptance (Verdict.Denied (Failure.AcceptRejected last)) = false
foreign_acceptance (Verdict.Denied (Failure.CasFailed v)) = true
foreign_acceptance (Verdict.Denied Failure.Timeout) = true

abbrev pub acceptance_tests : Pending → Address → Verdict → List Test
acceptance_tests p from res =
    test (first_phase p.phase) Refusal.FirstPhase ∷ sender_tests p from ++ (test (foreign_acceptance res) Refusal.ForeignError ∷ [])

-- "raise the counter likewise; at a majority of noes drop and tell the client `AcceptRejected` with this message's `last`"
abbrev pub turned_down : Proposer → Pending → Address → Ballot → Outcome
turned_down s p from last =
    cond (reached (with_no p from).nacks_from p.waiting_for)
    (outcome (moved s (raised s.counter last) (replace_at p.ballot None s.places)) (to_client p (Reply.Failed (Failure.AcceptRejected last))))
    (outcome (moved s (raised s.counter last) (replace_at p.ballot (Some (with_no p from)) s.places)) nothing)

-- "At a majority of yeses drop and tell the client the new value, or `CasFailed` with the promised value."
abbrev pub taken : Proposer → Pending → Outcome
taken s p =
    cond (reached p.acks_from p.waiting_for)
    (outcome (moved s s.counter (replace_at p.ballot None s.places)) (to_client p (reply_of p.req p.value)))
    (outcome (moved s s.counter (replace_at p.ballot (Some p) s.places)) nothing)

abbrev pub acceptance_work : Proposer → Pending → Address → Verdict → Outcome
acceptance_work s p from Verdict.Granted = taken s (with_yes p from p.promised p.value)
acceptance_work s p from (Verdict.Denied (Failure.ProposalRejected last)) = outcome s nothing
acceptance_work s p from (Verdict.Denied (Failure.AcceptRejected last)) = turned_down s p from last
acceptance_work s p from (Verdict.Denied (Failure.CasFailed v)) = outcome s nothing
acceptance_work s p from (Verdict.Denied Failure.Timeout) = outcome s nothing

abbrev pub on_acceptance : Proposer → Option Pending → Address → Verdict → Outcome
on_acceptance s None from res = outcome s nothing
on_acceptance s (Some p) from res = unless (first_due (acceptance_tests p from res)) s (acceptance_work s p from res)

-- ---- a message, and a tick

-- "the kind isn't for this party"
abbrev pub foreign : Message → Bool
foreign (Message.ClientRequest id r) = false
foreign (Message.ClientResponse id r) = true
foreign (Message.SetAcceptAcceptors l) = false
foreign (Message.SetProposeAcceptors l) = false
foreign (Message.ProposeReq b k) = true
foreign (Message.ProposeRes b a v r) = false
foreign (Message.AcceptReq b k v) = true
foreign (Message.AcceptRes b r) = false

-- refusals 3 and 4, before any silence
abbrev pub message_tests : Address → Message → List Test
message_tests from m = test (foreign m) Refusal.WrongKind ∷ test (not (within_limits from m)) Refusal.OverLimit ∷ []

-- "replace that list only"
abbrev pub with_lists : Proposer → List ℕ → List ℕ → Proposer
with_lists s accept propose = record {
  counter = s.counter;
  accept_acceptors = accept;
  propose_acceptors = propose;
  timeout = s.timeout;
  places = s.places;
}

abbrev pub work : Proposer → Address → ℕ → Message → Outcome
work s from at (Message.ClientRequest id r) = on_request s from at id r
work s from at (Message.ClientResponse id r) = outcome s nothing
work s from at (Message.SetAcceptAcceptors l) = outcome (with_lists s l s.propose_acceptors) nothing
work s from at (Message.SetProposeAcceptors l) = outcome (with_lists s s.accept_acceptors l) nothing
work s from at (Message.ProposeReq b k) = outcome s nothing
work s from at (Message.ProposeRes b a v r) = on_promise s (pending_at b s.places) from a v r
work s from at (Message.AcceptReq b k v) = outcome s nothing
work s from at (Message.AcceptRes b r) = on_acceptance s (pending_at b s.places) from r

-- the proposer: a message from an address, at a time
unfoldable pub receive : Proposer → Address → ℕ → Message → Outcome
receive s from at m = unless (first_due (message_tests from m)) s (work s from at m)

-- "tick earlier than some pending arrival"
unfoldable pub clock_back : ℕ → List (Option Pending) → Bool
clock_back t [] = false
clock_back t (None ∷ l) = clock_back t l
clock_back t (Some p ∷ l) = ltb t p.received_at || clock_back t l

-- "t minus arrival greater than the timeout"
abbrev pub late : Proposer → ℕ → Pending → Bool
late s t p = ltb s.timeout (t - p.received_at)

abbrev pub drop_late : Proposer → ℕ → Option Pending → Option Pending
drop_late s t None = None
drop_late s t (Some p) = cond (late s t p) None (Some p)

unfoldable pub in_time : Proposer → ℕ → List (Option Pending) → List (Option Pending)
in_time s t [] = []
in_time s t (x ∷ l) = drop_late s t x ∷ in_time s t l

-- the late requests, put in order of their ballots
unfoldable pub insert : Pending → List Pending → List Pending
insert p [] = p ∷ []
insert p (q ∷ l) = cond (above p.ballot q.ballot) (q ∷ insert p l) (p ∷ q ∷ l)

unfoldable pub late_ones : Proposer → ℕ → List (Option Pending) → List Pending
late_ones s t [] = []
late_ones s t (None ∷ l) = late_ones s t l
late_ones s t (Some p ∷ l) = cond (late s t p) (insert p (late_ones s t l)) (late_ones s t l)

unfoldable pub rows_of : List Pending → List Row
rows_of [] = []
rows_of (p ∷ l) = record { client = p.client; id = p.id } ∷ rows_of l

-- "each request with t minus arrival greater than the timeout is dropped and its client told `Timeout`, in ascending ballot order"
unfoldable pub tick : Proposer → ℕ → Outcome
tick s t =
    unless (first_due (test (clock_back t s.places) Refusal.ClockBack ∷ [])) s
    (outcome (moved s s.counter (in_time s t s.places)) (all_timeouts (rows_of (late_ones s t s.places))))

-- "It starts with counter 0, nothing pending and one given list as both lists"
unfoldable pub empty_places : ℕ → List (Option Pending)
empty_places zero = []
empty_places (suc n) = None ∷ empty_places n

unfoldable pub start : ℕ → List ℕ → ℕ → Proposer
start timeout l n = record { counter = 0; accept_acceptors = l; propose_acceptors = l; timeout = timeout; places = empty_places n }
