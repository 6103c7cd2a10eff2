-- A message in eight numbers: which message they are, and which numbers a message is. The numbers of kinds, requests and results are those of include/mirkaspel.h.
-- Assumes nothing.
use Rattle.messages.specs.Message.{mark, of_mark}
use Rattle.std.specs.Prelude.{◌≡◌, refl, cond, List, ℕ, eqb, get_or, Option, None, Some, Result, Ok, Err, option_map, unwrap_or}
use Rattle.messages.specs.declared.Ballot.{Ballot}
use Rattle.messages.specs.declared.Lent.{Lent}
use Rattle.messages.specs.declared.Req.{Req}
use Rattle.messages.specs.declared.Error.{Error}
use Rattle.messages.specs.declared.Rpc.{Rpc}
use Rattle.message_numbers.specs.declared.head.Head.{Head}

-- ---- from numbers to a message

abbrev pub head_in : List ℕ → Head
head_in w =
    record {
      kind = get_or w 0 0;
      number = get_or w 1 0;
      request = get_or w 2 0;
      value = get_or w 3 0;
      other = get_or w 4 0;
      accepted = get_or w 5 0;
      result = get_or w 6 0;
      last = get_or w 7 0;
    }

abbrev ballot : ℕ → Ballot
ballot n = record { 0 = n }

-- the result that a head has, if 01 has its number
abbrev pub verdict_of : Head → Option (Result Unit Error)
verdict_of h =
    cond (eqb h.result 0) (Some (Ok tt))
    (cond (eqb h.result 1) (Some (Err (Error.ProposalRejected (ballot h.last))))
    (cond (eqb h.result 2) (Some (Err (Error.AcceptRejected (ballot h.last))))
    (cond (eqb h.result 3) (Some (Err (Error.CasFailed (of_mark h.other))))
    (cond (eqb h.result 4) (Some (Err Error.Timeout)) None))))

-- the request, if 01 has its number
abbrev pub request_of : Head → Option Req
request_of h =
    cond (eqb h.request 1) (Some Req.Get)
    (cond (eqb h.request 2) (Some Req.Del)
    (cond (eqb h.request 3) (Some Req.Set)
    (cond (eqb h.request 4) (Some (Req.Cas (of_mark h.value) (of_mark h.other))) None)))

abbrev pub response_of : Head → Result Unit Error → Rpc
response_of h (Ok done) = Rpc.ClientResponse h.number (Ok (of_mark h.value))
response_of h (Err e) = Rpc.ClientResponse h.number (Err e)

abbrev pub promise_of : Head → Result Unit Error → Rpc
promise_of h r = Rpc.ProposeRes (ballot h.number) (ballot h.accepted) (of_mark h.value) r

abbrev pub acceptance_of : Head → Result Unit Error → Rpc
acceptance_of h r = Rpc.AcceptRes (ballot h.number) r

-- the message of a head, if 01 has its kind, its request and its result
abbrev pub known_in : Head → Option Rpc
known_in h =
    cond (eqb h.kind 1) (option_map (Rpc.ClientRequest h.number) (request_of h))
    (cond (eqb h.kind 2) (option_map (response_of h) (verdict_of h))
    (cond (eqb h.kind 3) (Some Rpc.SetAcceptAcceptors)
    (cond (eqb h.kind 4) (Some Rpc.SetProposeAcceptors)
    (cond (eqb h.kind 5) (Some (Rpc.ProposeReq (ballot h.number)))
    (cond (eqb h.kind 6) (option_map (promise_of h) (verdict_of h))
    (cond (eqb h.kind 7) (Some (Rpc.AcceptReq (ballot h.number) (of_mark h.value)))
    (cond (eqb h.kind 8) (option_map (acceptance_of h) (verdict_of h)) None)))))))

-- a message that is for neither party: what numbers without a meaning are
abbrev pub unknown : Rpc
unknown = Rpc.ClientResponse 0 (Err Error.Timeout)

abbrev pub message_in : Head → Rpc
message_in h = unwrap_or (known_in h) unknown

-- ---- from a message to numbers

abbrev pub plain : ℕ → ℕ → Head
plain k n = record { kind = k; number = n; request = 0; value = 0; other = 0; accepted = 0; result = 0; last = 0 }

abbrev pub asking : ℕ → ℕ → ℕ → ℕ → Head
asking id r v o = record { kind = 1; number = id; request = r; value = v; other = o; accepted = 0; result = 0; last = 0 }

abbrev pub request_head : ℕ → Req → Head
request_head id Req.Get = asking id 1 0 0
request_head id Req.Del = asking id 2 0 0
request_head id Req.Set = asking id 3 0 0
request_head id (Req.Cas old new) = asking id 4 (mark old) (mark new)

-- a head with a result, its value's mark and its ballot
abbrev pub failing : Head → ℕ → ℕ → ℕ → Head
failing h r o l =
    record {
      kind = h.kind;
      number = h.number;
      request = h.request;
      value = h.value;
      other = o;
      accepted = h.accepted;
      result = r;
      last = l;
    }

abbrev pub with_failure : Head → Error → Head
with_failure h (Error.ProposalRejected b) = failing h 1 0 b.0
with_failure h (Error.AcceptRejected b) = failing h 2 0 b.0
with_failure h (Error.CasFailed o) = failing h 3 (mark o) 0
with_failure h Error.Timeout = failing h 4 0 0

abbrev pub with_result : Head → Result Unit Error → Head
with_result h (Ok done) = h
with_result h (Err e) = with_failure h e

abbrev pub carrying : ℕ → ℕ → ℕ → Option Lent → Head
carrying k n a o = record { kind = k; number = n; request = 0; value = mark o; other = 0; accepted = a; result = 0; last = 0 }

abbrev pub response_head : ℕ → Result (Option Lent) Error → Head
response_head id (Ok o) = carrying 2 id 0 o
response_head id (Err e) = with_failure (plain 2 id) e

abbrev pub head_of : Rpc → Head
head_of (Rpc.ClientRequest id r) = request_head id r
head_of (Rpc.ClientResponse id r) = response_head id r
head_of Rpc.SetAcceptAcceptors = plain 3 0
head_of Rpc.SetProposeAcceptors = plain 4 0
head_of (Rpc.ProposeReq b) = plain 5 b.0
head_of (Rpc.ProposeRes b a o r) = with_result (carrying 6 b.0 a.0 o) r
head_of (Rpc.AcceptReq b o) = carrying 7 b.0 0 o
head_of (Rpc.AcceptRes b r) = with_result (plain 8 b.0) r

-- ---- a message's numbers are that message again

mark_back : (o : Option Lent) → of_mark (mark o) ≡ o
mark_back None = refl
mark_back (Some x) = refl

pub message_back : (m : Rpc) → message_in (head_of m) ≡ m
message_back (Rpc.ClientRequest id Req.Get) = refl
message_back (Rpc.ClientRequest id Req.Del) = refl
message_back (Rpc.ClientRequest id Req.Set) = refl
message_back (Rpc.ClientRequest id (Req.Cas old new)) = rw (mark_back old, mark_back new)
message_back (Rpc.ClientResponse id (Ok o)) = rw (mark_back o)
message_back (Rpc.ClientResponse id (Err (Error.ProposalRejected b))) = refl
message_back (Rpc.ClientResponse id (Err (Error.AcceptRejected b))) = refl
message_back (Rpc.ClientResponse id (Err (Error.CasFailed o))) = rw (mark_back o)
message_back (Rpc.ClientResponse id (Err Error.Timeout)) = refl
message_back Rpc.SetAcceptAcceptors = refl
message_back Rpc.SetProposeAcceptors = refl
message_back (Rpc.ProposeReq b) = refl
message_back (Rpc.ProposeRes b a o (Ok done)) = rw (mark_back o)
message_back (Rpc.ProposeRes b a o (Err (Error.ProposalRejected l))) = rw (mark_back o)
message_back (Rpc.ProposeRes b a o (Err (Error.AcceptRejected l))) = rw (mark_back o)
message_back (Rpc.ProposeRes b a o (Err (Error.CasFailed v))) = rw (mark_back o, mark_back v)
message_back (Rpc.ProposeRes b a o (Err Error.Timeout)) = rw (mark_back o)
message_back (Rpc.AcceptReq b o) = rw (mark_back o)
message_back (Rpc.AcceptRes b (Ok done)) = refl
message_back (Rpc.AcceptRes b (Err (Error.ProposalRejected l))) = refl
message_back (Rpc.AcceptRes b (Err (Error.AcceptRejected l))) = refl
message_back (Rpc.AcceptRes b (Err (Error.CasFailed v))) = rw (mark_back v)
message_back (Rpc.AcceptRes b (Err Error.Timeout)) = refl
