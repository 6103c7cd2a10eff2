-- The eight messages of the crate's `Rpc`, with their keys, values and lists; and which of them an enum of the code is, with the bytes that are lent beside it.
-- Assumes nothing.
use Rattle.std.specs.Prelude.{cond, List, ℕ, eqb, get_or, Option, None, Some, Result, Ok, Err}
use Rattle.messages.specs.declared.Address.{Address}
use Rattle.messages.specs.declared.Place.{Place}
use Rattle.messages.specs.declared.Ballot.{Ballot}
use Rattle.messages.specs.declared.Lent.{Lent}
use Rattle.messages.specs.declared.Req.{Req}
use Rattle.messages.specs.declared.Error.{Error}
use Rattle.messages.specs.declared.Rpc.{Rpc}
use Rattle.messages.specs.declared.Incoming.{Incoming}

abbrev pub Key : Type 0
Key = List ℕ

abbrev pub Value : Type 0
Value = List ℕ

-- the crate's `Req`
pub data Request : Type 0 where
  Get : Key → Request
  Del : Key → Request
  Set : Key → Value → Request
  Cas : Key → Option Value → Option Value → Request

-- the crate's `Error`
pub data Failure : Type 0 where
  ProposalRejected : Ballot → Failure
  AcceptRejected : Ballot → Failure
  CasFailed : Option Value → Failure
  Timeout : Failure

-- the crate's `Result<(), Error>`
pub data Verdict : Type 0 where
  Granted : Verdict
  Denied : Failure → Verdict

-- the crate's `Result<Option<Value>, Error>`
pub data Reply : Type 0 where
  Done : Option Value → Reply
  Failed : Failure → Reply

-- the crate's `Rpc`, in its order
pub data Message : Type 0 where
  ClientRequest : ℕ → Request → Message
  ClientResponse : ℕ → Reply → Message
  SetAcceptAcceptors : List ℕ → Message
  SetProposeAcceptors : List ℕ → Message
  ProposeReq : Ballot → Key → Message
  ProposeRes : Ballot → Ballot → Option Value → Verdict → Message
  AcceptReq : Ballot → Key → Option Value → Message
  AcceptRes : Ballot → Verdict → Message

-- bytes that are lent beside a message
abbrev pub lent : Lent
lent = record {}

-- a value that may be missing, and its bytes
abbrev pub given : Option Lent → Value → Option Value
given None v = None
given (Some x) v = Some v

-- the mark of a value that may be missing, and what a mark says: 0 is no value, any other number a value
abbrev pub mark : Option Lent → ℕ
mark None = 0
mark (Some x) = 1

abbrev pub of_mark : ℕ → Option Lent
of_mark n = cond (eqb n 0) None (Some lent)

abbrev pub request_of : Req → Key → Value → Value → Request
request_of Req.Get k v w = Request.Get k
request_of Req.Del k v w = Request.Del k
request_of Req.Set k v w = Request.Set k v
request_of (Req.Cas o n) k v w = Request.Cas k (given o v) (given n w)

abbrev pub failure_of : Error → Value → Failure
failure_of (Error.ProposalRejected b) w = Failure.ProposalRejected b
failure_of (Error.AcceptRejected b) w = Failure.AcceptRejected b
failure_of (Error.CasFailed o) w = Failure.CasFailed (given o w)
failure_of Error.Timeout w = Failure.Timeout

abbrev pub result_of : Result Unit Error → Value → Verdict
result_of (Ok x) w = Verdict.Granted
result_of (Err e) w = Verdict.Denied (failure_of e w)

abbrev pub response_of : Result (Option Lent) Error → Value → Value → Reply
response_of (Ok o) v w = Reply.Done (given o v)
response_of (Err e) v w = Reply.Failed (failure_of e w)

-- the message that an enum is, with key k, value v, other value w and list l lent beside it
abbrev pub message_of : Rpc → Key → Value → Value → List ℕ → Message
message_of (Rpc.ClientRequest id r) k v w l = Message.ClientRequest id (request_of r k v w)
message_of (Rpc.ClientResponse id r) k v w l = Message.ClientResponse id (response_of r v w)
message_of Rpc.SetAcceptAcceptors k v w l = Message.SetAcceptAcceptors l
message_of Rpc.SetProposeAcceptors k v w l = Message.SetProposeAcceptors l
message_of (Rpc.ProposeReq b) k v w l = Message.ProposeReq b k
message_of (Rpc.ProposeRes b a o r) k v w l = Message.ProposeRes b a (given o v) (result_of r w)
message_of (Rpc.AcceptReq b o) k v w l = Message.AcceptReq b k (given o v)
message_of (Rpc.AcceptRes b r) k v w l = Message.AcceptRes b (result_of r w)

-- the message that came with what was lent beside it
abbrev pub arrived : Incoming → Message
arrived m = message_of m.rpc m.key.now m.value.now m.other.now m.list.now

-- the address at a place of a list, 0 past its end
abbrev pub listed_at : List ℕ → Place → Address
listed_at l p = record { 0 = get_or l p.0 0 }
