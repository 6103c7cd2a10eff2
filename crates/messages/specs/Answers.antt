-- Answers as 01 has them: nothing, one message to one client or proposer, one message to each entry of a list, a row of timeouts, or a refusal. For each: the enum of the code that says it, what it puts into the answer area, and back.
-- Assumes nothing.
use Rattle.std.specs.Prelude.{List, [], ◌∷◌, ◌++◌, ℕ, zero, suc, ◌+◌, length, take, Option, None, Some, Result, Ok, Err}
use Rattle.std.proofs.lemmas.List.Edits.{sets}
use Rattle.leaf_fields.specs.Fields.{from_le, to_le, part}
use Rattle.messages.specs.declared.Address.{Address}
use Rattle.messages.specs.declared.Lent.{Lent}
use Rattle.messages.specs.declared.Req.{Req}
use Rattle.messages.specs.declared.Error.{Error}
use Rattle.messages.specs.declared.Rpc.{Rpc}
use Rattle.messages.specs.declared.answer.Answer.{Answer}
use Rattle.messages.specs.declared.answer.Refusal.{Refusal}
use Rattle.messages.specs.Message.{Key, Value, Request, Failure, Verdict, Reply, Message, message_of, lent}

-- a client, and the request of its that is over time
pub record Row : Type 0 where
  pub client : Address
  pub id : ℕ

pub data Told : Type 0 where
  nothing : Told
  one : Address → Message → Told
  each : List ℕ → Message → Told
  timeouts : List Row → Told
  refused : Refusal → Told

-- the answer area: the value, the key, the entries of two bytes, and the rows of a client's two bytes and an id's eight
abbrev pub key_at : ℕ
key_at = 256

abbrev pub entries_at : ℕ
entries_at = 320

abbrev pub rows_at : ℕ
rows_at = 350

abbrev pub row_bytes : ℕ
row_bytes = 10

-- n entries of two bytes, from `at` on
unfoldable pub entries : List ℕ → ℕ → ℕ → List ℕ
entries a at zero = []
entries a at (suc n) = from_le (part a at 2) ∷ entries a (at + 2) n

-- n rows, from `at` on
unfoldable pub rows : List ℕ → ℕ → ℕ → List Row
rows a at zero = []
rows a at (suc n) =
    record { client = record { 0 = from_le (part a at 2) }; id = from_le (part a (at + 2) 8) } ∷ rows a (at + row_bytes) n

-- 01's answer that an enum and an answer area are: each case of the enum with its values
abbrev pub said : Answer → List ℕ → Told
said Answer.Nothing a = nothing
said (Answer.Message to m n) a = one to (message_of m [] (take n a) (take n a) [])
said (Answer.Broadcast m e k v) a = each (entries a entries_at e) (message_of m (part a key_at k) (take v a) (take v a) [])
said (Answer.Timeouts n) a = timeouts (rows a rows_at n)
said (Answer.Refused r) a = refused r

-- a value that is there, and its bytes
abbrev pub marked : Option Value → Option Lent
marked None = None
marked (Some v) = Some lent

abbrev pub bytes_of : Option Value → Value
bytes_of None = []
bytes_of (Some v) = v

-- ---- from 01's answer to the enum and the area

abbrev pub failure_rpc : Failure → Error
failure_rpc (Failure.ProposalRejected b) = Error.ProposalRejected b
failure_rpc (Failure.AcceptRejected b) = Error.AcceptRejected b
failure_rpc (Failure.CasFailed v) = Error.CasFailed (marked v)
failure_rpc Failure.Timeout = Error.Timeout

abbrev pub result_rpc : Verdict → Result Unit Error
result_rpc Verdict.Granted = Ok tt
result_rpc (Verdict.Denied e) = Err (failure_rpc e)

abbrev pub reply_rpc : Reply → Result (Option Lent) Error
reply_rpc (Reply.Done v) = Ok (marked v)
reply_rpc (Reply.Failed e) = Err (failure_rpc e)

abbrev pub request_rpc : Request → Req
request_rpc (Request.Get k) = Req.Get
request_rpc (Request.Del k) = Req.Del
request_rpc (Request.Set k v) = Req.Set
request_rpc (Request.Cas k o n) = Req.Cas (marked o) (marked n)

-- a message without its bytes
abbrev pub rpc_of : Message → Rpc
rpc_of (Message.ClientRequest id r) = Rpc.ClientRequest id (request_rpc r)
rpc_of (Message.ClientResponse id r) = Rpc.ClientResponse id (reply_rpc r)
rpc_of (Message.SetAcceptAcceptors l) = Rpc.SetAcceptAcceptors
rpc_of (Message.SetProposeAcceptors l) = Rpc.SetProposeAcceptors
rpc_of (Message.ProposeReq b k) = Rpc.ProposeReq b
rpc_of (Message.ProposeRes b a v r) = Rpc.ProposeRes b a (marked v) (result_rpc r)
rpc_of (Message.AcceptReq b k v) = Rpc.AcceptReq b (marked v)
rpc_of (Message.AcceptRes b r) = Rpc.AcceptRes b (result_rpc r)

abbrev pub failure_value : Failure → Value
failure_value (Failure.ProposalRejected b) = []
failure_value (Failure.AcceptRejected b) = []
failure_value (Failure.CasFailed v) = bytes_of v
failure_value Failure.Timeout = []

abbrev pub reply_value : Reply → Value
reply_value (Reply.Done v) = bytes_of v
reply_value (Reply.Failed e) = failure_value e

-- the value that an answer's message carries; the two list messages and a client's request are no answers
abbrev pub sent_value : Message → Value
sent_value (Message.ClientRequest id r) = []
sent_value (Message.ClientResponse id r) = reply_value r
sent_value (Message.SetAcceptAcceptors l) = []
sent_value (Message.SetProposeAcceptors l) = []
sent_value (Message.ProposeReq b k) = []
sent_value (Message.ProposeRes b a v r) = bytes_of v
sent_value (Message.AcceptReq b k v) = bytes_of v
sent_value (Message.AcceptRes b r) = []

-- and its key
abbrev pub sent_key : Message → Key
sent_key (Message.ClientRequest id r) = []
sent_key (Message.ClientResponse id r) = []
sent_key (Message.SetAcceptAcceptors l) = []
sent_key (Message.SetProposeAcceptors l) = []
sent_key (Message.ProposeReq b k) = k
sent_key (Message.ProposeRes b a v r) = []
sent_key (Message.AcceptReq b k v) = k
sent_key (Message.AcceptRes b r) = []

-- the enum of an answer
abbrev pub answer_of : Told → Answer
answer_of nothing = Answer.Nothing
answer_of (one to m) = Answer.Message to (rpc_of m) (length (sent_value m))
answer_of (each l m) = Answer.Broadcast (rpc_of m) (length l) (length (sent_key m)) (length (sent_value m))
answer_of (timeouts rs) = Answer.Timeouts (length rs)
answer_of (refused r) = Answer.Refused r

unfoldable pub entry_bytes : List ℕ → List ℕ
entry_bytes [] = []
entry_bytes (x ∷ l) = to_le 2 x ++ entry_bytes l

unfoldable pub rows_bytes : List Row → List ℕ
rows_bytes [] = []
rows_bytes (r ∷ l) = to_le 2 r.client.0 ++ (to_le 8 r.id ++ rows_bytes l)

-- the answer area after an answer: "Bytes of a lent answer area that an answer doesn't need stay as they were."
abbrev pub written_in : List ℕ → Told → List ℕ
written_in a nothing = a
written_in a (one to m) = sets a 0 (sent_value m)
written_in a (each l m) = sets (sets (sets a 0 (sent_value m)) key_at (sent_key m)) entries_at (entry_bytes l)
written_in a (timeouts rs) = sets a rows_at (rows_bytes rs)
written_in a (refused r) = a
