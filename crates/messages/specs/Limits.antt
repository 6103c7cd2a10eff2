-- The limits of 01, each written once for the definitions, and what is within them: the opposite of refusal 4's line, "key, value or list too long, or address 0 (the sender's or one in a list)".
-- Assumes nothing.
use Rattle.std.specs.Prelude.{Bool, true, not, ◌&&◌, List, [], ◌∷◌, ℕ, leb, eqb, length}
use Rattle.std.specs.Prelude.{Option, None, Some}
use Rattle.messages.specs.declared.Address.{Address}
use Rattle.messages.specs.Message.{Key, Value, Request, Failure, Verdict, Reply, Message}

abbrev pub key_most : ℕ
key_most = 64

abbrev pub value_most : ℕ
value_most = 256

abbrev pub list_most : ℕ
list_most = 15

abbrev pub registers_most : ℕ
registers_most = 1024

abbrev pub pending_most : ℕ
pending_most = 32

abbrev pub key_fits : Key → Bool
key_fits k = leb (length k) key_most

abbrev pub value_fits : Value → Bool
value_fits v = leb (length v) value_most

abbrev pub option_fits : Option Value → Bool
option_fits None = true
option_fits (Some v) = value_fits v

abbrev pub failure_fits : Failure → Bool
failure_fits (Failure.ProposalRejected b) = true
failure_fits (Failure.AcceptRejected b) = true
failure_fits (Failure.CasFailed o) = option_fits o
failure_fits Failure.Timeout = true

-- a register's key and value
abbrev pub register_fits : Key → Option Value → Bool
register_fits k o = key_fits k && option_fits o

abbrev pub request_fits : Request → Bool
request_fits (Request.Get k) = key_fits k
request_fits (Request.Del k) = key_fits k
request_fits (Request.Set k v) = key_fits k && value_fits v
request_fits (Request.Cas k o n) = key_fits k && option_fits o && option_fits n

abbrev pub result_fits : Verdict → Bool
result_fits Verdict.Granted = true
result_fits (Verdict.Denied e) = failure_fits e

abbrev pub response_fits : Reply → Bool
response_fits (Reply.Done o) = option_fits o
response_fits (Reply.Failed e) = failure_fits e

-- no entry is address 0
unfoldable pub none_zero : List ℕ → Bool
none_zero [] = true
none_zero (a ∷ l) = not (eqb a 0) && none_zero l

unfoldable pub list_fits : List ℕ → Bool
list_fits l = leb (length l) list_most && none_zero l

abbrev pub message_fits : Message → Bool
message_fits (Message.ClientRequest id r) = request_fits r
message_fits (Message.ClientResponse id r) = response_fits r
message_fits (Message.SetAcceptAcceptors l) = list_fits l
message_fits (Message.SetProposeAcceptors l) = list_fits l
message_fits (Message.ProposeReq b k) = key_fits k
message_fits (Message.ProposeRes b a o r) = option_fits o && result_fits r
message_fits (Message.AcceptReq b k o) = register_fits k o
message_fits (Message.AcceptRes b r) = result_fits r

unfoldable pub within_limits : Address → Message → Bool
within_limits from m = not (eqb from.0 0) && message_fits m
