-- The crate's predicates on errors and its two helpers on messages.
-- Assumes nothing.
use Rattle.std.specs.Prelude.{Bool, true, false, ℕ, Option, None, Some}
use Rattle.messages.specs.declared.Error.{Error}
use Rattle.messages.specs.declared.Rpc.{Rpc}
use Rattle.messages.specs.declared.Req.{Req}

abbrev pub rejected_accept : Error → Bool
rejected_accept (Error.ProposalRejected b) = false
rejected_accept (Error.AcceptRejected b) = true
rejected_accept (Error.CasFailed o) = false
rejected_accept Error.Timeout = false

abbrev pub rejected_proposal : Error → Bool
rejected_proposal (Error.ProposalRejected b) = true
rejected_proposal (Error.AcceptRejected b) = false
rejected_proposal (Error.CasFailed o) = false
rejected_proposal Error.Timeout = false

abbrev pub timed_out : Error → Bool
timed_out (Error.ProposalRejected b) = false
timed_out (Error.AcceptRejected b) = false
timed_out (Error.CasFailed o) = false
timed_out Error.Timeout = true

abbrev pub failed_cas : Error → Bool
failed_cas (Error.ProposalRejected b) = false
failed_cas (Error.AcceptRejected b) = false
failed_cas (Error.CasFailed o) = true
failed_cas Error.Timeout = false

-- a client request and a client response have an id, and nothing else has
abbrev pub request_id : Rpc → Option ℕ
request_id (Rpc.ClientRequest id r) = Some id
request_id (Rpc.ClientResponse id r) = Some id
request_id Rpc.SetAcceptAcceptors = None
request_id Rpc.SetProposeAcceptors = None
request_id (Rpc.ProposeReq b) = None
request_id (Rpc.ProposeRes b a o r) = None
request_id (Rpc.AcceptReq b o) = None
request_id (Rpc.AcceptRes b r) = None

-- a client request alone has a request
abbrev pub request_of_rpc : Rpc → Option Req
request_of_rpc (Rpc.ClientRequest id r) = Some r
request_of_rpc (Rpc.ClientResponse id r) = None
request_of_rpc Rpc.SetAcceptAcceptors = None
request_of_rpc Rpc.SetProposeAcceptors = None
request_of_rpc (Rpc.ProposeReq b) = None
request_of_rpc (Rpc.ProposeRes b a o r) = None
request_of_rpc (Rpc.AcceptReq b o) = None
request_of_rpc (Rpc.AcceptRes b r) = None
