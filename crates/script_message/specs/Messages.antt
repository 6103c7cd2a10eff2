-- The messages of a script, as docs/SCRIPT.md has its lines. A line is its words w, of which it has n; the first is w 0, and past the last each is empty.
-- Assumes nothing.
use Rattle.messages.specs.Message.{lent}
use Rattle.std.specs.Prelude.{Result, option_map, cond, List, ℕ, ◌+◌, eqb, Option, Some, None, Ok, Err}
use Rattle.messages.specs.declared.Ballot.{Ballot}
use Rattle.messages.specs.declared.Lent.{Lent}
use Rattle.messages.specs.declared.Req.{Req}
use Rattle.messages.specs.declared.Error.{Error}
use Rattle.messages.specs.declared.Rpc.{Rpc}
use Rattle.leaf_fields.specs.Fields.{same}
use Rattle.script_words.specs.Letters.{letters}
use Rattle.script_words.specs.Text.{number_of, bytes_word, list_word}

abbrev ballot : ℕ → Ballot
ballot n = record { 0 = n }

-- ---- words of a message

-- OPT: `none`, or bytes
unfoldable pub given_by : List ℕ → Option (Option Lent)
given_by o = cond (same o (letters "none")) (Some None) (cond (bytes_word o) (Some (Some lent)) None)

-- `ProposalRejected BALLOT`, `AcceptRejected BALLOT`
unfoldable pub rejection_by : List ℕ → Option ℕ → Option Error
rejection_by name None = None
rejection_by name (Some b) =
    cond (same name (letters "ProposalRejected")) (Some (Error.ProposalRejected (ballot b)))
    (cond (same name (letters "AcceptRejected")) (Some (Error.AcceptRejected (ballot b))) None)

-- ERROR at word i, which ends the line
unfoldable pub failure_in : (ℕ → List ℕ) → ℕ → ℕ → Option Error
failure_in w n i =
    cond (same (w i) (letters "Timeout"))
    (cond (eqb n (i + 1)) (Some Error.Timeout) None)
    (cond (eqb n (i + 2))
    (cond (same (w i) (letters "CasFailed")) (option_map Error.CasFailed (given_by (w (i + 1)))) (rejection_by (w i) (number_of (w (i + 1)))))
    None)

-- `Ok`, with what was read behind it, or `Err ERROR` at word i, which ends the line
unfoldable pub outcome_in : {A : Type 0} → (ℕ → List ℕ) → ℕ → ℕ → Option A → Option (Result A Error)
outcome_in w n i done =
    cond (same (w i) (letters "Ok")) (option_map Ok done)
    (cond (same (w i) (letters "Err")) (option_map Err (failure_in w n (i + 1))) None)

-- `Ok` or `Err ERROR` at word i, which ends the line
unfoldable pub result_in : (ℕ → List ℕ) → ℕ → ℕ → Option (Result Unit Error)
result_in w n i = outcome_in w n i (cond (eqb n (i + 1)) (Some tt) None)

-- `Ok OPT` or `Err ERROR` at word 3
unfoldable pub replied_in : (ℕ → List ℕ) → ℕ → Option (Result (Option Lent) Error)
replied_in w n = outcome_in w n 3 (cond (eqb n 5) (given_by (w 4)) None)

abbrev pub cas_by : Option (Option Lent) → Option (Option Lent) → Option Req
cas_by None new = None
cas_by (Some old) None = None
cas_by (Some old) (Some new) = Some (Req.Cas old new)

-- `Cas KEY OPT OPT` from word 3 on: the old value, then the new one
unfoldable pub cas_in : (ℕ → List ℕ) → ℕ → Option Req
cas_in w n = cond (eqb n 7) (cas_by (given_by (w 5)) (given_by (w 6))) None

-- `Get KEY`, `Del KEY`, `Set KEY VALUE`, `Cas KEY OPT OPT` from word 3 on
unfoldable pub asked_in : (ℕ → List ℕ) → ℕ → Option Req
asked_in w n =
    cond (bytes_word (w 4))
    (cond (same (w 3) (letters "Cas")) (cas_in w n)
    (cond (same (w 3) (letters "Set"))
    (cond (eqb n 6) (cond (bytes_word (w 5)) (Some Req.Set) None) None)
    (cond (eqb n 5)
    (cond (same (w 3) (letters "Get")) (Some Req.Get) (cond (same (w 3) (letters "Del")) (Some Req.Del) None))
    None)))
    None

-- ---- a message, from word 1 on

-- `ProposeReq BALLOT KEY`
unfoldable pub propose_req_in : (ℕ → List ℕ) → ℕ → Ballot → Option Rpc
propose_req_in w n b = cond (eqb n 4) (cond (bytes_word (w 3)) (Some (Rpc.ProposeReq b)) None) None

abbrev pub propose_res_by : Ballot → Option ℕ → Option (Option Lent) → Option (Result Unit Error) → Option Rpc
propose_res_by b None o r = None
propose_res_by b (Some a) None r = None
propose_res_by b (Some a) (Some o) None = None
propose_res_by b (Some a) (Some o) (Some r) = Some (Rpc.ProposeRes b (ballot a) o r)

-- `ProposeRes BALLOT BALLOT OPT Ok`, `ProposeRes BALLOT BALLOT OPT Err ERROR`: the request's ballot, then the accepted ballot and value
unfoldable pub propose_res_in : (ℕ → List ℕ) → ℕ → Ballot → Option Rpc
propose_res_in w n b = propose_res_by b (number_of (w 3)) (given_by (w 4)) (result_in w n 5)

-- `AcceptReq BALLOT KEY OPT`
unfoldable pub accept_req_in : (ℕ → List ℕ) → ℕ → Ballot → Option Rpc
accept_req_in w n b = cond (eqb n 5) (cond (bytes_word (w 3)) (option_map (Rpc.AcceptReq b) (given_by (w 4))) None) None

-- `AcceptRes BALLOT Ok`, `AcceptRes BALLOT Err ERROR`
abbrev pub accept_res_in : (ℕ → List ℕ) → ℕ → Ballot → Option Rpc
accept_res_in w n b = option_map (Rpc.AcceptRes b) (result_in w n 3)

-- `SetAcceptAcceptors LIST`, `SetProposeAcceptors LIST`
unfoldable pub list_in : (ℕ → List ℕ) → ℕ → Rpc → Option Rpc
list_in w n m = cond (eqb n 3) (cond (list_word (w 2)) (Some m) None) None

-- a message by its name, whose word 2 is a number: a request's id or a ballot
unfoldable pub numbered_in : List ℕ → (ℕ → List ℕ) → ℕ → ℕ → Option Rpc
numbered_in name w n x =
    cond (same name (letters "ProposeReq")) (propose_req_in w n (ballot x))
    (cond (same name (letters "AcceptReq")) (accept_req_in w n (ballot x))
    (cond (same name (letters "ProposeRes")) (propose_res_in w n (ballot x))
    (cond (same name (letters "AcceptRes")) (accept_res_in w n (ballot x))
    (cond (same name (letters "ClientRequest")) (option_map (Rpc.ClientRequest x) (asked_in w n))
    (cond (same name (letters "ClientResponse")) (option_map (Rpc.ClientResponse x) (replied_in w n)) None)))))

abbrev pub numbered_by : List ℕ → (ℕ → List ℕ) → ℕ → Option ℕ → Option Rpc
numbered_by name w n None = None
numbered_by name w n (Some x) = numbered_in name w n x

-- MESSAGE
unfoldable pub message_in : (ℕ → List ℕ) → ℕ → Option Rpc
message_in w n =
    cond (same (w 1) (letters "SetAcceptAcceptors")) (list_in w n Rpc.SetAcceptAcceptors)
    (cond (same (w 1) (letters "SetProposeAcceptors")) (list_in w n Rpc.SetProposeAcceptors)
    (numbered_by (w 1) w n (number_of (w 2))))
