-- Which words of a line hold its bytes, as docs/SCRIPT.md has the lines; the first word is word 0. A step that has no key, value or list has no word for it.
-- Assumes nothing.
use Rattle.std.specs.Prelude.{ℕ, Option, Some, None, Result, Ok, Err}
use Rattle.messages.specs.declared.Lent.{Lent}
use Rattle.messages.specs.declared.Req.{Req}
use Rattle.messages.specs.declared.Error.{Error}
use Rattle.messages.specs.declared.Rpc.{Rpc}
use Rattle.script_message.specs.declared.places.Places.{Places}

-- a key, a value and another value, and no list
abbrev pub words_at : Option ℕ → Option ℕ → Option ℕ → Places
words_at k v o = record { key = k; value = v; other = o; list = None }

-- a list alone
abbrev pub list_at : ℕ → Places
list_at l = record { key = None; value = None; other = None; list = Some l }

-- `none` stands for no bytes
abbrev pub if_some : Option Lent → ℕ → Option ℕ
if_some None p = None
if_some (Some mark) p = Some p

-- the value of `CasFailed OPT`, the word of the OPT being at p
abbrev pub error_word : Error → ℕ → Option ℕ
error_word (Error.ProposalRejected b) p = None
error_word (Error.AcceptRejected b) p = None
error_word (Error.CasFailed o) p = if_some o p
error_word Error.Timeout p = None

abbrev pub res_word : Result Unit Error → ℕ → Option ℕ
res_word (Ok done) p = None
res_word (Err e) p = error_word e p

-- `FROM ClientRequest ID Get KEY`, `.. Del KEY`, `.. Set KEY VALUE`, `.. Cas KEY OPT OPT`
abbrev pub req_words : Req → Places
req_words Req.Get = words_at (Some 4) None None
req_words Req.Del = words_at (Some 4) None None
req_words Req.Set = words_at (Some 4) (Some 5) None
req_words (Req.Cas old new) = words_at (Some 4) (if_some old 5) (if_some new 6)

-- `FROM ClientResponse ID Ok OPT`, `.. Err CasFailed OPT`
abbrev pub response_words : Result (Option Lent) Error → Places
response_words (Ok o) = words_at None (if_some o 4) None
response_words (Err e) = words_at None None (error_word e 5)

-- `FROM SetAcceptAcceptors LIST`, `FROM ProposeReq BALLOT KEY`, `FROM ProposeRes BALLOT BALLOT OPT Err CasFailed OPT`,
-- `FROM AcceptReq BALLOT KEY OPT`, `FROM AcceptRes BALLOT Err CasFailed OPT`
abbrev pub message_words : Rpc → Places
message_words (Rpc.ClientRequest i r) = req_words r
message_words (Rpc.ClientResponse i r) = response_words r
message_words Rpc.SetAcceptAcceptors = list_at 2
message_words Rpc.SetProposeAcceptors = list_at 2
message_words (Rpc.ProposeReq b) = words_at (Some 3) None None
message_words (Rpc.ProposeRes b l o r) = words_at None (if_some o 4) (res_word r 7)
message_words (Rpc.AcceptReq b o) = words_at (Some 3) (if_some o 4) None
message_words (Rpc.AcceptRes b r) = words_at None None (res_word r 5)
