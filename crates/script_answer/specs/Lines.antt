-- The lines of a script's output, as docs/SCRIPT.md has them: a message, an answer, a block and an answer area in words.
-- Assumes nothing.
use Rattle.std.specs.Prelude.{cond, List, [], ◌∷◌, ◌++◌, ℕ, zero, suc, ◌+◌, leb, length, take}
use Rattle.std.specs.Prelude.{Option, None, Some}
use Rattle.leaf_fields.specs.Fields.{from_le, part, all_zero}
use Rattle.messages.specs.declared.answer.Answer.{Answer}
use Rattle.messages.specs.declared.answer.Refusal.{Refusal}
use Rattle.messages.specs.Message.{Value, Request, Failure, Verdict, Reply, Message, message_of}
use Rattle.messages.specs.Refusals.{number}
use Rattle.messages.specs.Answers.{Row, Told, nothing, one, each, timeouts, refused, key_at, entries_at, rows_at, row_bytes}
use Rattle.script_words.specs.Letters.{letters}
use Rattle.script_words.specs.Written.{hex_of, decimal}

-- ---- words

-- a space and a number
abbrev pub spaced : ℕ → List ℕ
spaced n = letters " " ++ decimal n

-- a space and BYTES
abbrev pub bytes_text : List ℕ → List ℕ
bytes_text b = letters " x" ++ hex_of b

-- a space and OPT
abbrev pub option_text : Option Value → List ℕ
option_text None = letters " none"
option_text (Some v) = bytes_text v

-- what follows the first entry of a LIST
unfoldable pub entries_text : List ℕ → List ℕ
entries_text [] = []
entries_text (x ∷ l) = letters "," ++ (decimal x ++ entries_text l)

-- LIST
abbrev pub list_text : List ℕ → List ℕ
list_text [] = letters "-"
list_text (x ∷ l) = decimal x ++ entries_text l

-- ---- messages

-- a space and ERROR
abbrev pub failure_text : Failure → List ℕ
failure_text (Failure.ProposalRejected b) = letters " ProposalRejected" ++ spaced b.0
failure_text (Failure.AcceptRejected b) = letters " AcceptRejected" ++ spaced b.0
failure_text (Failure.CasFailed v) = letters " CasFailed" ++ option_text v
failure_text Failure.Timeout = letters " Timeout"

abbrev pub result_text : Verdict → List ℕ
result_text Verdict.Granted = letters " Ok"
result_text (Verdict.Denied e) = letters " Err" ++ failure_text e

abbrev pub reply_text : Reply → List ℕ
reply_text (Reply.Done v) = letters " Ok" ++ option_text v
reply_text (Reply.Failed e) = letters " Err" ++ failure_text e

abbrev pub request_text : Request → List ℕ
request_text (Request.Get k) = letters " Get" ++ bytes_text k
request_text (Request.Del k) = letters " Del" ++ bytes_text k
request_text (Request.Set k v) = letters " Set" ++ (bytes_text k ++ bytes_text v)
request_text (Request.Cas k old new) = letters " Cas" ++ (bytes_text k ++ (option_text old ++ option_text new))

-- MESSAGE
abbrev pub message_text : Message → List ℕ
message_text (Message.ClientRequest id r) = letters "ClientRequest" ++ (spaced id ++ request_text r)
message_text (Message.ClientResponse id r) = letters "ClientResponse" ++ (spaced id ++ reply_text r)
message_text (Message.SetAcceptAcceptors l) = letters "SetAcceptAcceptors " ++ list_text l
message_text (Message.SetProposeAcceptors l) = letters "SetProposeAcceptors " ++ list_text l
message_text (Message.ProposeReq b k) = letters "ProposeReq" ++ (spaced b.0 ++ bytes_text k)
message_text (Message.ProposeRes b a v r) = letters "ProposeRes" ++ (spaced b.0 ++ (spaced a.0 ++ (option_text v ++ result_text r)))
message_text (Message.AcceptReq b k v) = letters "AcceptReq" ++ (spaced b.0 ++ (bytes_text k ++ option_text v))
message_text (Message.AcceptRes b r) = letters "AcceptRes" ++ (spaced b.0 ++ result_text r)

-- ---- answers

-- a refusal's name in crate messages
abbrev pub name_text : Refusal → List ℕ
name_text Refusal.AreaSize = letters "AreaSize"
name_text Refusal.Damaged = letters "Damaged"
name_text Refusal.WrongKind = letters "WrongKind"
name_text Refusal.OverLimit = letters "OverLimit"
name_text Refusal.FirstPhase = letters "FirstPhase"
name_text Refusal.Repeated = letters "Repeated"
name_text Refusal.NotWaitedFor = letters "NotWaitedFor"
name_text Refusal.ForeignError = letters "ForeignError"
name_text Refusal.PromisedAbove = letters "PromisedAbove"
name_text Refusal.CounterUsedUp = letters "CounterUsedUp"
name_text Refusal.NoRoom = letters "NoRoom"
name_text Refusal.ClockBack = letters "ClockBack"

-- a space and ADDRESS:ID
abbrev pub row_text : Row → List ℕ
row_text r = spaced r.client.0 ++ (letters ":" ++ decimal r.id)

-- that for each row
unfoldable pub rows_text : List Row → List ℕ
rows_text [] = []
rows_text (r ∷ l) = row_text r ++ rows_text l

-- 01's answers in words
abbrev pub told_text : Told → List ℕ
told_text nothing = letters "nothing"
told_text (one to m) = letters "to" ++ (spaced to.0 ++ (letters " " ++ message_text m))
told_text (each l m) = letters "each " ++ (list_text l ++ (letters " " ++ message_text m))
told_text (timeouts rs) = letters "timeouts" ++ rows_text rs
told_text (refused r) = letters "refused" ++ (spaced (number r) ++ (letters " " ++ name_text r))

-- ---- the answer that an enum and an answer area are, as far as the area reaches

-- at most n entries of two bytes, from `at` on
unfoldable pub entries_in : List ℕ → ℕ → ℕ → List ℕ
entries_in a at zero = []
entries_in a at (suc n) = cond (leb (at + 2) (length a)) (from_le (part a at 2) ∷ entries_in a (at + 2) n) []

-- the row at a place
abbrev pub row_in : List ℕ → ℕ → Row
row_in a at = record { client = record { 0 = from_le (part a at 2) }; id = from_le (part a (at + 2) 8) }

-- at most n rows, from `at` on
unfoldable pub rows_in : List ℕ → ℕ → ℕ → List Row
rows_in a at zero = []
rows_in a at (suc n) = cond (leb (at + row_bytes) (length a)) (row_in a at ∷ rows_in a (at + row_bytes) n) []

-- messages/specs/Answers.antt says what an answer is in an area that has room for it: `said`; the two are one there (Shown.antt)
abbrev pub shown : Answer → List ℕ → Told
shown Answer.Nothing a = nothing
shown (Answer.Message to m n) a = one to (message_of m [] (take n a) (take n a) [])
shown (Answer.Broadcast m e k v) a = each (entries_in a entries_at e) (message_of m (part a key_at k) (take v a) (take v a) [])
shown (Answer.Timeouts n) a = timeouts (rows_in a rows_at n)
shown (Answer.Refused r) a = refused r

-- the line of an answer
unfoldable pub answer_line : Answer → List ℕ → List ℕ
answer_line r a = told_text (shown r a) ++ letters "\n"

-- ---- lent bytes

-- how many bytes stand before the zeros at the end
unfoldable pub kept_of : List ℕ → ℕ
kept_of [] = 0
kept_of (x ∷ l) = cond (all_zero (x ∷ l)) 0 (suc (kept_of l))

-- HEX: the zeros at the end left out
abbrev pub hex_kept : List ℕ → List ℕ
hex_kept b = hex_of (take (kept_of b) b)

-- `area HEX`
unfoldable pub area_line : List ℕ → List ℕ
area_line a = letters "area " ++ (hex_kept a ++ letters "\n")

-- `block I HEX`; nothing for a block of zeros
unfoldable pub block_line : ℕ → List ℕ → List ℕ
block_line i b = cond (all_zero b) [] (letters "block" ++ (spaced i ++ (letters " " ++ (hex_kept b ++ letters "\n"))))
