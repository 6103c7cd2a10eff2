-- `script_answer::answer::put_told` meets its contract: each answer by its text.
-- Assumes nothing.
use Rattle.std.proofs.Common.{◌≡◌, List, [], ℕ}
use Rattle.leaf_fields.specs.Fields.{part}
use Rattle.messages.specs.declared.Address.{Address}
use Rattle.messages.specs.declared.Rpc.{Rpc}
use Rattle.messages.specs.declared.answer.Answer.{Answer}
use Rattle.messages.specs.Message.{message_of}
use Rattle.messages.specs.Answers.{one, each, key_at, entries_at}
use Rattle.script_words.specs.LentLaws.{Put, joined}
use Rattle.script_answer.specs.Lines.{told_text, entries_in, shown}
use Rattle.script_answer.proofs.answer.put_told.Goals as goal

sent : (out after area value : List ℕ) (at r n : ℕ) (m : Answer) (to : Address) (rpc : Rpc) → m ≡ Answer.Message to rpc n → value ≡ part area 0 n → Put out at (told_text (one to (message_of rpc [] value value []))) r after → Put out at (told_text (shown m area)) r after
sent out after area value at r n m to rpc e v h = rw e (rw v at h)

sent_to_each : (out after area key value : List ℕ) (at r entries k n : ℕ) (m : Answer) (rpc : Rpc) → m ≡ Answer.Broadcast rpc entries k n → key ≡ part area key_at k → value ≡ part area 0 n → Put out at (told_text (each (entries_in area entries_at entries) (message_of rpc key value value []))) r after → Put out at (told_text (shown m area)) r after
sent_to_each out after area key value at r entries k n m rpc e f v h = rw e (rw (f, v) at h)

pub returns-in-Nothing : goal.returns-in-Nothing
returns-in-Nothing c = rw c.in-Nothing.is c.put_text.ensures

pub returns-in-Message : goal.returns-in-Message
returns-in-Message c = search sent depth 9

pub returns-in-Broadcast : goal.returns-in-Broadcast
returns-in-Broadcast c = search sent_to_each depth 12

pub returns-in-Timeouts : goal.returns-in-Timeouts
returns-in-Timeouts c = rw c.in-Timeouts.is (joined c.put_text-at.ensures c.put_rows.ensures)

pub returns-in-Refused : goal.returns-in-Refused
returns-in-Refused c = rw c.in-Refused.is c.put_refused.ensures
