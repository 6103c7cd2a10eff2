-- `script_run::party::send` meets its contract: the party is lent the fronts of both areas, and its answer is put out.
-- Assumes nothing.
use Rattle.std.proofs.Common.{◌≡◌, List, ℕ, ◌-◌, length, take, drop}
use borrow.Rule.Slice.PartMut.{put_mid}
use Rattle.messages.specs.declared.Address.{Address}
use Rattle.messages.specs.declared.answer.Answer.{Answer}
use Rattle.messages.specs.Message.{Message}
use Rattle.script_words.specs.LentLaws.{Put}
use Rattle.script_answer.specs.Lines.{answer_line}
use Rattle.script_run.specs.declared.run.Run.{Run}
use Rattle.script_run.specs.Run.{put_up_to}
use Rattle.script_run.specs.Obeyed.{is_proposer, message_on, message_in, Gave, Held, Stepped}
use Rattle.script_run.specs.Laws.{lent, heard}
use Rattle.script_run.proofs.party.send.Goals as goal

message_heard : (s r : Run) (t a out ys zs out' : List ℕ) (at : ℕ) (from : Address) (m : Message) (x : Answer) → Held s t a out → length ys ≡ length (take (s.bytes - 0) (drop 0 t)) → length zs ≡ length (take (s.area - 0) (drop 0 a)) → Gave (message_on (is_proposer s.party) (take (s.bytes - 0) (drop 0 t)) s.capacity (take (s.area - 0) (drop 0 a)) from s.clock m) x ys zs → Put out s.at (answer_line x (take (s.area - 0) (drop 0 (put_mid 0 (s.area - 0) a zs)))) at out' → r ≡ put_up_to s at → Stepped s out (message_in s t a from m) r (put_mid 0 (s.bytes - 0) t ys) (put_mid 0 (s.area - 0) a zs) out'
unfolding message_in
message_heard s r t a out ys zs out' at from m x held y z gave put e =
    heard s r t a out ys zs out' at (message_on (is_proposer s.party) (take s.bytes t) s.capacity (take s.area a) from s.clock m) x held y z (rw (lent t s.bytes, lent a s.area) at gave) put e

pub returns : goal.returns
returns c = search message_heard depth 12
