-- `script_run::party::tick_proposer` meets its contract: the proposer is lent the fronts of both areas, and its answer is put out.
-- Assumes nothing.
use Rattle.std.proofs.Common.{◌≡◌, List, ℕ, ◌-◌, length, take, drop}
use borrow.Rule.Slice.PartMut.{put_mid}
use Rattle.messages.specs.declared.answer.Answer.{Answer}
use Rattle.proposer.specs.Contract.{tick_on, Done}
use Rattle.script_words.specs.LentLaws.{Put}
use Rattle.script_answer.specs.Lines.{answer_line}
use Rattle.script_run.specs.declared.run.Run.{Run}
use Rattle.script_run.specs.Run.{put_up_to}
use Rattle.script_run.specs.Obeyed.{by_proposer, ticked_in, Held, Stepped}
use Rattle.script_run.specs.Laws.{lent, heard}
use Rattle.script_run.proofs.party.tick_proposer.Goals as goal

tick_heard : (s r : Run) (t a out ys zs out' : List ℕ) (at time : ℕ) (x : Answer) → Held s t a out → length ys ≡ length (take (s.bytes - 0) (drop 0 t)) → length zs ≡ length (take (s.area - 0) (drop 0 a)) → Done (take (s.bytes - 0) (drop 0 t)) (take (s.area - 0) (drop 0 a)) (tick_on (take (s.bytes - 0) (drop 0 t)) s.capacity (take (s.area - 0) (drop 0 a)) time) x ys zs → Put out s.at (answer_line x (take (s.area - 0) (drop 0 (put_mid 0 (s.area - 0) a zs)))) at out' → r ≡ put_up_to s at → Stepped s out (ticked_in s t a time) r (put_mid 0 (s.bytes - 0) t ys) (put_mid 0 (s.area - 0) a zs) out'
unfolding ticked_in
tick_heard s r t a out ys zs out' at time x held y z done put e =
    let d : Done (take s.bytes t) (take s.area a) (tick_on (take s.bytes t) s.capacity (take s.area a) time) x ys zs = rw (lent t s.bytes, lent a s.area) at done in
    heard s r t a out ys zs out' at (by_proposer (take s.bytes t) (take s.area a) (tick_on (take s.bytes t) s.capacity (take s.area a) time)) x held y z (record { answer = d.answer; lent = d.area; area = d.written }) put e

pub returns : goal.returns
returns c = search tick_heard depth 12
