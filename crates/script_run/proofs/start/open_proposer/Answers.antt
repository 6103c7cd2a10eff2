-- `script_run::start::open_proposer` meets its contract: the proposer is lent the front of the table, and its answer is put out.
-- Assumes nothing.
use Rattle.std.proofs.Common.{◌≡◌, refl, ap, ◌∙◌, List, [], ℕ, ◌-◌, arith, length, take, drop}
use borrow.Rule.Slice.PartMut.{put_mid}
use Rattle.messages.specs.declared.answer.Answer.{Answer}
use Rattle.messages.specs.Answers.{answer_of}
use Rattle.proposer.specs.Contract.{start_on, Started}
use Rattle.script_words.specs.LentLaws.{Put}
use Rattle.script_answer.specs.Lines.{answer_line}
use Rattle.script_run.specs.declared.run.Run.{Run}
use Rattle.script_run.specs.Run.{put_up_to}
use Rattle.script_run.specs.Obeyed.{ran, lent_back, started_by, Held, Stepped}
use Rattle.script_run.specs.Laws.{back, lent, back_length, length_back}
use Rattle.script_run.proofs.start.open_proposer.Goals as goal

started : (s r : Run) (t a out ys out' list : List ℕ) (at timeout : ℕ) (x : Answer) → Held s t a out → length ys ≡ length (take (s.bytes - 0) (drop 0 t)) → Started (take (s.bytes - 0) (drop 0 t)) (start_on (take (s.bytes - 0) (drop 0 t)) s.capacity timeout list) x ys → Put out s.at (answer_line x (take (s.area - 0) (drop 0 a))) at out' → r ≡ put_up_to s at → Stepped s out (started_by (ran s t a []) (start_on (take s.bytes t) s.capacity timeout list)) r (put_mid 0 (s.bytes - 0) t ys) a out'
started s r t a out ys out' list at timeout x held y begun put e =
    let o = start_on (take s.bytes t) s.capacity timeout list in
    let d : Started (take s.bytes t) (start_on (take s.bytes t) s.capacity timeout list) x ys = rw (lent t s.bytes) at begun in
    let m : length ys ≡ s.bytes = back_length t ys s.bytes held.0 y in
    let u : length (put_mid 0 (s.bytes - 0) t ys) ≡ length t = ap length (back t ys s.bytes) ∙ length_back t ys s.bytes held.0 m in
    let p : Put out s.at (answer_line (answer_of (start_on (take s.bytes t) s.capacity timeout list).told) (take s.area a)) at out' = rw (lent a s.area, d.answer) at put in
    rw e
    (record {
      run = refl;
      table = back t ys s.bytes ∙ ap (lent_back t s.bytes) d.area;
      area = refl;
      put = p;
      held = (omega (arith, u, held.0), omega (arith, u, held.1), held.2, p.within);
    })

pub returns : goal.returns
returns c = search started depth 12
