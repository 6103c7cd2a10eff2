-- `script_answer::answer::put_rows` meets its contract. The loop's invariant: the rows that are left, put behind, give the whole.
-- Assumes nothing.
use Rattle.std.proofs.Common.{◌≡◌}
use Rattle.messages.specs.Answers.{rows_at}
use Rattle.script_words.specs.LentLaws.{Left}
use Rattle.script_answer.specs.Lines.{rows_text, rows_in}
use Rattle.script_answer.proofs.answer.put_rows.Given as goal

abbrev pub invariant-loop-row : goal.invariant-loop-row
invariant-loop-row l = record {
  size : l.row-iterator.iter.size ≡ 10;
  left : Left l.fn.out l.at (rows_text (rows_in l.area rows_at l.n)) l.out l.end (rows_text (rows_in l.row-iterator.iter.rest.now 0 l.row-iterator.n));
}
