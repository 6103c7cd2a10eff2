-- `script_answer::answer::put_list` meets its contract. The loop's invariant: the entries that are left, put behind, give the whole.
-- Assumes nothing.
use Rattle.std.proofs.Common.{◌≡◌}
use Rattle.messages.specs.Answers.{entries_at}
use Rattle.script_words.specs.LentLaws.{Left}
use Rattle.script_answer.specs.Lines.{list_text, entries_text, entries_in}
use Rattle.script_answer.proofs.answer.put_list.Given as goal

abbrev pub invariant-loop-entry : goal.invariant-loop-entry
invariant-loop-entry l = record {
  size : l.entry-iterator.iter.size ≡ 2;
  left : Left l.fn.out l.at (list_text (entries_in l.area entries_at l.n)) l.out l.end (entries_text (entries_in l.entry-iterator.iter.rest.now 0 l.entry-iterator.n));
}
