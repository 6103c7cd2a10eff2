-- `script_run::show::put_table` meets its contract. The loop's invariant: the lines of the blocks that are left, put behind, give the whole text.
-- Assumes nothing.
use Rattle.std.proofs.Common.{◌≡◌, ◌+◌, ◌-◌, ◌≤◌, length}
use Rattle.script_words.specs.LentLaws.{Left}
use Rattle.script_run.specs.Obeyed.{block_lines, table_text}
use Rattle.script_run.proofs.show.put_table.Given as goal

abbrev pub invariant-loop-i : goal.invariant-loop-i
invariant-loop-i l = record {
  size : l.i-iterator.iter.size ≡ 512;
  enough : l.i-iterator.count + length l.i-iterator.iter.rest.now ≤ length l.table;
  left : Left l.fn.out l.at (table_text l.table) l.out l.end (block_lines (length l.table - l.i-iterator.count) l.i-iterator.count l.i-iterator.iter.rest.now);
}
