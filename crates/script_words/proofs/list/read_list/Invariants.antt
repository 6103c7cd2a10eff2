-- `script_words::list::read_list` meets its contract. The loop's invariant: what is left to store gives the final numbers and how many they are.
-- Assumes nothing.
use Rattle.std.proofs.Common.{◌≡◌, ◌+◌, ◌-◌, ◌≤◌, length, drop}
use Rattle.std.proofs.Math.Seq.{sets}
use Rattle.script_words.specs.Text.{list_of}
use Rattle.script_words.proofs.Pieces.{pieces, numbers}
use Rattle.script_words.proofs.list.read_list.Given as goal

abbrev pub invariant-loop-entry : goal.invariant-loop-entry
invariant-loop-entry l = record {
  size : length l.out ≡ length l.initial.out;
  most : l.n ≤ l.room;
  turns : l.n ≡ length l.yielded;
  count : l.n + length (numbers (32 - l.n) (drop l.n (pieces 44 l.word))) ≡ length (list_of l.word);
  stored : sets l.out l.n (numbers (32 - l.n) (drop l.n (pieces 44 l.word))) ≡ sets l.initial.out 0 (list_of l.word);
}
