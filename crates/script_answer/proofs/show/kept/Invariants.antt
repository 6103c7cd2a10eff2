-- `script_answer::show::kept` meets its contract. The loop's invariant: what is cut off the end were zeros.
-- Assumes nothing.
use Rattle.std.proofs.Common.{◌≡◌, take, length}
use Rattle.script_answer.specs.Lines.{kept_of}
use Rattle.script_answer.proofs.show.kept.Given as goal

abbrev pub invariant-loop-s : goal.invariant-loop-s
invariant-loop-s l = take (kept_of l.s) l.s ≡ take (kept_of l.fn.s) l.fn.s

abbrev pub decreases-loop-s : goal.decreases-loop-s
decreases-loop-s l = length l.s
