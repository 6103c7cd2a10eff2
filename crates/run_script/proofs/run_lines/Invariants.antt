-- `run_script::run_lines` is safe. The loop's invariant: the input's buffer keeps its length.
-- Assumes nothing.
use Rattle.std.proofs.Common.{◌≡◌, length}
use Rattle.run_script.proofs.run_lines.Given as goal

abbrev pub invariant-loop-line : goal.invariant-loop-line
invariant-loop-line g l = length l.buf ≡ length l.initial.buf
