-- `script_input::long_line` meets its contract. The loop's invariant: what was read is within the buffer, whose length stays. Each turn reads a byte or more.
-- Assumes nothing.
use Rattle.std.proofs.Common.{length, ◌-◌, ◌≡◌, ◌≤◌}
use Rattle.script_input.proofs.long_line.Given as goal

abbrev pub invariant-loop-n : goal.invariant-loop-n
invariant-loop-n g l = (l.n ≤ length l.buf) × (length l.buf ≡ length l.initial.buf)

abbrev pub decreases-loop-n : goal.decreases-loop-n
decreases-loop-n g l = length l.initial.buf - l.n
