-- What a window on the input keeps to: its line and what was read are within the buffer.
-- Assumes nothing.
use Rattle.std.specs.Prelude.{ℕ, ◌≤◌, List, length}
use Rattle.script_input.specs.declared.Window.{Window}

abbrev pub Shows : Window → List ℕ → Type 0
Shows w buf = (w.from ≤ w.end) × (w.end ≤ w.to) × (w.to ≤ length buf)
