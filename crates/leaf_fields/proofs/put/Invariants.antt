-- `leaf_fields::put` meets its contract. The loop's invariant: what is left to store gives the final row.
-- Assumes nothing.
use mathlib.Core.Path.{◌≡◌}
use Prim.Native.Nat.{◌+◌, ◌-◌, ◌≤◌}
use lib.ListN.{length}
use lib.Seq.{sets}
use Rattle.leaf_fields.specs.Fields.{to_le}
use Rattle.leaf_fields.proofs.put.Given as goal

abbrev pub invariant-loop-i : goal.invariant-loop-i
invariant-loop-i l = (l.i ≤ l.n) × (length l.d ≡ length l.initial.d) × (sets l.d (l.at + l.i) (to_le (l.n - l.i) l.rest) ≡ sets l.initial.d l.at (to_le l.n l.x))
