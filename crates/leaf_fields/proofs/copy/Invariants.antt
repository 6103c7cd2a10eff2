-- `leaf_fields::copy` meets its contract. The loop's invariant: what is left to store gives the final row.
-- Assumes nothing.
use mathlib.Core.Path.{◌≡◌}
use Prim.Native.Nat.{◌+◌, ◌≤◌}
use lib.ListN.{length, drop}
use lib.Seq.{sets}
use Rattle.leaf_fields.proofs.copy.Given as goal

abbrev pub invariant-loop-i : goal.invariant-loop-i
invariant-loop-i l = (l.i ≤ length l.s) × (length l.d ≡ length l.initial.d) × (sets l.d (l.at + l.i) (drop l.i l.s) ≡ sets l.initial.d l.at l.s)
