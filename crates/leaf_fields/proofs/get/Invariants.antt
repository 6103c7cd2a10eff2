-- `leaf_fields::get` meets its contract. The loop's invariant: x is the number in the bytes from i on, and has no more digits than those.
-- Assumes nothing.
use mathlib.Core.Path.{◌≡◌}
use Prim.Native.Nat.{◌+◌, ◌-◌, ◌^◌, ◌≤◌, ◌<◌}
use Rattle.leaf_fields.specs.Fields.{from_le, part}
use Rattle.leaf_fields.proofs.get.Given as goal

abbrev pub invariant-loop-i : goal.invariant-loop-i
invariant-loop-i l = (l.i ≤ l.n) × (l.x ≡ from_le (part l.s (l.at + l.i) (l.n - l.i))) × (l.x < 256 ^ (l.n - l.i))
