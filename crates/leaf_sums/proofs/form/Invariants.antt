-- `leaf_sums::form` meets its contract. The loop's invariant: each sum so far, with the sum of what is left, is the whole sum.
-- Assumes nothing.
use mathlib.Core.Path.{◌≡◌}
use Prim.Native.Nat.{◌+◌}
use lib.ListN.{drop}
use Rattle.leaf_sums.specs.Sums.{plain_sum, placed_sum}
use Rattle.leaf_sums.proofs.form.Given as goal

abbrev pub invariant-loop-i : goal.invariant-loop-i
invariant-loop-i l = (l.plain + plain_sum (drop l.i l.s) ≡ plain_sum l.s) × (l.placed + placed_sum l.i (drop l.i l.s) ≡ placed_sum 0 l.s)
