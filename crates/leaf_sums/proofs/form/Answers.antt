-- `leaf_sums::form` meets its contract. The loop's invariant: each sum so far, with the sum of what is left, is the whole sum.
-- Assumes nothing.
use mathlib.Core.Path.{◌≡◌, ap}
use mathlib.Core.List.{List, []}
use Prim.Native.Nat.{ℕ, ◌+◌, ◌*◌, ◌^◌, ◌≤◌, ◌<◌}
use lib.ListN.{length, get_or, drop, drop_of_length-le}
use Rattle.leaf_fields.specs.Fields.{Bytes}
use Rattle.leaf_sums.specs.Sums.{plain_sum, placed_sum, plain_front, placed_front, plain_most, placed_most}
use native.Mathlib.Omega.{arith}
use Rattle.leaf_sums.proofs.form.Goals as goal
use Rattle.leaf_sums.proofs.form.Goals.{In-loop-i}

-- both sums fit while a byte is added
fit : (s : List ℕ) (i plain placed : ℕ) → Bytes s → length s ≤ 4096 → i < length s → plain + plain_sum (drop i s) ≡ plain_sum s → placed + placed_sum i (drop i s) ≡ placed_sum 0 s → (plain + get_or s i 0 < 2 ^ 32) × (placed + (i + 1) * get_or s i 0 < 2 ^ 32)
fit s i plain placed h short more p q =
    (omega (arith, plain_most s h, plain_front s i more), omega (arith, placed_most 4096 0 s (omega arith) h, placed_front s i more))

turn : (c : In-loop-i) → (c.loop-i.plain + get_or c.args.s.now c.loop-i.i 0 < 2 ^ 32) × (c.loop-i.placed + (c.loop-i.i + 1) * get_or c.args.s.now c.loop-i.i 0 < 2 ^ 32)
unfolding Bytes
turn c =
    let l = c.loop-i in
    fit c.args.s.now l.i l.plain l.placed (λ i. (c.type_inv.s i).fits) c.requires c.loop-i-test.true l.invariant.0 l.invariant.1

pub overflow_add-plain : goal.overflow_add-plain
overflow_add-plain c = omega (arith, turn (goal.at.overflow_add-plain c).In-loop-i)

pub overflow_add-placed-in-loop-i : goal.overflow_add-placed-in-loop-i
overflow_add-placed-in-loop-i c = omega (arith, turn (goal.at.overflow_add-placed-in-loop-i c).In-loop-i)

pub loop-i-preserved : goal.loop-i-preserved
loop-i-preserved c =
    let l = c.loop-i in
    let s = c.args.s.now in
    let more = c.loop-i-test.true in
    (omega (arith, plain_front s l.i more), omega (arith, placed_front s l.i more))

pub returns : goal.returns
unfolding plain_sum placed_sum
returns c =
    let e : drop c.loop-i.i c.args.s.now ≡ [] = drop_of_length-le c.args.s.now c.loop-i-test.false in
    (omega (arith, ap plain_sum e), omega (arith, ap (placed_sum c.loop-i.i) e))
