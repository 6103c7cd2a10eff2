-- `script_words::put::put_number` meets its contract. The loop's invariant: the digits that are left, before those in their places, are the number's.
-- Assumes nothing.
use Rattle.std.proofs.Common.{◌≡◌, ◌≤◌, length, drop}
use Rattle.script_words.specs.Written.{digits_before, decimal}
use Rattle.script_words.proofs.put.put_number.Given as goal

abbrev pub invariant-loop-i : goal.invariant-loop-i
invariant-loop-i l =
    (l.i ≤ 20) × (length l.digits ≡ 20) × (l.out ≡ l.initial.out) × (digits_before l.i l.rest (drop l.i l.digits) ≡ decimal l.n)

abbrev pub decreases-loop-i : goal.decreases-loop-i
decreases-loop-i l = l.i
