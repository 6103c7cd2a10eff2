-- `leaf_fields::put` meets its contract. The loop's invariant: what is left to store gives the final row.
-- Assumes nothing.
use mathlib.Core.Path.{◌≡◌}
use mathlib.Core.List.{List}
use Prim.Native.Nat.{ℕ, suc, ◌+◌, ◌-◌, ◌/◌, ◌%◌, ◌≤◌, ◌<◌}
use lib.ListN.{set}
use lib.Seq.{sets}
use Rattle.leaf_fields.specs.Fields.{to_le}
use borrow.Author.Rules.{rules}
use native.Mathlib.Omega.{arith}
use Rattle.leaf_fields.proofs.put.Goals as goal

turn : (d r : List ℕ) (at n i v : ℕ) → i < n → sets d (at + i) (to_le (n - i) v) ≡ r → sets (set d (at + i) (v % 256)) (at + (i + 1)) (to_le (n - (i + 1)) (v / 256)) ≡ r
unfolding to_le
turn d r at n i v more e =
    let e1 : n - i ≡ suc (n - (i + 1)) = omega arith in
    let e2 : at + (i + 1) ≡ suc (at + i) = omega arith in
    rw e2 (rw e1 at e)

done : (d r : List ℕ) (at n i v : ℕ) → n ≤ i → sets d (at + i) (to_le (n - i) v) ≡ r → d ≡ r
unfolding to_le
done d r at n i v past e =
    let e1 : n - i ≡ 0 = omega arith in
    rw e1 at e

pub loop-i-preserved : goal.loop-i-preserved
loop-i-preserved c = (search rules, search rules, search turn)

pub returns : goal.returns
returns c = search done
