-- `leaf_fields::copy` meets its contract. The loop's invariant: what is left to store gives the final row.
-- Assumes nothing.
use mathlib.Core.Path.{◌≡◌, refl}
use mathlib.Core.List.{List}
use Prim.Native.Nat.{ℕ, suc, ◌+◌, ◌≤◌, ◌<◌}
use native.Mathlib.Nat.{add-zero}
use native.Mathlib.Numerals.{add-one}
use lib.ListN.{length, get_or, drop, set, drop_of_length-le}
use lib.Seq.{sets, drop-cons}
use borrow.Author.Rules.{rules}
use native.Mathlib.Omega.{arith}
use Rattle.leaf_fields.proofs.copy.Goals as goal

turn : (d s r : List ℕ) (at i : ℕ) → i < length s → sets d (at + i) (drop i s) ≡ r → sets (set d (at + i) (get_or s i 0)) (at + (i + 1)) (drop (i + 1) s) ≡ r
turn d s r at i more e =
    let e2 : at + (i + 1) ≡ suc (at + i) = omega arith in
    rw (e2, add-one) (rw (drop-cons s i 0 more) at e)

done : (d s r : List ℕ) (at i : ℕ) → length s ≤ i → sets d (at + i) (drop i s) ≡ r → d ≡ r
done d s r at i past e = rw (drop_of_length-le s past) at e

pub loop-i-init : goal.loop-i-init
loop-i-init c = (search rules, refl, simp add-zero)

pub loop-i-preserved : goal.loop-i-preserved
loop-i-preserved c = (search rules, search rules, search turn)

pub returns : goal.returns
returns c = search done
