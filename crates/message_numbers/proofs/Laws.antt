-- A row of tests of one number, as the code goes through it: the first that holds decides, and one that doesn't hold leaves it to the rest.
-- Assumes nothing.
use mathlib.Core.Path.{◌≡◌}
use mathlib.Core.Bool.{cond}
use Prim.Native.Nat.{ℕ}
use borrow.Author.Tests.{eq-eqb, ne_eqb}
use lib.Dec.{eqb}

pub hit : {A : Type 0} (n k : ℕ) (r x y : A) → n ≡ k → r ≡ x → r ≡ cond (eqb n k) x y
hit n k r x y e f = rw (eq-eqb n k e, f)

pub miss : {A : Type 0} (n k : ℕ) (r x y : A) → (n ≡ k → ⊥) → r ≡ y → r ≡ cond (eqb n k) x y
miss n k r x y e f = rw (ne_eqb n k e, f)
