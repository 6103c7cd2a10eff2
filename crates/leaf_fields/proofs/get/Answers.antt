-- `leaf_fields::get` meets its contract. The loop's invariant: x is the number in the bytes from i on, and has no more digits than those.
-- Assumes nothing.
use mathlib.Core.Path.{◌≡◌, refl}
use mathlib.Core.List.{List}
use Prim.Native.Nat.{ℕ, suc, ◌+◌, ◌-◌, ◌*◌, ◌^◌, ◌≤◌, ◌<◌}
use native.Mathlib.Nat.{pow-suc, pow-le-pow_right, le_refl}
use lib.Dec.{lit<}
use lib.ListN.{length}
use Rattle.leaf_fields.specs.Fields.{from_le, part, byte}
use Rattle.leaf_fields.specs.Laws.{part_front}
use borrow.Author.Rules.{rules}
use native.Mathlib.Omega.{arith}
use Rattle.leaf_fields.proofs.get.Goals as goal

turn : (s : List ℕ) (at n i x : ℕ) → 0 < i → i ≤ n → at + n ≤ length s → x ≡ from_le (part s (at + i) (n - i)) → x * 256 + byte s (at + (i - 1)) ≡ from_le (part s (at + (i - 1)) (n - (i - 1)))
turn s at n i x pos low room e =
    let e1 : n - (i - 1) ≡ suc (n - i) = omega arith in
    let e2 : suc (at + (i - 1)) ≡ at + i = omega arith in
    let p = rw e2 at (part_front s (at + (i - 1)) (n - i) (omega arith)) in
    rw e1 (omega arith)

grows : (n i x b : ℕ) → 0 < i → i ≤ n → x < 256 ^ (n - i) → b < 256 → x * 256 + b < 256 ^ (n - (i - 1))
grows n i x b pos low h hb =
    let e1 : n - (i - 1) ≡ suc (n - i) = omega arith in
    rw e1 (omega (arith, pow-suc 256 (n - i)))

fits : (n i x b : ℕ) → 0 < i → i ≤ n → n ≤ 8 → x < 256 ^ (n - i) → b < 256 → x * 256 + b < 2 ^ 64
fits n i x b pos low most h hb = omega (arith, pow-le-pow_right {n = 256} (lit< tt) {i = n - i} {j = 7} (omega arith))

pub loop-i-init : goal.loop-i-init
unfolding from_le
loop-i-init c =
    let e : c.args.n - c.args.n ≡ 0 = omega arith in
    (le_refl _, rw e refl, rw e (lit< tt))

pub overflow_mul-x : goal.overflow_mul-x
overflow_mul-x c = omega (arith, fits c.args.n c.loop-i.i c.loop-i.x 0 (search rules) (search rules) (search rules) (search rules) (lit< tt))

pub overflow_add-x-in-loop-i : goal.overflow_add-x-in-loop-i
overflow_add-x-in-loop-i c =
    let b = c.type_inv.s (c.args.at + (c.loop-i.i - 1)) in
    record { fits = fits c.args.n c.loop-i.i c.loop-i.x _ (search rules) (search rules) (search rules) (search rules) b.fits }

pub loop-i-preserved : goal.loop-i-preserved
loop-i-preserved c =
    let a = c.args in
    let l = c.loop-i in
    let b = c.type_inv.s (a.at + (l.i - 1)) in (
      search rules,
      turn a.s.now a.at a.n l.i l.x (search rules) (search rules) (search rules) l.invariant.1,
      grows a.n l.i l.x _ (search rules) (search rules) l.invariant.2 b.fits,
    )
