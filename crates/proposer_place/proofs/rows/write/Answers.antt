-- `proposer_place::rows::write` meets its contract: copies into rows of zeros, the second value directly behind the first, and the front.
-- Assumes nothing.
use mathlib.Core.Path.{◌≡◌}
use mathlib.Core.List.{List, ◌++◌}
use Prim.Native.Nat.{ℕ, ◌+◌, ◌≤◌}
use lib.ListN.{length, replicate}
use lib.Seq.{sets}
use Rattle.proposer_place.specs.declared.front.Front.{Front}
use Rattle.proposer_place.specs.Front.{front_bytes, place_rows}
use Rattle.proposer_place.specs.FrontLaws.{length-front_bytes}
use Rattle.proposer_place.specs.PlaceRows.{lists_written, place_written}
use Rattle.proposer_place.proofs.rows.write.Goals as goal

written : (w y n k v₁ v₂ p b n₁ n₂ n₃ n₄ n₅ n₆ n₇ n₈ : List ℕ) (f : Front) → length w ≤ 30 → length y ≤ 30 → length n ≤ 30 → length k ≤ 64 → length v₁ + length v₂ ≤ 512 → length p ≤ 256 → b ≡ replicate 976 0 → n₁ ≡ sets b 52 w → n₂ ≡ sets n₁ 82 y → n₃ ≡ sets n₂ 112 n → n₄ ≡ sets n₃ 144 k → n₅ ≡ sets n₄ 208 v₁ → n₆ ≡ sets n₅ (208 + length v₁) v₂ → n₇ ≡ sets n₆ 720 p → n₈ ≡ sets n₇ 0 (front_bytes f) → n₈ ≡ place_rows (front_bytes f) w y n k (v₁ ++ v₂) p
written w y n k v₁ v₂ p b n₁ n₂ n₃ n₄ n₅ n₆ n₇ n₈ f lw ly ln lk lv lp e e₁ e₂ e₃ e₄ e₅ e₆ e₇ e₈ =
    rw (e₈, e₇, e₆, e₅, e₄, e₃, e₂, e₁, e, lists_written w y n lw ly ln)
    (place_written w y n lw ly ln (front_bytes f) k v₁ v₂ p (length-front_bytes f) lk lv lp)

pub returns : goal.returns
returns c =
    let fit = c.requires.2 in
    written _ _ _ _ _ _ _ _ _ _ _ _ _ _ _ _ _ fit.waited fit.yes fit.no fit.key fit.values fit.promised c.requires.0 c.copy.ensures c.copy-2.ensures c.copy-3.ensures c.copy-4.ensures c.copy-5.ensures c.copy-6.ensures c.copy-7.ensures c.put.ensures
