-- `script_words::bytes::digits` meets its contract: what stands behind the first byte, where it is not too long.
-- Assumes nothing.
use Rattle.std.proofs.Common.{rules, arith, ◌≡◌, refl, ℕ, ◌-◌, ◌≤◌, ◌<◌, List, [], ◌∷◌, length, length-drop, take, drop}
use Rattle.std.proofs.Math.Seq.{take-length}
use borrow.Author.Tests.{lt-ltb, le-ltb}
use Rattle.script_words.specs.Text.{unhexed, bytes_of}
use Rattle.script_words.proofs.bytes.digits.Goals as goal

abbrev behind : List ℕ → List ℕ
behind w = take (length w - 1) (drop 1 w)

all_behind : (w : List ℕ) → behind w ≡ drop 1 w
all_behind w = rw (← length-drop 1 w, take-length (drop 1 w)) refl

fits : (w : List ℕ) → length (behind w) ≤ 1200 → bytes_of w ≡ unhexed (behind w)
unfolding bytes_of
fits w h =
    let k : length w ≤ 1201 = omega (arith, rw (all_behind w, length-drop 1 w) at h) in
    rw (le-ltb 1201 (length w) k, all_behind w) refl

too_long : (w : List ℕ) → 1200 < length (behind w) → bytes_of w ≡ unhexed []
unfolding bytes_of unhexed
too_long w h =
    let k : 1201 < length w = omega (arith, rw (all_behind w, length-drop 1 w) at h) in
    rw (lt-ltb 1201 (length w) k) refl

empty : (w : List ℕ) → length w < 1 → bytes_of w ≡ unhexed []
unfolding bytes_of unhexed
empty [] h = refl
empty (b ∷ l) h = absurd (omega arith)

pub returns-in_default : goal.returns-in_default
returns-in_default c = search empty

pub returns-then-digits : goal.returns-then-digits
returns-then-digits c = search (rules, fits)

pub returns-else-digits : goal.returns-else-digits
returns-else-digits c = search (rules, too_long)
