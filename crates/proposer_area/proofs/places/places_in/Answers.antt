-- `proposer_area::places::places_in` meets its contract: the chunks behind the header are as many as the places.
-- Assumes nothing.
use Rattle.std.proofs.Common.{◌≡◌, List, ℕ, length, take, drop, arith, ◌∙◌, ◌≤◌, ◌-◌, ◌/◌, length-drop}
use Rattle.std.proofs.lemmas.List.{take_rest}
use Rattle.std.specs.Simd.{first_chunks}
use Rattle.proposer_area.specs.Places.{places_in}
use Rattle.proposer_area.proofs.places.places_in.Goals as goal

by_count : (a : List ℕ) (l : List (List ℕ)) (n : ℕ) → 80 ≤ length a → l ≡ first_chunks 976 (length (take (length a - 80) (drop 80 a)) / 976) (take (length a - 80) (drop 80 a)) → length (take (length a - 80) (drop 80 a)) / 976 ≡ n → l ≡ places_in a n
by_count a l n room e same = e ∙ rw (same, take_rest a 80)

long : (a : List ℕ) → length (take (length a - 80) (drop 80 a)) ≡ length a - 80
long a = rw (take_rest a 80) (length-drop 80 a)

pub returns : goal.returns
returns c n h =
    by_count _ _ n c.requires c.as_chunks.ensures.front (let e = long c.args.area.now in grind arith)
