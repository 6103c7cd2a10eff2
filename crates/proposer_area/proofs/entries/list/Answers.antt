-- `proposer_area::entries::list` meets its contract: the chunks of the part are the entries.
-- Assumes nothing.
use Rattle.std.proofs.Common.{◌≡◌, List, ℕ, ◌+◌, ◌-◌, ◌*◌, ◌/◌, ◌≤◌, length, take, drop, arith, ◌∙◌}
use Rattle.std.specs.Simd.{first_chunks}
use Rattle.leaf_fields.specs.Laws.{length-part}
use Rattle.messages.specs.Answers.{entries}
use Rattle.proposer_place.specs.Rows.{numbers}
use Rattle.std.specs.List.{flat_map}
use Rattle.proposer_area.specs.Entries.{entries_are, chunks_flat}
use Rattle.proposer_area.proofs.entries.list.Goals as goal

by_count : (s : List ℕ) (at n : ℕ) (l : List (List ℕ)) → at + 2 * n ≤ length s → l ≡ first_chunks 2 (length (take (at + 2 * n - at) (drop at s)) / 2) (take (at + 2 * n - at) (drop at s)) → length l ≡ length (take (at + 2 * n - at) (drop at s)) / 2 → (numbers l ≡ entries s at n) × (length l ≡ n) × (flat_map (λ e. e) l ≡ take (2 * n) (drop at s))
by_count s at n l room e el =
    let many : at + 2 * n - at ≡ 2 * n = omega arith in
    let long : length (take (2 * n) (drop at s)) ≡ 2 * n = length-part s at (2 * n) room in
    let half : length (take (2 * n) (drop at s)) / 2 ≡ n = grind arith in
    (entries_are s at n (length (take (2 * n) (drop at s)) / 2) l room half (rw many at e), rw many at el ∙ half, rw (rw many at e) (chunks_flat (length (take (2 * n) (drop at s)) / 2) (take (2 * n) (drop at s)) (omega (arith, long, half))))

pub returns : goal.returns
returns c =
    by_count c.args.s.now c.args.at c.args.n _ c.requires c.as_chunks.ensures.front c.as_chunks.ensures.front_len
