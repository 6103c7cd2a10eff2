-- `proposer_lists::write_row` meets its contract. The loop's invariant: what is left to store gives the final row.
-- Assumes nothing.
use mathlib.Core.Path.{◌≡◌, ap, ◌∙◌}
use mathlib.Core.List.{List}
use Prim.Native.Nat.{ℕ, suc, ◌+◌, ◌*◌, ◌≤◌, ◌<◌}
use native.Mathlib.Numerals.{add-one}
use native.Mathlib.Omega.{arith}
use lib.ListN.{length, get_or, drop, replicate, drop_of_length-le}
use lib.Seq.{sets, drop-cons}
use Rattle.leaf_fields.specs.Stores.{sets_join, sets_zeros}
use Rattle.leaf_fields.specs.Fields.{to_le}
use Rattle.leaf_fields.specs.Laws.{length-to_le}
use Rattle.messages.specs.Limits.{list_most}
use Rattle.messages.specs.Answers.{entry_bytes}
use Rattle.proposer_place.specs.Area.{list_bytes, list_row}
use Rattle.proposer_place.specs.AreaRows.{length_entries}
use borrow.Author.Rules.{rules}
use Rattle.proposer_lists.proofs.write_row.Goals as goal

zeros_hold : (d₀ d list : List ℕ) → length d₀ ≡ list_bytes → length list ≤ list_most → d ≡ replicate (length d₀) 0 → sets d (2 * 0) (entry_bytes list) ≡ list_row list
unfolding list_row
zeros_hold d₀ d list size short e =
    ap (λ (r : List ℕ). sets r 0 (entry_bytes list)) (e ∙ ap (λ (k : ℕ). replicate k 0) size)
    ∙ sets_zeros list_bytes (entry_bytes list) (omega (arith, length_entries list))

one_more : (d d₁ list r : List ℕ) (i : ℕ) → i < length list → sets d (2 * i) (entry_bytes (drop i list)) ≡ r → d₁ ≡ sets d (2 * i) (to_le 2 (get_or list i 0)) → sets d₁ (2 * (i + 1)) (entry_bytes (drop (i + 1) list)) ≡ r
unfolding entry_bytes
one_more d d₁ list r i more here e =
    let rest : List ℕ = drop (suc i) list in
    rw add-one
    (ap (λ (u : List ℕ). sets u (2 * suc i) (entry_bytes rest)) e
    ∙ sets_join d (to_le 2 (get_or list i 0)) (entry_bytes rest) (2 * i) (2 * suc i) (omega (arith, length-to_le 2 (get_or list i 0)))
    ∙ (rw (drop-cons list i 0 more) at here))

all_stored : (d list r : List ℕ) (i : ℕ) → length list ≤ i → sets d (2 * i) (entry_bytes (drop i list)) ≡ r → d ≡ r
unfolding entry_bytes
all_stored d list r i past e = rw (drop_of_length-le list past) at e

pub loop-i-init : goal.loop-i-init
loop-i-init c = (search rules, search zeros_hold)

pub loop-i-preserved : goal.loop-i-preserved
loop-i-preserved c = (search rules, one_more _ _ _ _ _ c.loop-i-test.true c.loop-i.invariant.1 c.write.ensures)

pub returns : goal.returns
returns c = search all_stored
