-- `proposer_lists::set_propose` meets its contract: the area with another propose list is the image of the state with it.
-- Assumes nothing.
use mathlib.Core.Path.{refl}
use mathlib.Core.List.{List}
use Prim.Native.Nat.{ℕ, ◌+◌, ◌≤◌, ◌<◌}
use native.Mathlib.Omega.{arith}
use lib.ListN.{length}
use Rattle.proposer_place.specs.Area.{propose_list_at, propose_count_at, list_bytes}
use Rattle.proposer_area.specs.Turns.{sized_of}
use Rattle.proposer_area.specs.Held.{Held}
use Rattle.proposer_lists.specs.ListLaws.{propose_set, propose_held, list_short}
use Rattle.proposer_lists.proofs.set_propose.Goals as goal

row_room : (a : List ℕ) (n : ℕ) → Held a n → propose_list_at + list_bytes ≤ length a
row_room a n held = omega (arith, (sized_of a n held.sized).bytes)

count_room : (a : List ℕ) (n : ℕ) → Held a n → propose_count_at < length a
count_room a n held = omega (arith, (sized_of a n held.sized).bytes)

pub put_list-requires : goal.put_list-requires
put_list-requires c =
    let area = c.args.area.now in
    (row_room area.bytes.now area.places area.held, count_room area.bytes.now area.places area.held, search list_short)

pub invariant_of-area : goal.invariant_of-area
invariant_of-area c =
    let area = c.args.area.now in
    record { held = propose_held area.bytes.now area.places c.args.list.now _ area.held c.requires (λ i. (c.type_inv.list i).fits) c.put_list.ensures }

pub returns : goal.returns
returns c =
    let area = c.args.area.now in
    record {
      image = propose_set area.bytes.now area.places c.args.list.now _ area.held c.requires c.put_list.ensures;
      lent = refl;
      places = refl;
    }
