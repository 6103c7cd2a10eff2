-- `proposer_request::request` meets its contract: each return is a case of the rules' outcome.
-- Assumes nothing.
use mathlib.Core.Path.{◌≡◌, refl, sym}
use mathlib.Core.List.{List, [], ◌++◌}
use Rattle.std.specs.Prelude.{None}
use Prim.Native.Nat.{ℕ, ◌+◌, ◌-◌, ◌*◌, ◌≤◌, ◌<◌}
use lib.ListN.{length, take, drop}
use Rattle.proposer_place.specs.Area.{place_image, read_places, read_area}
use lib.Seq.{sets}
use Rattle.proposer_place.specs.Front.{front_bytes, place_rows}
use Rattle.proposer_area.specs.Places.{place_at, place_in, free_of}
use Rattle.proposer_area.specs.PlacesLaws.{free_some}
use Rattle.messages.specs.Answers.{entry_bytes}
use Rattle.proposer_area.specs.State.{state}
use Rattle.proposer_area.specs.Held.{Held}
use Rattle.proposer_area.specs.HeldLaws.{free_place, counter_held}
use Rattle.proposer_request.specs.Order.{asked_in}
use Rattle.proposer_request.specs.RequestLaws.{request_held, counter_refused, room_refused, request_sizes, request_small, request_taken}
use Rattle.proposer_works.specs.Room.{held_header, propose_few, entries_end, entries_sent}
use borrow.Author.Rules.{rules}
use native.Mathlib.Omega.{arith}
use Rattle.proposer_request.proofs.request.Goals as goal
use Rattle.proposer_request.proofs.request.Goals.{After-fill_place}

-- the lowest free place is free
free_there : (a : List ℕ) (n i : ℕ) → Held a n → i ≡ free_of (read_places a 80 n) → i < n → place_in a i ≡ place_image None
unfolding read_area
free_there a n i held e lt = free_place a n held i lt (free_some (read_places a 80 n) i (sym e) (omega (arith, lt, held.lawful.full))).there

pub returns-then-h : goal.returns-then-h
returns-then-h c =
    let a = c.args.area.now in
    let o = c.args.order in
    record { worked = counter_refused a.bytes.now c.args.answer.now a.places c.header-h.result c.args.from c.args.at c.args.id (asked_in o) a.held c.header-h.ensures.0 c.if-h.true; lent = refl; places = refl }

pub returns-in_default : goal.returns-in_default
unfolding read_area
returns-in_default c =
    let a = c.args.area.now in
    let o = c.args.order in
    record { worked = room_refused a.bytes.now c.args.answer.now a.places c.header-h.result c.args.from c.args.at c.args.id (asked_in o) a.held c.header-h.ensures.0 a.places (search rules) c.if-h.false (sym c.in_default.ensures) refl; lent = refl; places = refl }

pub send-sent-requires : goal.send-sent-requires
send-sent-requires c =
    let a = c.args.area.now in
    let o = c.args.order in
    (search rules, search rules, (request_sizes c.args.from c.args.id o.req o.key.now o.value.now o.other.now c.requires.1).0, rw c.propose_list-list.ensures.1 a.held.lawful.propose.short)

pub slice_bounds-rows-end : goal.slice_bounds-rows-end
slice_bounds-rows-end c =
    let a = c.args.area.now in
    let header = c.header-h in
    entries_end c.args.answer.now _ [] c.args.order.key.now (entry_bytes (state a).propose_acceptors) a.places header.result.propose c.requires.0 (rw c.propose_list-list.ensures.0 at c.send-sent.ensures.0)
    (propose_few a.bytes.now a.places header.result a.held header.ensures.0)

pub fill_place-requires : goal.fill_place-requires
unfolding read_area
fill_place-requires c =
    let a = c.args.area.now in
    let o = c.args.order in
    let header = c.header-h in
    let free = c.in-Some in
    let none = c.default.ensures in
    let within = free.ensures.1 in
    let sizes = request_sizes c.args.from c.args.id o.req o.key.now o.value.now o.other.now c.requires.1 in
    let few = propose_few a.bytes.now a.places header.result a.held header.ensures.0 in
    let waited = entries_sent c.args.answer.now _ [] o.key.now (entry_bytes (state a).propose_acceptors) a.places header.result.propose c.requires.0 (rw c.propose_list-list.ensures.0 at c.send-sent.ensures.0) few in
    let first : length c.first.result.now ≤ 256 = rw c.first.ensures sizes.1 in
    let second : length c.second.result.now ≤ 256 = rw c.second.ensures sizes.2 in (
      free_there a.bytes.now a.places free.i a.held free.ensures.0 within,
      request_small a.bytes.now c.args.answer.now a.places header.result c.args.from c.args.at c.args.id o.req o.key.now o.value.now o.other.now a.held c.requires.0 c.requires.1 header.ensures.0 _ o.key_numbers o.value_numbers o.other_numbers (search rules) (search rules) (search rules) (search rules) c.if-h.false c.front-front.ensures,
      record { waited = omega (arith, waited, few); yes = rw none.1.0 (omega arith); no = rw none.1.1.0 (omega arith); key = sizes.0; values = omega (arith, first, second); promised = rw none.1.1.1.1.1.1 (omega arith) },
    )

-- the place as it is filled
place_filled : (c : After-fill_place) → let a = c.args.area.now.bytes.now in c.fill_place.new.area ≡ sets a (place_at c.in-Some.i) (place_rows (front_bytes c.front-front.result) (take (320 + 2 * c.header-h.result.propose - 320) (drop 320 c.send-sent.new.answer)) [] [] c.args.order.key.now (c.first.result.now ++ c.second.result.now) [])
place_filled c =
    let none = c.default.ensures in
    rw (none.1.0, none.1.1.0, none.1.1.1.1.1.1) at c.fill_place.ensures

-- the area with the place taken
filled : (c : After-fill_place) → Held c.fill_place.new.area c.args.area.now.places
filled c =
    let a = c.args.area.now in
    let o = c.args.order in
    let header = c.header-h in
    request_held a.bytes.now c.args.answer.now a.places header.result c.args.from c.args.at c.args.id o.req o.key.now o.value.now o.other.now a.held c.requires.0 c.requires.1 header.ensures.0 c.in-Some.i c.first.result.now c.second.result.now c.front-front.result _ _ o.key_numbers o.value_numbers o.other_numbers (search rules) (search rules) (search rules) (search rules) c.if-h.false c.in-Some.ensures.1 c.first.ensures c.second.ensures c.front-front.ensures
    (rw c.propose_list-list.ensures.0 at c.send-sent.ensures.0) (place_filled c)

pub invariant_of-area : goal.invariant_of-area
invariant_of-area c = record { held = filled (goal.at.invariant_of-area c).After-fill_place }

pub put_counter-requires : goal.put_counter-requires
put_counter-requires c = omega (arith, held_header _ _ (filled (goal.at.put_counter-requires c).After-fill_place))

pub invariant_of-area-2 : goal.invariant_of-area-2
invariant_of-area-2 c =
    record { held = counter_held _ _ _ _ (filled (goal.at.invariant_of-area-2 c).After-fill_place) (omega (arith, c.if-h.false, c.header-h.ensures.1)) c.put_counter.ensures }

pub returns : goal.returns
unfolding read_area
returns c =
    let a = c.args.area.now in
    let o = c.args.order in
    let header = c.header-h in
    let free = c.in-Some in
    record {
      worked = request_taken a.bytes.now c.args.answer.now a.places header.result c.args.from c.args.at c.args.id o.req o.key.now o.value.now o.other.now a.held c.requires.0 c.requires.1 header.ensures.0 free.i c.first.result.now c.second.result.now c.front-front.result _ _ _ _ o.key_numbers o.value_numbers o.other_numbers (search rules) (search rules) (search rules) (search rules) c.if-h.false free.ensures.0 (omega (arith, free.ensures.1)) (λ e. absurd (omega (arith, free.ensures.1))) c.first.ensures c.second.ensures c.front-front.ensures
          (rw c.propose_list-list.ensures.0 at c.send-sent.ensures.0) (place_filled (goal.at.returns c).After-fill_place) c.put_counter.ensures (rw c.propose_list-list.ensures.0 at c.send-sent.ensures.1);
      lent = refl;
      places = refl;
    }
