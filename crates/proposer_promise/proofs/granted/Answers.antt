-- `proposer_promise::granted` meets its contract: each return is a case of the rules' outcome.
-- Assumes nothing.
use Rattle.std.specs.Prelude.{Option, None, Some}
use mathlib.Core.Path.{◌≡◌, refl}
use mathlib.Core.Bool.{true}
use mathlib.Core.List.{List}
use Prim.Native.Nat.{ℕ, ◌<◌, ◌^◌}
use borrow.Author.Tests.{leb-true}
use lib.ListN.{length}
use Rattle.leaf_fields.specs.Fields.{byte, Bytes}
use Rattle.leaf_fields.specs.Rows.{bytes_none}
use Rattle.messages.specs.declared.Address.{Address}
use Rattle.messages.specs.declared.Ballot.{Ballot}
use Rattle.messages.specs.declared.Lent.{Lent}
use Rattle.messages.specs.Message.{given}
use Rattle.messages.specs.Limits.{value_most, option_fits}
use Rattle.messages.specs.Answers.{bytes_of}
use Rattle.proposer_rules.specs.Rules.{promised_by}
use Rattle.proposer_place.specs.Area.{read_pending}
use Rattle.proposer_place.specs.AreaLaws.{Short, Lawful}
use Rattle.proposer_area.specs.Places.{place_in}
use Rattle.proposer_area.specs.Held.{Held}
use Rattle.proposer_area.specs.HeldLaws.{lawful_pending}
use Rattle.proposer_works.specs.Works.{Asks}
use Rattle.proposer_promise.specs.GrantLaws.{noted_held, noted_pends, promised_lawful, promise_refused, promise_noted, promise_settled}
use Rattle.proposer_works.specs.Room.{held_used}
use borrow.Author.Rules.{rules}
use native.Mathlib.Omega.{arith}
use Rattle.proposer_promise.proofs.granted.Goals as goal
use Rattle.proposer_promise.proofs.granted.Goals.{Else-not-above}

-- the promised value, within the limits, fits its row
short_value : (mark : Option Lent) (v : List ℕ) → ((j : ℕ) → byte v j < 256) → option_fits (given mark v) ≡ true → Short value_most (bytes_of (given mark v))
unfolding Bytes
short_value None v bytes fits = record { short = omega arith; bytes = bytes_none }
short_value (Some mark) v bytes fits = record { short = leb-true (length v) value_most fits; bytes = bytes }

-- what is noted is lawful
lawful_noted : (a : List ℕ) (n i : ℕ) (from : Address) (accepted : Ballot) (mark : Option Lent) (v : List ℕ) → Held a n → Asks a n i → from.0 < 2 ^ 16 → accepted.0 < 2 ^ 64 → ((j : ℕ) → byte v j < 256) → option_fits (given mark v) ≡ true → Lawful (promised_by (read_pending (place_in a i)) from accepted (given mark v))
lawful_noted a n i from accepted mark v held asks hf ha bytes fits =
    promised_lawful (read_pending (place_in a i)) from accepted (given mark v) (lawful_pending a n held i asks.pends) hf asks.more_yeses ha (short_value mark v bytes fits)

lawful_at : (c : Else-not-above) → let a = c.args in Lawful (promised_by (read_pending (place_in a.area.now.bytes.now a.i)) a.from a.accepted.ballot (given a.accepted.mark a.accepted.bytes.now))
lawful_at c =
    let a = c.args in
    lawful_noted a.area.now.bytes.now a.area.now.places a.i a.from a.accepted.ballot a.accepted.mark a.accepted.bytes.now c.args.area.now.held c.requires.1 (search rules) (search rules) a.accepted.numbers a.accepted.fits

pub take_place-f-requires : goal.take_place-f-requires
take_place-f-requires c = c.requires.1.pends.within

pub returns-then-not-above : goal.returns-then-not-above
returns-then-not-above c =
    let place = c.take_place-f in
    record { worked = promise_refused c.args.area.now.bytes.now c.args.answer.now c.args.area.now.places c.args.i place.result c.args.from c.args.accepted.ballot (given c.args.accepted.mark c.args.accepted.bytes.now) c.args.area.now.held c.requires.1 place.ensures.0 _ _ refl c.above.ensures c.if-not-above.true; lent = refl; places = refl }

pub note_promise-requires : goal.note_promise-requires
note_promise-requires c = (search held_used, search rules, search rules)

pub returns-then-short_of : goal.returns-then-short_of
returns-then-short_of c =
    let place = c.take_place-f in
    record { worked = promise_noted c.args.area.now.bytes.now c.args.answer.now c.args.area.now.places c.args.i place.result c.args.from c.args.accepted.ballot (given c.args.accepted.mark c.args.accepted.bytes.now) c.args.area.now.held c.requires.1 place.ensures.0 _ _ _ refl c.above.ensures c.if-not-above.false c.short_of.ensures _ c.note_promise.ensures (lawful_at (goal.at.returns-then-short_of c).Else-not-above) c.if-short_of.true; lent = refl; places = refl }

pub invariant_of-area : goal.invariant_of-area
invariant_of-area c =
    let area = c.args.area.now in
    let lawful = lawful_at (goal.at.invariant_of-area c).Else-not-above in
    record { held = noted_held area.bytes.now area.places c.args.i (promised_by (read_pending (place_in area.bytes.now c.args.i)) c.args.from c.args.accepted.ballot (given c.args.accepted.mark c.args.accepted.bytes.now)) area.held c.requires.1.pends.within lawful _ c.note_promise.ensures }

pub to_accept-requires : goal.to_accept-requires
to_accept-requires c =
    let area = c.args.area.now in
    let lawful = lawful_at (goal.at.to_accept-requires c).Else-not-above in
    (c.requires.0, noted_pends area.bytes.now area.places c.args.i (promised_by (read_pending (place_in area.bytes.now c.args.i)) c.args.from c.args.accepted.ballot (given c.args.accepted.mark c.args.accepted.bytes.now)) area.held c.requires.1.pends.within lawful _ c.note_promise.ensures)

pub returns : goal.returns
returns c =
    let place = c.take_place-f in
    record { worked = promise_settled c.args.area.now.bytes.now c.args.answer.now c.args.area.now.places c.args.i place.result c.args.from c.args.accepted.ballot (given c.args.accepted.mark c.args.accepted.bytes.now) c.args.area.now.held c.requires.1 place.ensures.0 _ _ _ refl c.above.ensures c.if-not-above.false c.short_of.ensures _ c.note_promise.ensures (lawful_at (goal.at.returns c).Else-not-above) _ _ _ c.if-short_of.false c.to_accept.ensures.worked; lent = c.to_accept.ensures.lent; places = c.to_accept.ensures.places }
