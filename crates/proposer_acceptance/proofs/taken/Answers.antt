-- `proposer_acceptance::taken` meets its contract: short of a majority the yes is noted, else the request is settled.
-- Assumes nothing.
use mathlib.Core.Path.{refl}
use Rattle.proposer_acceptance.specs.AcceptanceLaws.{acceptance_noted, acceptance_settled}
use Rattle.proposer_area.specs.HeldLaws.{lawful_pending, place_held}
use Rattle.proposer_place.specs.PlaceLaws.{lawful_yes}
use Rattle.proposer_works.specs.Room.{held_used}
use borrow.Author.Rules.{rules}
use Rattle.proposer_acceptance.proofs.taken.Goals as goal

pub take_place-f-requires : goal.take_place-f-requires
take_place-f-requires c = c.requires.1.pends.within

pub note_yes-requires : goal.note_yes-requires
note_yes-requires c =
    (held_used _ _ _ c.args.area.now.held c.requires.1.pends, c.requires.1.more_yeses)

pub returns-then-short_of : goal.returns-then-short_of
returns-then-short_of c =
    let place = c.take_place-f in
    let few = c.short_of in
    record { worked = acceptance_noted c.args.area.now.bytes.now c.args.answer.now c.args.area.now.places c.args.i place.result c.args.from few.result c.args.area.now.held c.requires.1 place.ensures.0 few.ensures _ c.if-short_of.true (search rules) c.note_yes.ensures; lent = refl; places = refl }

pub settle-requires : goal.settle-requires
settle-requires c =
    (c.requires.0, c.requires.1.pends)

pub returns : goal.returns
returns c =
    let place = c.take_place-f in
    let few = c.short_of in
    record { worked = acceptance_settled c.args.area.now.bytes.now c.args.answer.now c.args.area.now.places c.args.i place.result c.args.from few.result c.args.area.now.held c.requires.1 place.ensures.0 few.ensures _ _ _ c.if-short_of.false c.settle.ensures.worked; lent = c.settle.ensures.lent; places = c.settle.ensures.places }

pub invariant_of-area : goal.invariant_of-area
invariant_of-area c =
    let area = c.args.area.now in
    let lawful = lawful_pending _ _ area.held _ c.requires.1.pends in
    record { held = place_held area.bytes.now area.places c.args.i _ _ area.held c.requires.1.pends.within (lawful_yes _ lawful c.args.from _ _ (search rules) c.requires.1.more_yeses lawful.promised_fits lawful.promised) c.note_yes.ensures }
