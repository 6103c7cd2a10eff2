-- `proposer_works::raise_with` meets its contract: the no is noted, and the counter put back.
-- Assumes nothing.
use Rattle.std.proofs.Common.{arith, refl}
use Rattle.proposer_area.specs.HeldLaws.{lawful_pending, place_held, counter_held}
use Rattle.proposer_area.specs.Held.{Held}
use Rattle.proposer_place.specs.PlaceLaws.{lawful_no}
use Rattle.proposer_works.specs.Dropped.{no_noted}
use Rattle.proposer_works.specs.Room.{held_used, held_header}
use borrow.Author.Rules.{rules}
use Rattle.proposer_works.proofs.raise_with.Goals as goal
use Rattle.proposer_works.proofs.raise_with.Goals.{After-note_no}

noted_held : (c : After-note_no) → Held c.note_no.new.area c.args.area.now.places
noted_held c =
    let area = c.args.area.now in
    place_held area.bytes.now area.places c.args.i _ _ area.held c.requires.pends.within
    (lawful_no _ (lawful_pending _ _ area.held _ c.requires.pends) c.args.from (search rules) c.requires.more_noes) c.note_no.ensures

pub note_no-requires : goal.note_no-requires
note_no-requires c =
    let area = c.args.area.now in
    (held_used _ _ _ area.held c.requires.pends, c.requires.more_noes)

pub invariant_of-area : goal.invariant_of-area
invariant_of-area c = record { held = noted_held (goal.at.invariant_of-area c).After-note_no }

pub put_counter-requires : goal.put_counter-requires
put_counter-requires c = omega (arith, held_header _ _ (noted_held (goal.at.put_counter-requires c).After-note_no))

pub invariant_of-area-2 : goal.invariant_of-area-2
invariant_of-area-2 c =
    record { held = counter_held _ _ c.args.counter _ (noted_held (goal.at.invariant_of-area-2 c).After-note_no) (search rules) c.put_counter.ensures }

pub returns : goal.returns
returns c =
    record {
      image = no_noted _ _ _ _ _ _ _ c.args.area.now.held c.requires (search rules) c.note_no.ensures c.put_counter.ensures;
      lent = refl;
      places = refl;
    }
