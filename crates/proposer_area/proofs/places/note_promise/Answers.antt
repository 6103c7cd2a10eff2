-- `proposer_area::places::note_promise` meets its contract: what is lent is the place, and its front decides whether the promise is taken over.
-- Assumes nothing.
use Rattle.std.proofs.Common.{◌≡◌, Bool, true, false, List, ℕ, Some, length, ◌<◌, ◌∙◌, ap, sym}
use Rattle.messages.specs.declared.Ballot.{Ballot}
use Rattle.messages.specs.Ballots.{above}
use Rattle.messages.specs.Message.{given}
use Rattle.proposer_rules.specs.State.{with_yes}
use Rattle.proposer_place.specs.declared.front.Front.{Front}
use Rattle.proposer_place.specs.Area.{place_image, read_pending}
use Rattle.proposer_place.specs.Front.{front_of, Used}
use Rattle.proposer_area.specs.Places.{place_in}
use Rattle.proposer_place.specs.PlaceRows.{length-yes, short_value}
use Rattle.proposer_area.specs.PlaceLent.{used_room, lent_has, place_worked}
use Rattle.proposer_area.proofs.places.note_promise.Goals as goal

-- the front has the highest promised
by_front : (b : List ℕ) (f : Front) (accepted : Ballot) (r t : Bool) → f ≡ front_of (read_pending b) → r ≡ above accepted f.promised → r ≡ t → above accepted (read_pending b).promised ≡ t
unfolding front_of
by_front b f accepted r t e er h = sym (er ∙ ap (λ (g : Front). above accepted g.promised) e) ∙ h

pub note_yes-requires : goal.note_yes-requires
note_yes-requires c =
    (lent_has _ _ _ _ _ _ c.start.ensures c.split_at_mut-rest.ensures.front c.split_at_mut-rest.ensures.back c.in-Some.ensures.cases Used c.requires.0, lent_has _ _ _ _ _ _ c.start.ensures c.split_at_mut-rest.ensures.front c.split_at_mut-rest.ensures.back c.in-Some.ensures.cases (λ (b : List ℕ). length (read_pending b).acks_from < 15) c.requires.2)

pub note_promise-requires : goal.note_promise-requires
note_promise-requires c =
    (lent_has _ _ _ _ _ _ c.start.ensures c.split_at_mut-rest.ensures.front c.split_at_mut-rest.ensures.back c.in-Some.ensures.cases Used c.requires.0, lent_has _ _ _ _ _ _ c.start.ensures c.split_at_mut-rest.ensures.front c.split_at_mut-rest.ensures.back c.in-Some.ensures.cases (λ (b : List ℕ). length (read_pending b).acks_from < 15) c.requires.2)

pub returns-then-above : goal.returns-then-above
returns-then-above c =
    rw (by_front (place_in c.args.area.now c.args.i) c.args.f c.args.accepted.ballot c.above.result true c.requires.1 c.above.ensures c.if-above.true)
    (place_worked _ _ _ _ _ _ c.start.ensures c.split_at_mut-rest.ensures.front c.split_at_mut-rest.ensures.back c.in-Some.ensures.cases (λ (b : List ℕ). place_image (Some (with_yes (read_pending b) c.args.from c.args.accepted.ballot (given c.args.accepted.mark c.args.accepted.bytes.now)))) c.note_promise.new.b (used_room c.args.area.now c.args.i c.requires.0) (length-yes (place_in c.args.area.now c.args.i) c.requires.0 c.args.from c.args.accepted.ballot (given c.args.accepted.mark c.args.accepted.bytes.now) c.requires.2 (short_value c.args.accepted.mark c.args.accepted.bytes.now c.args.accepted.fits)) c.note_promise.ensures)

pub returns-else-above : goal.returns-else-above
returns-else-above c =
    rw (by_front (place_in c.args.area.now c.args.i) c.args.f c.args.accepted.ballot c.above.result false c.requires.1 c.above.ensures c.if-above.false)
    (place_worked _ _ _ _ _ _ c.start.ensures c.split_at_mut-rest.ensures.front c.split_at_mut-rest.ensures.back c.in-Some.ensures.cases (λ (b : List ℕ). place_image (Some (with_yes (read_pending b) c.args.from (read_pending b).promised (read_pending b).value))) c.note_yes.new.b (used_room c.args.area.now c.args.i c.requires.0) (length-yes (place_in c.args.area.now c.args.i) c.requires.0 c.args.from (read_pending (place_in c.args.area.now c.args.i)).promised (read_pending (place_in c.args.area.now c.args.i)).value c.requires.2 c.requires.0.lawful.promised.short) c.note_yes.ensures)
