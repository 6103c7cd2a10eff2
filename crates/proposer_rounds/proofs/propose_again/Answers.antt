-- `proposer_rounds::propose_again` meets its contract: what it lends and stores has room, and the place, the counter and the proposals are the rules'.
-- Assumes nothing.
use Rattle.std.proofs.Common.{refl, rules, arith, ◌≡◌}
use Rattle.std.specs.Prelude.{[], ◌+◌, ◌*◌, ◌≤◌, length}
use Rattle.messages.specs.Answers.{entry_bytes}
use Rattle.messages.specs.Limits.{list_most}
use Rattle.proposer_area.specs.State.{state}
use Rattle.proposer_area.specs.Held.{Held}
use Rattle.proposer_area.specs.HeldLaws.{counter_held}
use Rattle.proposer_works.specs.Sent.{sent_in}
use Rattle.proposer_works.specs.Room.{held_header, held_used, key_short, entries_end}
use Rattle.proposer_rounds.specs.RoundLaws.{proposed_again, again_held}
use Rattle.proposer_rounds.proofs.propose_again.Goals as goal
use Rattle.proposer_rounds.proofs.propose_again.Goals.{After-send-sent, After-again}

-- what was put into the answer area, by the area's own bytes
sent : (c : After-send-sent) → c.send-sent.new.answer ≡ sent_in c.args.answer.now [] c.key-key.result.now (entry_bytes (state c.args.area.now).propose_acceptors)
sent c = rw c.propose_list-list.ensures.0 at c.send-sent.ensures.0

few : (c : After-send-sent) → length c.propose_list-list.result.now ≤ list_most
few c = rw c.propose_list-list.ensures.1 c.args.area.now.held.lawful.propose.short

ends : (c : After-send-sent) → 320 + 2 * length c.propose_list-list.result.now ≤ length c.send-sent.new.answer
ends c = entries_end _ _ [] c.key-key.result.now (entry_bytes (state c.args.area.now).propose_acceptors) _ _ c.requires.0 (sent c) (few c)

again_done : (c : After-again) → c.send-sent.new.answer ≡ sent_in c.args.answer.now [] c.key-key.result.now (entry_bytes (state c.args.area.now).propose_acceptors) → Held c.again.new.area c.args.area.now.places
again_done c done =
    again_held _ _ _ _ c.args.area.now.held c.requires.1 (rw c.request_at.ensures at c.request_at.result.taken) _ c.requires.0 _ c.propose_list-list.ensures.1 c.args.ballot c.key-key.result.now _ _ (search rules)
    done (rw c.list-waited.ensures.0 at c.again.ensures)

pub send-sent-requires : goal.send-sent-requires
send-sent-requires c =
    let area = c.args.area.now in (
      search rules,
      search rules,
      rw c.key-key.ensures (rw c.request_at.ensures (key_short _ _ _ area.held c.requires.1)),
      rw c.propose_list-list.ensures.1 area.held.lawful.propose.short,
    )

pub list-waited-requires : goal.list-waited-requires
list-waited-requires c = ends (goal.at.list-waited-requires c).After-send-sent

pub again-requires : goal.again-requires
again-requires c =
    let held = c.args.area.now.held in
    (held_used _ _ _ held c.requires.1, rw c.list-waited.ensures.1 (few (goal.at.again-requires c).After-send-sent))

pub invariant_of-area : goal.invariant_of-area
invariant_of-area c = record { held = again_done (goal.at.invariant_of-area c).After-again (sent (goal.at.invariant_of-area c).After-send-sent) }

pub put_counter-requires : goal.put_counter-requires
put_counter-requires c = omega (arith, held_header _ _ (again_done (goal.at.put_counter-requires c).After-again (sent (goal.at.put_counter-requires c).After-send-sent)))

pub invariant_of-area-2 : goal.invariant_of-area-2
invariant_of-area-2 c =
    record { held = counter_held _ _ _ _ (again_done (goal.at.invariant_of-area-2 c).After-again (sent (goal.at.invariant_of-area-2 c).After-send-sent)) (search rules) c.put_counter.ensures }

pub returns : goal.returns
returns c = λ counter next.
    record {
      worked =
          proposed_again _ _ _ _ c.args.area.now.held c.requires.1 (rw c.request_at.ensures at c.request_at.result.taken) _ c.requires.0 _ c.propose_list-list.ensures.1 c.args.ballot counter c.key-key.result.now _ _ _ _ next (search rules) (rw c.request_at.ensures at c.key-key.ensures)
          (sent (goal.at.returns c).After-send-sent) (rw c.list-waited.ensures.0 at c.again.ensures) c.put_counter.ensures (rw c.propose_list-list.ensures.0 at c.send-sent.ensures.1);
      lent = refl;
      places = refl;
    }
