-- `proposer_rounds::to_accept` meets its contract: what it lends and stores has room, and the place and the accept requests are the rules'.
-- Assumes nothing.
use Rattle.std.proofs.Common.{refl, rules, ◌≡◌}
use Rattle.std.specs.Prelude.{◌+◌, ◌*◌, ◌≤◌, length}
use Rattle.messages.specs.Answers.{entry_bytes}
use Rattle.messages.specs.Limits.{list_most}
use Rattle.proposer_area.specs.State.{state}
use Rattle.proposer_works.specs.Lent.{new_short}
use Rattle.proposer_works.specs.Sent.{sent_in}
use Rattle.proposer_works.specs.Room.{held_used, key_short, entries_end}
use Rattle.proposer_rounds.specs.RoundLaws.{second_begun, second_held}
use Rattle.proposer_rounds.proofs.to_accept.Goals as goal
use Rattle.proposer_rounds.proofs.to_accept.Goals.{After-send-sent}

-- what was put into the answer area, by the area's own bytes
sent : (c : After-send-sent) → c.send-sent.new.answer ≡ sent_in c.args.answer.now c.new_value.result.now c.key.result.now (entry_bytes (state c.args.area.now).accept_acceptors)
sent c = rw c.accept_list-list.ensures.0 at c.send-sent.ensures.0

few : (c : After-send-sent) → length c.accept_list-list.result.now ≤ list_most
few c = rw c.accept_list-list.ensures.1 c.args.area.now.held.lawful.accept.short

ends : (c : After-send-sent) → 320 + 2 * length c.accept_list-list.result.now ≤ length c.send-sent.new.answer
ends c = entries_end _ _ c.new_value.result.now c.key.result.now (entry_bytes (state c.args.area.now).accept_acceptors) _ _ c.requires.0 (sent c) (few c)

pub send-sent-requires : goal.send-sent-requires
send-sent-requires c =
    let area = c.args.area.now in (
      search rules,
      rw c.new_value.ensures (rw (c.change-change.ensures, c.request_at-request.ensures) (new_short _ _ _ area.held c.requires.1)),
      rw c.key.ensures (rw c.request_at-request.ensures (key_short _ _ _ area.held c.requires.1)),
      rw c.accept_list-list.ensures.1 area.held.lawful.accept.short,
    )

pub list-waited-requires : goal.list-waited-requires
list-waited-requires c = ends (goal.at.list-waited-requires c).After-send-sent

pub second_phase-requires : goal.second_phase-requires
second_phase-requires c =
    let held = c.args.area.now.held in
    (held_used _ _ _ held c.requires.1, rw c.list-waited.ensures.1 (few (goal.at.second_phase-requires c).After-send-sent))

pub invariant_of-area : goal.invariant_of-area
invariant_of-area c =
    record { held = second_held _ _ _ _ c.args.area.now.held c.requires.1 (rw c.request_at-request.ensures at c.request_at-request.result.taken) _ c.requires.0 _ c.accept_list-list.ensures.1 c.new_value.result.now c.key.result.now _ _ (sent (goal.at.invariant_of-area c).After-send-sent) (rw c.list-waited.ensures.0 at c.second_phase.ensures) }

pub returns : goal.returns
returns c =
    record {
      worked =
          second_begun _ _ _ _ c.args.area.now.held c.requires.1 (rw c.request_at-request.ensures at c.request_at-request.result.taken) _ c.requires.0 _ c.accept_list-list.ensures.1 c.new_mark.result _ c.new_value.result.now c.key.result.now _ _ _ refl
          (rw (c.change-change.ensures, c.request_at-request.ensures) at c.new_mark.ensures) (rw (c.change-change.ensures, c.request_at-request.ensures) at c.new_value.ensures) (rw c.request_at-request.ensures at c.key.ensures)
          (sent (goal.at.returns c).After-send-sent) (rw c.list-waited.ensures.0 at c.second_phase.ensures) (rw c.accept_list-list.ensures.0 at c.send-sent.ensures.1);
      lent = refl;
      places = refl;
    }
