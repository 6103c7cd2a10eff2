-- `proposer::receive` meets its contract: what is due to the lent areas is refused, and the rest is the work's.
-- Assumes nothing.
use Rattle.leaf_fields.specs.Fields.{Bytes}
use Rattle.proposer.specs.ReceiveLaws.{message_refused, lent, lent_held, lent_may, received, left_behind}
use borrow.Author.Rules.{rules}
use Rattle.proposer.proofs.receive.Goals as goal
use Rattle.proposer.proofs.receive.Goals.{After-slice_known-1}

-- the bytes of a slice are bytes
area_bytes : (c : After-slice_known-1) → Bytes c.args.area.now
unfolding Bytes
area_bytes c = λ i. (c.type_inv.area i).fits

pub returns-in-Some : goal.returns-in-Some
returns-in-Some c = message_refused _ _ _ _ c.refused.ensures _ _ _ _ c.in-Some.is

pub invariant_of-area : goal.invariant_of-area
invariant_of-area c =
    record { held = lent_held _ _ _ _ c.refused.ensures (area_bytes (goal.at.invariant_of-area c).After-slice_known-1) c.in_default.is }

pub work-requires : goal.work-requires
work-requires c =
    ((lent _ _ _ _ c.refused.ensures c.in_default.is).1, lent_may _ _ _ _ c.refused.ensures c.in_default.is)

pub returns : goal.returns
returns c =
    let done = received _ _ _ _ c.refused.ensures c.in_default.is (lent_held _ _ _ _ c.refused.ensures (area_bytes (goal.at.returns c).After-slice_known-1) c.in_default.is) _ _ _ _ _ _ c.work.ensures.worked in
    left_behind _ _ _ _ _ _ _ _ _ (search rules) c.work.ensures.lent done
