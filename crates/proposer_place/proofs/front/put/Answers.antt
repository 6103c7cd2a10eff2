-- `proposer_place::front::put` meets its contract: stores one behind the other.
-- Assumes nothing.
use Rattle.leaf_fields.specs.Fields.{to_le}
use Rattle.proposer_place.specs.Front.{mark_bytes, number_bytes, count_bytes, front_bytes}
use Rattle.proposer_place.proofs.front.put.Goals as goal

pub returns : goal.returns
unfolding front_bytes mark_bytes number_bytes count_bytes to_le
returns c = cc
