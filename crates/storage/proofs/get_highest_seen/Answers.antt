-- `storage::get_highest_seen` meets its contract: the ballot of the key's block, or 0.
-- Assumes nothing.
use Rattle.storage.specs.Operations.{highest_seen}
use Rattle.storage.specs.Laws.{ballot_got}
use Rattle.storage.proofs.get_highest_seen.Goals as goal

pub returns : goal.returns
unfolding highest_seen
returns c = ballot_got (λ r. r.seen) _ _ _ _ _ c.in_ok-block.ensures.0 c.in_ok-block.ensures.1 c.map_or.ensures
