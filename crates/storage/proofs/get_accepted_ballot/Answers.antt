-- `storage::get_accepted_ballot` meets its contract: the ballot of the key's block, or 0.
-- Assumes nothing.
use Rattle.storage.specs.Operations.{accepted_ballot}
use Rattle.storage.specs.Laws.{ballot_got}
use Rattle.storage.proofs.get_accepted_ballot.Goals as goal

pub returns : goal.returns
unfolding accepted_ballot
returns c = ballot_got (λ r. r.accepted) _ _ _ _ _ c.in_ok-block.ensures.0 c.in_ok-block.ensures.1 c.map_or.ensures
