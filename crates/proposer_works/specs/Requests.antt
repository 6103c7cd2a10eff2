-- What is asked by the request that a place holds.
-- Assumes nothing.
use Rattle.proposer_rules.specs.State.{Pending}
use Rattle.proposer_place.specs.Area.{read_pending}
use Rattle.proposer_works.specs.declared.request.Request.{Request}

abbrev pub asked : Request → Pending
asked r = read_pending r.place.now
