-- The change operation on what it is asked about: 01's request applied to the promised value.
-- Assumes nothing.
use Rattle.messages.specs.Message.{given}
use Rattle.proposer_rules.specs.Rules.{Applied, applied, request_in}
use Rattle.proposer_change.specs.declared.Change.{Change}

abbrev pub applied_in : Change → Applied
applied_in c = applied (request_in c.req c.request.now c.split) (given c.mark c.promised.now)
