-- The request that an order is.
-- Assumes nothing.
use Rattle.messages.specs.Message.{Request, request_of}
use Rattle.proposer_request.specs.declared.order.Order.{Order}

abbrev pub asked_in : Order → Request
asked_in o = request_of o.req o.key.now o.value.now o.other.now
