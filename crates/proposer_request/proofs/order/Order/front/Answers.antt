-- `proposer_request::order::Order::front` meets its contract: each field is that of the new request.
-- Assumes nothing.
use Rattle.std.proofs.Common.{refl}
use Rattle.proposer_request.specs.RequestLaws.{new_front}
use Rattle.proposer_request.proofs.order.Order.front.Goals as goal

pub returns : goal.returns
returns c l e =
    let o = c.args.self.now in
    new_front o.req o.key.now o.value.now o.other.now _ _ c.args.client c.args.id c.args.at c.args.n c.args.ballot _ l c.first.ensures c.second.ensures refl e
