-- `proposer_works::request::Request::change` meets its contract: the values are no longer than their rows.
-- Assumes nothing.
use Rattle.std.proofs.Common.{arith}
use Rattle.proposer_works.specs.Lent.{applied_is}
use Rattle.proposer_works.specs.Room.{first_few, second_few, promised_few}
use Rattle.proposer_works.proofs.request.Request.change.Goals as goal

pub overflow_add-result : goal.overflow_add-result
overflow_add-result c = omega (arith, first_few _ _ c.args.self.used c.args.self.taken)

pub overflow_add-result-2 : goal.overflow_add-result-2
overflow_add-result-2 c =
    omega (arith, first_few _ _ c.args.self.used c.args.self.taken, second_few _ _ c.args.self.used c.args.self.taken)

pub slice_bounds-result-end : goal.slice_bounds-result-end
slice_bounds-result-end c =
    omega (arith, first_few _ _ c.args.self.used c.args.self.taken, second_few _ _ c.args.self.used c.args.self.taken)

pub overflow_add-result-3 : goal.overflow_add-result-3
overflow_add-result-3 c = omega (arith, promised_few _ _ c.args.self.used c.args.self.taken)

pub slice_bounds-result-end-2 : goal.slice_bounds-result-end-2
slice_bounds-result-end-2 c = omega (arith, promised_few _ _ c.args.self.used c.args.self.taken)

pub returns : goal.returns
returns c = applied_is _ _ c.args.self.used c.args.self.taken
