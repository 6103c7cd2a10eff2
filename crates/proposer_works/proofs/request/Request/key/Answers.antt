-- `proposer_works::request::Request::key` meets its contract: a key is no longer than its row.
-- Assumes nothing.
use Rattle.std.proofs.Common.{arith}
use Rattle.proposer_works.specs.Lent.{key_is}
use Rattle.proposer_works.specs.Room.{key_few}
use Rattle.proposer_works.proofs.request.Request.key.Goals as goal

pub overflow_add-result : goal.overflow_add-result
overflow_add-result c = omega (arith, key_few _ _ c.args.self.used c.args.self.taken)

pub slice_bounds-result-end : goal.slice_bounds-result-end
slice_bounds-result-end c = omega (arith, key_few _ _ c.args.self.used c.args.self.taken)

pub returns : goal.returns
returns c = key_is _ _ c.args.self.used c.args.self.taken
