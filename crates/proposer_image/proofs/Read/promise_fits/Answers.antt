-- `proposer_image::Read::promise_fits` meets its contract: a promise without a value fits, and one with a value by its ballot.
-- Assumes nothing.
use Rattle.std.proofs.Common.{arith}
use Rattle.std.proofs.lemmas.Grind.{common_steps}
use Rattle.proposer_image.specs.Taken.{promise_taken}
use Rattle.proposer_image.proofs.Read.promise_fits.Goals as goal

pub returns-then-is_none : goal.returns-then-is_none
returns-then-is_none c =
    let e = promise_taken c.args.self.now.bytes.now c.args.self.now.front c.args.self.now.taken in
    grind (arith, common_steps)

pub returns-else-is_none : goal.returns-else-is_none
returns-else-is_none c =
    let e = promise_taken c.args.self.now.bytes.now c.args.self.now.front c.args.self.now.taken in
    grind (arith, common_steps)
