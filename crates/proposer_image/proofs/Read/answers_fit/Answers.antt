-- `proposer_image::Read::answers_fit` meets its contract: each test is a part of `answers_fit`.
-- Assumes nothing.
use Rattle.std.proofs.Common.{arith}
use Rattle.std.proofs.lemmas.Grind.{common_steps}
use Rattle.proposer_image.specs.Taken.{answers_taken}
use Rattle.proposer_image.proofs.Read.answers_fit.Goals as goal

pub returns-then-distinct-2 : goal.returns-then-distinct-2
returns-then-distinct-2 c =
    let e = answers_taken c.args.self.now.bytes.now c.args.self.now.front c.args.self.now.taken in
    grind (arith, common_steps)

pub returns-else-distinct-2 : goal.returns-else-distinct-2
returns-else-distinct-2 c =
    let e = answers_taken c.args.self.now.bytes.now c.args.self.now.front c.args.self.now.taken in
    grind (arith, common_steps)
