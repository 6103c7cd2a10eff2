-- `proposer_image::Read::sizes_fit` meets its contract: each test is a part of `sizes_fit`.
-- Assumes nothing.
use Rattle.std.proofs.Common.{arith}
use Rattle.std.proofs.lemmas.Grind.{common_steps}
use Rattle.proposer_image.specs.Taken.{sizes_taken}
use Rattle.proposer_image.proofs.Read.sizes_fit.Goals as goal

pub returns-then-f-le-LIST_MOST-3 : goal.returns-then-f-le-LIST_MOST-3
returns-then-f-le-LIST_MOST-3 c =
    let e = sizes_taken c.args.self.now.bytes.now c.args.self.now.front c.args.self.now.taken in
    let p = c.args.self.now.taken.promised in
    grind (arith, common_steps)

pub returns-else-f-le-LIST_MOST-3 : goal.returns-else-f-le-LIST_MOST-3
returns-else-f-le-LIST_MOST-3 c =
    let e = sizes_taken c.args.self.now.bytes.now c.args.self.now.front c.args.self.now.taken in
    let p = c.args.self.now.taken.promised in
    grind (arith, common_steps)
