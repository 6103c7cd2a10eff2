-- `storage_search::is_sized` meets its contract: each test is a line of `is_sized`, in its order.
-- Assumes nothing.
use Rattle.std.proofs.Common.{arith}
use Rattle.std.proofs.lemmas.Grind.{common_steps}
use Rattle.storage_search.specs.Table.{is_sized}
use Rattle.storage_search.proofs.is_sized.Goals as goal

pub returns-then-contains : goal.returns-then-contains
unfolding is_sized
returns-then-contains c = grind (arith, common_steps)

pub returns-else-contains : goal.returns-else-contains
unfolding is_sized
returns-else-contains c = grind (arith, common_steps)
