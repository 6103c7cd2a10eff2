-- `acceptor::accept_at` meets its contract: what is done to the lent block is done to block i, and every other byte stays.
-- Assumes nothing.
use Rattle.storage_search.specs.Blocks.{lent_block, back_block}
use Rattle.acceptor.specs.Laws.{work_placed}
use Rattle.acceptor.proofs.accept_at.Goals as goal

pub returns : goal.returns
returns c =
    let front = c.split_at_mut-rest.ensures.front in
    let back = c.split_at_mut-rest.ensures.back in
    let first = c.in-Some.ensures.cases in
    work_placed _ _ _ _ _ _ _ (rw (lent_block _ _ _ _ _ front back first) at c.accept_in.ensures) (back_block _ _ _ _ _ front back first _)
