-- `acceptor::propose_at` meets its contract: what is done to the lent block is done to block i, and every other byte stays.
-- Assumes nothing.
use Rattle.std.proofs.Common.{rules}
use Rattle.storage_search.specs.Blocks.{lent_block, back_block}
use Rattle.acceptor.specs.Laws.{work_placed}
use Rattle.acceptor.proofs.propose_at.Goals as goal

pub propose_in-requires : goal.propose_in-requires
propose_in-requires c =
    (rw (lent_block _ _ _ _ _ c.split_at_mut-rest.ensures.front c.split_at_mut-rest.ensures.back c.in-Some.ensures.cases) c.requires.1, search rules)

pub returns : goal.returns
returns c =
    let front = c.split_at_mut-rest.ensures.front in
    let back = c.split_at_mut-rest.ensures.back in
    let first = c.in-Some.ensures.cases in
    let lent = lent_block _ _ _ _ _ front back first in
    (work_placed _ _ _ _ _ _ _ (rw lent at c.propose_in.ensures.0) (back_block _ _ _ _ _ front back first _), rw lent at c.propose_in.ensures.1)
