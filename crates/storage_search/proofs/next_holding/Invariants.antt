-- `storage_search::next_holding` meets its contract. The outer loop's invariant: the search of what is left of the blocks gives the answer.
-- The inner loop's: what is left of the key is in its place where the whole key is.
-- Assumes nothing.
use Rattle.std.proofs.Common.{◌≡◌, ◌+◌, ◌<◌, length, drop, map}
use Rattle.storage_block.specs.Block.{slot_of}
use Rattle.storage_search.specs.Table.{holds, first_from}
use Rattle.storage_search.specs.Laws.{starts}
use Rattle.storage_search.proofs.next_holding.Given as goal

abbrev pub invariant-loop-j : goal.invariant-loop-j
invariant-loop-j l = (length l.key < 256) × (starts (drop (24 + l.j) l.b) (drop l.j l.key) ≡ starts (drop 24 l.b) l.key)

abbrev pub invariant-blocks-2 : goal.invariant-blocks-2
invariant-blocks-2 l = first_from (holds l.key) l.i (drop l.i (map slot_of l.blocks)) ≡ first_from (holds l.key) l.start (drop l.start (map slot_of l.blocks))
