-- `storage_block::rest_zero` meets its contract: a good head keeps the value in its place.
-- Assumes nothing.
use Rattle.storage_block.specs.Read.{head_room}
use Rattle.storage_block.proofs.rest_zero.Goals as goal

pub slice_bounds-zeros-count-then-zeros-2 : goal.slice_bounds-zeros-count-then-zeros-2
slice_bounds-zeros-count-then-zeros-2 c = search head_room

pub slice_bounds-zeros-start-then-zeros-2 : goal.slice_bounds-zeros-start-then-zeros-2
slice_bounds-zeros-start-then-zeros-2 c = search head_room
