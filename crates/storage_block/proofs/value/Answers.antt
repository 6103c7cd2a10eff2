-- `storage_block::value` meets its contract: the value lies at byte 88, as long as its length says.
-- Assumes nothing.
use Rattle.storage_block.specs.Read.{value_room}
use Rattle.storage_block.proofs.value.Goals as goal

pub slice_bounds-result-end : goal.slice_bounds-result-end
slice_bounds-result-end c = search value_room
