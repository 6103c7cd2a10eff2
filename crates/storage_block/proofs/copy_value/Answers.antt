-- `storage_block::copy_value` meets its contract: the value fits the area.
-- Assumes nothing.
use Rattle.std.proofs.Common.{◌≡◌, List, true, ℕ, ◌+◌, ◌≤◌, length, arith, Some, ap}
use Rattle.messages.specs.Answers.{bytes_of}
use Rattle.storage_block.specs.Block.{readable, register_of}
use Rattle.storage_block.specs.Read.{value_fits_lem}
use Rattle.storage_block.proofs.copy_value.Goals as goal

room : (b v a : List ℕ) → length b ≡ 512 → readable b ≡ true → Some v ≡ (register_of b).value → length a ≡ 256 → 0 + length v ≤ length a
room b v a l h e la = omega (arith, value_fits_lem b l h, ap (λ o. length (bytes_of o)) e)

pub copy-requires : goal.copy-requires
copy-requires c = room _ _ _ c.told-b c.requires c.in_ok-value.ensures c.told-area
