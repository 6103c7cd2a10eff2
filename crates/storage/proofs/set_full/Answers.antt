-- `storage::set_full` meets its contract: a spare block reads as a fresh register, and what it would take finds no room.
-- Assumes nothing.
use Rattle.std.proofs.Common.{◌≡◌, refl, true, List, ℕ, Option, Some, None, Err, Result, replicate}
use Rattle.std.proofs.lemmas.List.{length-replicate}
use Rattle.std.specs.Result.{result_and}
use Rattle.leaf_fields.specs.Laws.{zeros_zero}
use Rattle.messages.specs.Refusals.{first_due}
use Rattle.messages.specs.declared.answer.Refusal.{Refusal}
use Rattle.storage_block.specs.Block.{readable, register_with, fresh}
use Rattle.storage_block.specs.Read.{free_register}
use Rattle.storage.specs.declared.Change.{Change}
use Rattle.storage.specs.Operations.{refused_or, changed, register_tests, or_no_room, full_by}
use Rattle.storage.proofs.set_full.Goals as goal

spare_readable : readable (replicate 512 0) ≡ true
unfolding readable
spare_readable = rw (zeros_zero 512)

by_due : (o : Option Refusal) → result_and (refused_or {A = Unit {0}} o tt) (Err Refusal.NoRoom) ≡ or_no_room o
by_due None = refl
by_due (Some x) = refl

-- the answer of a fresh register
no_room : (key bytes : List ℕ) (change : Change) (d r : Result (Unit {0}) Refusal) → d ≡ refused_or (first_due (register_tests (changed change bytes (register_with key (replicate 512 0))))) tt → r ≡ result_and d (Err Refusal.NoRoom) → r ≡ full_by (changed change bytes (fresh key))
no_room key bytes change d r ed er =
    rw (er, ed, free_register key (replicate 512 0) (length-replicate {A = ℕ} 512 0) (zeros_zero 512)) (by_due (first_due (register_tests (changed change bytes (fresh key)))))

pub set_in-requires : goal.set_in-requires
set_in-requires c = search spare_readable

pub returns : goal.returns
returns c = no_room c.args.key.now c.args.bytes.now c.args.change _ _ c.set_in.ensures.done c.and.ensures
