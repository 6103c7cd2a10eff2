-- `proposer_lists::write_row` meets its contract. The loop's invariant: what is left to store gives the final row.
-- Assumes nothing.
use mathlib.Core.Path.{◌≡◌}
use Prim.Native.Nat.{◌*◌}
use lib.ListN.{length, drop}
use lib.Seq.{sets}
use Rattle.messages.specs.Answers.{entry_bytes}
use Rattle.proposer_place.specs.Area.{list_bytes, list_row}
use Rattle.proposer_lists.proofs.write_row.Given as goal

abbrev pub invariant-loop-i : goal.invariant-loop-i
invariant-loop-i l = (length l.d ≡ list_bytes) × (sets l.d (2 * l.i) (entry_bytes (drop l.i l.list)) ≡ list_row l.list)
