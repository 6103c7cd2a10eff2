-- `script_words::number::read_number` meets its contract. The loop's invariant: the digits passed are x, so what is left decides.
-- Assumes nothing.
use Rattle.std.proofs.Common.{◌≡◌, drop}
use Rattle.script_words.specs.Text.{digits_from, number_of}
use Rattle.script_words.proofs.number.read_number.Given as goal

abbrev pub invariant-loop-b : goal.invariant-loop-b
invariant-loop-b l = number_of l.word ≡ digits_from l.x (drop l.b-index l.word)
