-- `script_words::put::put_hex` meets its contract. The loop's invariant: what is left to put gives the whole.
-- Assumes nothing.
use Rattle.std.proofs.Common.{drop}
use Rattle.script_words.specs.Written.{hex_of}
use Rattle.script_words.specs.LentLaws.{Left}
use Rattle.script_words.proofs.put.put_hex.Given as goal

abbrev pub invariant-loop-b : goal.invariant-loop-b
invariant-loop-b l = Left l.fn.out l.at (hex_of l.bytes) l.out l.end (hex_of (drop l.b-index l.bytes))
