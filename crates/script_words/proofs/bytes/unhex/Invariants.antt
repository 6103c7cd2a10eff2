-- `script_words::bytes::unhex` meets its contract. The loop's invariant: what is left to put gives the whole.
-- Assumes nothing.
use Rattle.std.proofs.Common.{ℕ, ◌+◌, ◌*◌, List, get_or, drop, map}
use Rattle.script_words.specs.Text.{hex_value}
use Rattle.script_words.specs.LentLaws.{Left}
use Rattle.script_words.proofs.bytes.unhex.Given as goal

-- the byte of two digits
abbrev pub byte_of : List ℕ → ℕ
byte_of pair = hex_value (get_or pair 0 0) * 16 + hex_value (get_or pair 1 0)

abbrev pub invariant-loop-pair : goal.invariant-loop-pair
invariant-loop-pair l = Left l.fn.out l.at (map byte_of l.pairs) l.out l.end (map byte_of (drop l.pair-index l.pairs))
