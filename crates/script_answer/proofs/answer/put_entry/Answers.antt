-- `script_answer::answer::put_entry` meets its contract: a comma, and the number behind it.
-- Assumes nothing.
use Rattle.std.proofs.Common.{◌≡◌, List, ◌++◌, ℕ}
use Rattle.leaf_fields.specs.Fields.{from_le, part}
use Rattle.script_words.specs.Letters.{letters}
use Rattle.script_words.specs.Written.{decimal}
use Rattle.script_words.specs.LentLaws.{Put, joined}
use Rattle.script_answer.proofs.answer.put_entry.Goals as goal

read : (out after entry : List ℕ) (at r n : ℕ) → n ≡ from_le (part entry 0 2) → Put out at (letters "," ++ decimal n) r after → Put out at (letters "," ++ decimal (from_le (part entry 0 2))) r after
read out after entry at r n e h = rw e at h

pub returns : goal.returns
returns c = read _ _ _ _ _ _ c.read.ensures (joined c.put_byte-at.ensures c.put_number.ensures)
