-- `script_answer::answer::put_row` meets its contract: the client, a colon and the id.
-- Assumes nothing.
use Rattle.std.proofs.Common.{◌≡◌, List, ◌++◌, ℕ}
use Rattle.leaf_fields.specs.Fields.{from_le, part}
use Rattle.script_words.specs.Letters.{letters}
use Rattle.script_words.specs.Written.{decimal}
use Rattle.script_words.specs.LentLaws.{Put, joined}
use Rattle.script_answer.specs.Lines.{spaced, row_in, row_text}
use Rattle.script_answer.proofs.answer.put_row.Goals as goal

read : (out after row : List ℕ) (at r client id : ℕ) → client ≡ from_le (part row 0 2) → id ≡ from_le (part row 2 8) → Put out at (spaced client ++ (letters ":" ++ decimal id)) r after → Put out at (row_text (row_in row 0)) r after
read out after row at r client id e f h = rw (e, f) at h

pub returns : goal.returns
returns c = read _ _ _ _ _ _ _ c.read.ensures c.read-2.ensures (joined c.put_spaced-at.ensures (joined c.put_byte-at.ensures c.put_number.ensures))
