-- `script_answer::show::put_area_at` meets its contract: the word, the digits and the line end.
-- Assumes nothing.
use Rattle.std.proofs.Common.{◌≡◌, List, ◌++◌, ℕ, take}
use Rattle.script_words.specs.Letters.{letters}
use Rattle.script_words.specs.Written.{hex_of}
use Rattle.script_words.specs.LentLaws.{Put, joined}
use Rattle.script_answer.specs.Lines.{kept_of, area_line}
use Rattle.script_answer.proofs.show.put_area_at.Goals as goal

line : (out after area kept : List ℕ) (at r : ℕ) → kept ≡ take (kept_of area) area → Put out at (letters "area " ++ (hex_of kept ++ letters "\n")) r after → Put out at (area_line area) r after
unfolding area_line
line out after area kept at r e h = rw e at h

pub returns : goal.returns
returns c = line _ _ _ _ _ _ c.kept.ensures (joined c.put_text-at.ensures (joined c.put_hex-at.ensures c.put_byte.ensures))
