-- `script_words::put::put_text` meets its contract: what fits is stored, at the place or at the end.
-- Assumes nothing.
use Rattle.script_words.specs.LentLaws.{placed}
use Rattle.script_words.proofs.put.put_text.Goals as goal

pub returns : goal.returns
returns c = search placed
