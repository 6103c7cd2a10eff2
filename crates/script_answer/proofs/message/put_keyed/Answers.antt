-- `script_answer::message::put_keyed` meets its contract: the name, and the bytes behind it.
-- Assumes nothing.
use Rattle.script_words.specs.LentLaws.{joined}
use Rattle.script_answer.proofs.message.put_keyed.Goals as goal

pub returns : goal.returns
returns c = joined c.put_text-at.ensures c.put_bytes.ensures
