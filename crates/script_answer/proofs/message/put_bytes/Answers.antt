-- `script_answer::message::put_bytes` meets its contract: `x`, and the digits behind it.
-- Assumes nothing.
use Rattle.script_words.specs.LentLaws.{joined}
use Rattle.script_answer.proofs.message.put_bytes.Goals as goal

pub returns : goal.returns
returns c = joined c.put_text-at.ensures c.put_hex.ensures
