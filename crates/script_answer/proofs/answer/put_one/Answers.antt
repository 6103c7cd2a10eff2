-- `script_answer::answer::put_one` meets its contract: the address, and the message behind it.
-- Assumes nothing.
use Rattle.script_words.specs.LentLaws.{joined}
use Rattle.script_answer.proofs.answer.put_one.Goals as goal

pub returns : goal.returns
returns c = joined c.put_numbered-at.ensures (joined c.put_byte-at.ensures c.put_message.ensures)
