-- `script_answer::answer::put_each` meets its contract: the list, and the message behind it.
-- Assumes nothing.
use Rattle.script_words.specs.LentLaws.{joined}
use Rattle.script_answer.proofs.answer.put_each.Goals as goal

pub returns : goal.returns
returns c = joined c.put_text-at.ensures (joined c.put_list-at.ensures (joined c.put_byte-at.ensures c.put_message.ensures))
