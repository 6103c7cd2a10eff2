-- `script_answer::message::put_numbered` meets its contract: the name, and the number behind it.
-- Assumes nothing.
use Rattle.script_words.specs.LentLaws.{joined}
use Rattle.script_answer.proofs.message.put_numbered.Goals as goal

pub returns : goal.returns
returns c = joined c.put_text-at.ensures c.put_spaced.ensures
