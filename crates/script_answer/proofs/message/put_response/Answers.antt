-- `script_answer::message::put_response` meets its contract: `Ok` and the value, or the error.
-- Assumes nothing.
use Rattle.script_words.specs.LentLaws.{joined}
use Rattle.script_answer.proofs.message.put_response.Goals as goal

pub returns-in-Ok : goal.returns-in-Ok
returns-in-Ok c = rw c.in-Ok.is (joined c.put_text-at.ensures c.put_option.ensures)

pub returns-in-Err : goal.returns-in-Err
returns-in-Err c = rw c.in-Err.is c.put_error.ensures
