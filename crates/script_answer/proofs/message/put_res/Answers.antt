-- `script_answer::message::put_res` meets its contract: `Ok`, or the error.
-- Assumes nothing.
use Rattle.script_answer.proofs.message.put_res.Goals as goal

pub returns-in-Ok : goal.returns-in-Ok
returns-in-Ok c = rw c.in-Ok.is c.put_text.ensures

pub returns-in-Err : goal.returns-in-Err
returns-in-Err c = rw c.in-Err.is c.put_error.ensures
