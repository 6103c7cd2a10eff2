-- `script_answer::message::put_option` meets its contract: none, or its bytes.
-- Assumes nothing.
use Rattle.script_answer.proofs.message.put_option.Goals as goal

pub returns-in-None : goal.returns-in-None
returns-in-None c = rw c.in-None.is c.put_text.ensures

pub returns-in-Some : goal.returns-in-Some
returns-in-Some c = rw c.in-Some.is c.put_bytes.ensures
