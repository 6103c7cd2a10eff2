-- `script_answer::message::put_req` meets its contract: each request by its text.
-- Assumes nothing.
use Rattle.script_words.specs.LentLaws.{joined}
use Rattle.script_answer.proofs.message.put_req.Goals as goal

pub returns-in-Get : goal.returns-in-Get
returns-in-Get c = rw c.in-Get.is c.put_keyed.ensures

pub returns-in-Del : goal.returns-in-Del
returns-in-Del c = rw c.in-Del.is c.put_keyed-in-Del.ensures

pub returns-in-Set : goal.returns-in-Set
returns-in-Set c = rw c.in-Set.is (joined c.put_keyed-at.ensures c.put_bytes.ensures)

pub returns-in-Cas : goal.returns-in-Cas
returns-in-Cas c = rw c.in-Cas.is (joined c.put_keyed-at-in-Cas.ensures (joined c.put_option-at.ensures c.put_option.ensures))
