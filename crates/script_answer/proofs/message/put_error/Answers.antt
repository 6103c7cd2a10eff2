-- `script_answer::message::put_error` meets its contract: each error by its text.
-- Assumes nothing.
use Rattle.script_words.specs.LentLaws.{joined}
use Rattle.script_answer.proofs.message.put_error.Goals as goal

pub returns-in-ProposalRejected : goal.returns-in-ProposalRejected
returns-in-ProposalRejected c = rw c.in-ProposalRejected.is (joined c.put_text-at.ensures c.put_numbered.ensures)

pub returns-in-AcceptRejected : goal.returns-in-AcceptRejected
returns-in-AcceptRejected c = rw c.in-AcceptRejected.is (joined c.put_text-at.ensures c.put_numbered-in-AcceptRejected.ensures)

pub returns-in-CasFailed : goal.returns-in-CasFailed
returns-in-CasFailed c = rw c.in-CasFailed.is (joined c.put_text-at.ensures (joined c.put_text-at-in-CasFailed.ensures c.put_option.ensures))

pub returns-in-Timeout : goal.returns-in-Timeout
returns-in-Timeout c = rw c.in-Timeout.is (joined c.put_text-at.ensures c.put_text.ensures)
