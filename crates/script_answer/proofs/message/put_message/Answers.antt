-- `script_answer::message::put_message` meets its contract: each message by its text.
-- Assumes nothing.
use Rattle.script_words.specs.LentLaws.{joined}
use Rattle.script_answer.proofs.message.put_message.Goals as goal

pub returns-in-ClientRequest : goal.returns-in-ClientRequest
returns-in-ClientRequest c = rw c.in-ClientRequest.is (joined c.put_numbered-at.ensures c.put_req.ensures)

pub returns-in-ClientResponse : goal.returns-in-ClientResponse
returns-in-ClientResponse c = rw c.in-ClientResponse.is (joined c.put_numbered-at-in-ClientResponse.ensures c.put_response.ensures)

pub returns-in-SetAcceptAcceptors : goal.returns-in-SetAcceptAcceptors
returns-in-SetAcceptAcceptors c = rw c.in-SetAcceptAcceptors.is c.put_text.ensures

pub returns-in-SetProposeAcceptors : goal.returns-in-SetProposeAcceptors
returns-in-SetProposeAcceptors c = rw c.in-SetProposeAcceptors.is c.put_text-in-SetProposeAcceptors.ensures

pub returns-in-ProposeReq : goal.returns-in-ProposeReq
returns-in-ProposeReq c = rw c.in-ProposeReq.is (joined c.put_numbered-at-in-ProposeReq.ensures c.put_bytes.ensures)

pub returns-in-ProposeRes : goal.returns-in-ProposeRes
returns-in-ProposeRes c = rw c.in-ProposeRes.is (joined c.put_numbered-at-in-ProposeRes.ensures (joined c.put_spaced-at.ensures (joined c.put_option-at.ensures c.put_res.ensures)))

pub returns-in-AcceptReq : goal.returns-in-AcceptReq
returns-in-AcceptReq c = rw c.in-AcceptReq.is (joined c.put_numbered-at-in-AcceptReq.ensures (joined c.put_bytes-at.ensures c.put_option.ensures))

pub returns-in-AcceptRes : goal.returns-in-AcceptRes
returns-in-AcceptRes c = rw c.in-AcceptRes.is (joined c.put_numbered-at-in-AcceptRes.ensures c.put_res-in-AcceptRes.ensures)
