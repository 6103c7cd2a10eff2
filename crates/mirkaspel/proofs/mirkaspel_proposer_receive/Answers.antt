-- `mirkaspel::mirkaspel_proposer_receive` meets its contract: the numbers are read, the proposer answers, and its answer is put into numbers.
-- Assumes nothing.
use Rattle.proposer.specs.Contract.{outcome_on, Done}
use Rattle.mirkaspel.proofs.Handed.{handed}
use Rattle.mirkaspel.proofs.mirkaspel_proposer_receive.Goals as goal

pub returns : goal.returns
returns c =
    let a = c.args in
    handed (λ m x. Done a.area.now a.sent.now (outcome_on a.area.now a.places a.sent.now (record { 0 = a.from }) a.at m) x c.receive-a.new.area c.receive-a.new.answer) c.incoming-message.ensures c.receive-a.ensures c.hand_back.ensures.0 c.hand_back.ensures.1
