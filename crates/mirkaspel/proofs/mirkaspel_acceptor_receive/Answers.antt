-- `mirkaspel::mirkaspel_acceptor_receive` meets its contract: the numbers are read, the acceptor answers, and its answer is put into numbers.
-- Assumes nothing.
use Rattle.acceptor.specs.Contract.{Received}
use Rattle.mirkaspel.proofs.Handed.{handed}
use Rattle.mirkaspel.proofs.mirkaspel_acceptor_receive.Goals as goal

pub returns : goal.returns
returns c =
    let a = c.args in
    handed (λ m x. Received a.table.now a.registers a.sent.now (record { 0 = a.from }) m x c.receive-a.new.table c.receive-a.new.area) c.incoming-message.ensures c.receive-a.ensures c.hand_back.ensures.0 c.hand_back.ensures.1
