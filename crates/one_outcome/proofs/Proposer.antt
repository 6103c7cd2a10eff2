-- `proposer::start`, `receive` and `tick` leave no choice: two outcomes that meet a contract have the same answer, area and answer area.
-- Assumes nothing.
use mathlib.Core.Path.{◌≡◌}
use Rattle.proposer.proofs.Unique.{one_outcome, one_start}
use Rattle.proposer.proofs.start.Reads as start-reads
use Rattle.proposer.proofs.receive.Reads as receive-reads
use Rattle.proposer.proofs.tick.Reads as tick-reads

pub start_once : (κs : _) (args : _) (r s : _) (e f : _) → start-reads.Post κs args r e → start-reads.Post κs args s f → (r ≡ s) × (e.0.now ≡ f.0.now)
start_once κs args r s e f p q = one_start _ _ _ _ _ _ p q

pub receive_once : (κs : _) (args : _) (r s : _) (e f : _) → receive-reads.Post κs args r e → receive-reads.Post κs args s f → (r ≡ s) × (e.0.now ≡ f.0.now) × (e.1.1.1.1.1.0.now ≡ f.1.1.1.1.1.0.now)
receive_once κs args r s e f p q = one_outcome _ _ _ _ _ _ _ _ _ p q

pub tick_once : (κs : _) (args : _) (r s : _) (e f : _) → tick-reads.Post κs args r e → tick-reads.Post κs args s f → (r ≡ s) × (e.0.now ≡ f.0.now) × (e.1.1.1.0.now ≡ f.1.1.1.0.now)
tick_once κs args r s e f p q = one_outcome _ _ _ _ _ _ _ _ _ p q
