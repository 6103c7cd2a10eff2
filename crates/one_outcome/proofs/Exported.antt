-- The exported operations leave no choice: two outcomes that meet a contract have the same number, the same areas and the same answer in numbers.
-- Assumes nothing.
use mathlib.Core.Path.{◌≡◌}
use Rattle.mirkaspel.proofs.Unique.{one_acceptance, one_proposal, one_start}
use Rattle.mirkaspel.proofs.mirkaspel_acceptor_receive.Reads as acceptor-reads
use Rattle.mirkaspel.proofs.mirkaspel_proposer_start.Reads as start-reads
use Rattle.mirkaspel.proofs.mirkaspel_proposer_receive.Reads as proposer-reads
use Rattle.mirkaspel.proofs.mirkaspel_proposer_tick.Reads as tick-reads

pub acceptor_once : (κs : _) (args : _) (r s : _) (e f : _) → acceptor-reads.Post κs args r e → acceptor-reads.Post κs args s f → (r ≡ s) × (e.0.now ≡ f.0.now) × (e.1.1.1.1.1.1.1.1.0.now ≡ f.1.1.1.1.1.1.1.1.0.now) × (e.1.1.1.1.1.1.1.1.1.0.now ≡ f.1.1.1.1.1.1.1.1.1.0.now)
acceptor_once κs args r s e f p q = one_acceptance _ _ _ _ _ _ _ _ _ _ _ _ _ _ p q

pub start_once : (κs : _) (args : _) (r s : _) (e f : _) → start-reads.Post κs args r e → start-reads.Post κs args s f → (r ≡ s) × (e.0.now ≡ f.0.now)
start_once κs args r s e f p q = one_start _ _ _ _ _ _ p q

pub proposer_once : (κs : _) (args : _) (r s : _) (e f : _) → proposer-reads.Post κs args r e → proposer-reads.Post κs args s f → (r ≡ s) × (e.0.now ≡ f.0.now) × (e.1.1.1.1.1.1.1.1.1.0.now ≡ f.1.1.1.1.1.1.1.1.1.0.now) × (e.1.1.1.1.1.1.1.1.1.1.0.now ≡ f.1.1.1.1.1.1.1.1.1.1.0.now)
proposer_once κs args r s e f p q = one_proposal _ _ _ _ _ _ _ _ _ _ _ _ p q

pub tick_once : (κs : _) (args : _) (r s : _) (e f : _) → tick-reads.Post κs args r e → tick-reads.Post κs args s f → (r ≡ s) × (e.0.now ≡ f.0.now) × (e.1.1.1.0.now ≡ f.1.1.1.0.now) × (e.1.1.1.1.0.now ≡ f.1.1.1.1.0.now)
tick_once κs args r s e f p q = one_proposal _ _ _ _ _ _ _ _ _ _ _ _ p q
