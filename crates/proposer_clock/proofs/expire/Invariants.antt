-- `proposer_clock::expire` meets its contract. The loop's invariant: what is left to drop and to tell gives what the rules drop and tell.
-- Assumes nothing.
use Rattle.std.proofs.Common.{◌≡◌}
use Rattle.proposer_clock.specs.TickLaws.{Expiring}
use Rattle.proposer_clock.proofs.expire.Given as goal

abbrev pub invariant-loop-k : goal.invariant-loop-k
invariant-loop-k l =
    let a = l.initial.area in
    Expiring a.bytes.now l.initial.answer a.places l.t l.k l.area.bytes.now l.answer × (l.area.bytes.ghost_name ≡ a.bytes.ghost_name) × (l.area.places ≡ a.places)
