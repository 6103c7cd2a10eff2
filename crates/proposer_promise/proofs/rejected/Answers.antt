-- `proposer_promise::rejected` meets its contract: the ballot of a retry is the one after the raised counter.
-- Assumes nothing.
use Rattle.std.proofs.Common.{rules, ℕ, ap}
use Rattle.std.proofs.lemmas.Bool.Decides.{nat_tests}
use Rattle.proposer_place.specs.Front.{front_of}
use Rattle.proposer_promise.proofs.rejected.Goals as goal

pub returns : goal.returns
unfolding front_of
returns c = λ b v.
    let worked = c.propose_again.ensures c.in-Some.counter (ap (λ (k : ℕ). record { 0 = k }) c.in-Some-checked_add.ensures.1) in
    search (rules, nat_tests, worked)
