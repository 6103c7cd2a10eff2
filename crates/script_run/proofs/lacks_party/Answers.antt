-- `script_run::lacks_party` meets its contract: where there is a party, no step lacks one.
-- Assumes nothing.
use Rattle.std.proofs.Common.{◌≡◌, refl, true, false}
use Rattle.script.specs.declared.step.Step.{Step}
use Rattle.script_run.specs.Obeyed.{lacks_party}
use Rattle.script_run.proofs.lacks_party.Goals as goal

none_lacks : (step : Step) → false ≡ lacks_party step true
none_lacks Step.Pass = refl
none_lacks (Step.Acceptor n) = refl
none_lacks (Step.Proposer n t) = refl
none_lacks (Step.Clock t) = refl
none_lacks (Step.Lend r b a) = refl
none_lacks (Step.Poke at) = refl
none_lacks Step.Table = refl
none_lacks Step.Area = refl
none_lacks (Step.Tick t) = refl
none_lacks (Step.Message from m) = refl
none_lacks Step.Unreadable = refl

pub returns-in-Some : goal.returns-in-Some
returns-in-Some c = rw c.in-Some.is (none_lacks c.args.step)
