-- `script_run::bench::Bench::obey` meets its contract: the line is obeyed with the buffers of the run.
-- Assumes nothing.
use Rattle.std.proofs.Common.{◌≡◌, List, ℕ}
use Rattle.script_run.specs.declared.run.Run.{Run}
use Rattle.script_run.specs.State.{State, state}
use Rattle.script_run.specs.Obeyed.{Ran, after, Follows}
use Rattle.script_run.proofs.bench.Bench.obey.Goals as goal

stands : (n : ℕ) (v : State) (o : Ran) (r : Run) (t a out : List ℕ) → Follows n v.out o r t a out → state r t a out ≡ after n v o
stands n v o r t a out f = rw (f.run, f.table, f.area, f.out)

pub returns : goal.returns
returns g c = rw (← c.self.view_is) (stands _ (state c.self.inside.run c.self.inside.table c.self.inside.area c.self.inside.out) _ _ _ _ _ c.obey_behind-self-inside.ensures)
