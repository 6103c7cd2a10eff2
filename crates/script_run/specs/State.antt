-- What a run of a script has: where it stands, its table, its answer area and what it put out.
-- Assumes nothing.
use Rattle.std.specs.Prelude.{List, ℕ}
use Rattle.script_run.specs.declared.run.Run.{Run}

pub record State : Type 0 where
  pub run : Run
  pub table : List ℕ
  pub area : List ℕ
  pub out : List ℕ

abbrev pub state : Run → List ℕ → List ℕ → List ℕ → State
state s t a out = record { run = s; table = t; area = a; out = out }
