-- `script_run::start::start_acceptor` meets its contract: a table of so many registers.
-- Assumes nothing.
use Rattle.std.proofs.Common.{List, ℕ, ◌*◌, ◌≤◌, ◌<◌, lt-ltb, le-ltb}
use Rattle.script_run.specs.declared.run.Party.{Party}
use Rattle.script_run.specs.declared.run.Run.{Run}
use Rattle.script_run.specs.Obeyed.{unreadable, fresh_in, acceptor_in, Stepped}
use Rattle.script_run.proofs.start.start_acceptor.Goals as goal

too_many : (s r : Run) (t a out out' : List ℕ) (line registers : ℕ) → 1024 < registers → Stepped s out (unreadable s t a line) r t a out' → Stepped s out (acceptor_in s t a line registers) r t a out'
unfolding acceptor_in
too_many s r t a out out' line registers h k = rw (lt-ltb 1024 registers h) k

few : (s r : Run) (t a out t' a' out' : List ℕ) (line registers : ℕ) → registers ≤ 1024 → Stepped s out (fresh_in s t a line Party.Acceptor registers (registers * 512) 256) r t' a' out' → Stepped s out (acceptor_in s t a line registers) r t' a' out'
unfolding acceptor_in
few s r t a out t' a' out' line registers h k = rw (le-ltb 1024 registers h) k

pub returns-then-registers-gt-REGISTERS_MOST : goal.returns-then-registers-gt-REGISTERS_MOST
returns-then-registers-gt-REGISTERS_MOST c = search too_many depth 9

pub returns : goal.returns
returns c = search few depth 9
