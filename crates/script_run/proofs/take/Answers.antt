-- `script_run::take` meets its contract: each step is the one that its name says.
-- Assumes nothing.
use Rattle.std.proofs.Common.{◌≡◌, refl, sym, ◌∙◌, Bool, true, false, List, ℕ}
use Rattle.script.specs.declared.step.Step.{Step}
use Rattle.script_words.specs.Letters.{letters}
use Rattle.script_run.specs.declared.run.Run.{Run}
use Rattle.script_run.specs.Run.{timed}
use Rattle.script_run.specs.Obeyed.{is_started, stopped, lacks_party, step_in, taken_in, Held, Stepped}
use Rattle.script_run.specs.Laws.{quiet, first_of, second_of}
use Rattle.script_run.proofs.take.Goals as goal

no_party : (s r : Run) (t a out out' k v o l : List ℕ) (line : ℕ) (step : Step) (f : Bool) → f ≡ lacks_party step (is_started s.party) → f ≡ true → Stepped s out (stopped s t a line (letters ": no party yet\n")) r t a out' → Stepped s out (taken_in s t a line step k v o l) r t a out'
unfolding taken_in
no_party s r t a out out' k v o l line step f e h q = first_of s r out t a out' (lacks_party step (is_started s.party)) _ _ (sym e ∙ h) q

arm : (s r : Run) (t a out t' a' out' k v o l : List ℕ) (line : ℕ) (step c : Step) (f : Bool) → f ≡ lacks_party step (is_started s.party) → f ≡ false → step ≡ c → Stepped s out (step_in s t a line c k v o l) r t' a' out' → Stepped s out (taken_in s t a line step k v o l) r t' a' out'
unfolding taken_in
arm s r t a out t' a' out' k v o l line step c f e h m q = second_of s r out t' a' out' (lacks_party step (is_started s.party)) _ _ (sym e ∙ h) (rw m q)

passed : (s : Run) (t a out k v o l : List ℕ) (line : ℕ) (step : Step) (f : Bool) → Held s t a out → f ≡ lacks_party step (is_started s.party) → f ≡ false → step ≡ Step.Pass → Stepped s out (taken_in s t a line step k v o l) s t a out
passed s t a out k v o l line step f held e h m = arm s s t a out t a out k v o l line step Step.Pass f e h m (quiet s s s t a out held.3 refl refl held)

timed_only : (s r : Run) (t a out k v o l : List ℕ) (line time : ℕ) (step : Step) (f : Bool) → Held s t a out → f ≡ lacks_party step (is_started s.party) → f ≡ false → step ≡ Step.Clock time → r ≡ timed s time → Stepped s out (taken_in s t a line step k v o l) r t a out
timed_only s r t a out k v o l line time step f held e h m g = arm s r t a out t a out k v o l line step (Step.Clock time) f e h m (quiet s (timed s time) r t a out held.3 refl g held)

pub returns-then-lacks_party : goal.returns-then-lacks_party
returns-then-lacks_party c = search no_party depth 14

pub returns-in-Pass : goal.returns-in-Pass
returns-in-Pass c = search passed depth 14

pub returns-in-Acceptor : goal.returns-in-Acceptor
returns-in-Acceptor c = search arm depth 14

pub returns-in-Proposer : goal.returns-in-Proposer
returns-in-Proposer c = search arm depth 14

pub returns-in-Clock : goal.returns-in-Clock
returns-in-Clock c = search timed_only depth 14

pub returns-in-Lend : goal.returns-in-Lend
returns-in-Lend c = search arm depth 14

pub returns-in-Poke : goal.returns-in-Poke
returns-in-Poke c = search arm depth 14

pub returns-in-Table : goal.returns-in-Table
returns-in-Table c = search arm depth 14

pub returns-in-Area : goal.returns-in-Area
returns-in-Area c = search arm depth 14

pub returns-in-Tick : goal.returns-in-Tick
returns-in-Tick c = search arm depth 14

pub returns-in-Message : goal.returns-in-Message
returns-in-Message c = search arm depth 14

pub returns-in-Unreadable : goal.returns-in-Unreadable
returns-in-Unreadable c = search arm depth 14
