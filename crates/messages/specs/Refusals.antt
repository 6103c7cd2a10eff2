-- 01's refusals: their numbers, and the choice of one. A party's refusals stand in a row of tests in rank order, and the first that holds is given.
-- Assumes nothing.
use Rattle.std.specs.Prelude.{Bool, true, false, List, [], ◌∷◌, ℕ}
use Rattle.std.specs.Prelude.{Option, None, Some}
use Rattle.messages.specs.declared.answer.Refusal.{Refusal}

abbrev pub number : Refusal → ℕ
number Refusal.AreaSize = 1
number Refusal.Damaged = 2
number Refusal.WrongKind = 3
number Refusal.OverLimit = 4
number Refusal.FirstPhase = 5
number Refusal.Repeated = 6
number Refusal.NotWaitedFor = 7
number Refusal.ForeignError = 8
number Refusal.PromisedAbove = 9
number Refusal.CounterUsedUp = 10
number Refusal.NoRoom = 11
number Refusal.ClockBack = 12

-- a refusal, and whether it is due
pub record Test : Type 0 where
  pub due : Bool
  pub refusal : Refusal

abbrev pub test : Bool → Refusal → Test
test d r = record { due = d; refusal = r }

abbrev pub pick_first : Bool → Refusal → Option Refusal → Option Refusal
pick_first true r rest = Some r
pick_first false r rest = rest

-- the first that is due
abbrev pub first_due : List Test → Option Refusal
first_due [] = None
first_due (t ∷ ts) = pick_first t.due t.refusal (first_due ts)
