-- The proposer's contract: the rules on the state that a lent area is the image of, and every byte of the area and of the answer area after them.
-- Assumes nothing.
use Rattle.std.specs.Prelude.{◌≡◌, not, ◌&&◌, List, [], ◌∷◌, ℕ, eqb, length}
use Rattle.messages.specs.declared.Address.{Address}
use Rattle.messages.specs.declared.answer.Answer.{Answer}
use Rattle.messages.specs.declared.answer.Refusal.{Refusal}
use Rattle.messages.specs.Message.{Message}
use Rattle.messages.specs.Limits.{list_fits}
use Rattle.messages.specs.Refusals.{Test, test, first_due}
use Rattle.messages.specs.Answers.{Told, nothing, one, each, timeouts, refused, answer_of, written_in}
use Rattle.proposer_rules.specs.State.{Proposer}
use Rattle.proposer_rules.specs.Rules.{Outcome, outcome, unless, receive, tick, start}
use Rattle.proposer_place.specs.Area.{area_image, read_area, sized, is_image}
use Rattle.proposer_works.specs.Works.{answer_bytes}

-- ---- the outcome of a call on a lent area of n places, with a lent answer area

-- refusals 1 and 2, before those of the message or the tick
abbrev pub area_tests : List ℕ → ℕ → List ℕ → List Test
area_tests a n w =
    test (not (sized a n && eqb (length w) (answer_bytes n))) Refusal.AreaSize
    ∷ test (not (is_image a n)) Refusal.Damaged
    ∷ []

unfoldable pub outcome_on : List ℕ → ℕ → List ℕ → Address → ℕ → Message → Outcome
outcome_on a n w from at m = unless (first_due (area_tests a n w)) (read_area a n) (receive (read_area a n) from at m)

unfoldable pub tick_on : List ℕ → ℕ → List ℕ → ℕ → Outcome
tick_on a n w t = unless (first_due (area_tests a n w)) (read_area a n) (tick (read_area a n) t)

-- "(refusals 1, then 4, for that start)"
abbrev pub start_tests : List ℕ → ℕ → List ℕ → List Test
start_tests a n l = test (not (sized a n)) Refusal.AreaSize ∷ test (not (list_fits l)) Refusal.OverLimit ∷ []

unfoldable pub start_on : List ℕ → ℕ → ℕ → List ℕ → Outcome
start_on a n timeout l = unless (first_due (start_tests a n l)) (read_area a n) (outcome (start timeout l n) nothing)

-- the area after an outcome: a refusal "leaves state and every lent area byte for byte", else it is the image of the new state
abbrev pub area_after : List ℕ → Told → Proposer → List ℕ
area_after a nothing s = area_image s
area_after a (one to m) s = area_image s
area_after a (each l m) s = area_image s
area_after a (timeouts rs) s = area_image s
area_after a (refused r) s = a

-- ---- the whole contract: the enum, every byte of the area, and every byte of the answer area

pub record Done (a w : List ℕ) (o : Outcome) (r : Answer) (a' w' : List ℕ) : Type 0 where
  pub answer : r ≡ answer_of o.told
  pub area : a' ≡ area_after a o.told o.state
  pub written : w' ≡ written_in w o.told

-- a start is lent no answer area
pub record Started (a : List ℕ) (o : Outcome) (r : Answer) (a' : List ℕ) : Type 0 where
  pub answer : r ≡ answer_of o.told
  pub area : a' ≡ area_after a o.told o.state
