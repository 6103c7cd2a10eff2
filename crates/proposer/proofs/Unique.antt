-- The contracts of `proposer::start`, `receive` and `tick` leave no choice: two outcomes of one call are the same answer, area and answer area.
-- Assumes nothing.
use mathlib.Core.Path.{◌≡◌, sym, ◌∙◌}
use mathlib.Core.List.{List}
use Prim.Native.Nat.{ℕ}
use Rattle.messages.specs.declared.answer.Answer.{Answer}
use Rattle.proposer_rules.specs.Rules.{Outcome}
use Rattle.proposer.specs.Contract.{Done, Started}

-- a message, or a tick
pub one_outcome : (a w : List ℕ) (o : Outcome) (r r' : Answer) (a₁ w₁ a₂ w₂ : List ℕ) → Done a w o r a₁ w₁ → Done a w o r' a₂ w₂ → (r ≡ r') × (a₁ ≡ a₂) × (w₁ ≡ w₂)
one_outcome a w o r r' a₁ w₁ a₂ w₂ d e =
    (d.answer ∙ sym e.answer, d.area ∙ sym e.area, d.written ∙ sym e.written)

pub one_start : (a : List ℕ) (o : Outcome) (r r' : Answer) (a₁ a₂ : List ℕ) → Started a o r a₁ → Started a o r' a₂ → (r ≡ r') × (a₁ ≡ a₂)
one_start a o r r' a₁ a₂ d e = (d.answer ∙ sym e.answer, d.area ∙ sym e.area)
