-- What the exported operations promise: what the party's operation promises of its answer, with that answer in numbers.
-- Assumes nothing.
use Rattle.std.specs.Prelude.{◌≡◌, List, ℕ}
use Rattle.messages.specs.declared.answer.Answer.{Answer}
use Rattle.message_numbers.specs.Answers.{refusal_of, numbers_after}

-- the number r that an exported operation hands back where the party's operation answers
pub record Numbered (P : Answer → Type 0) (r : ℕ) : Type 0 where
  pub answer : Answer
  pub meets : P answer
  pub number : r ≡ refusal_of answer

-- what an exported operation hands back where the party's operation answers: its number r and the numbers w' of the answer
pub record HandedBack (P : Answer → Type 0) (w : List ℕ) (r : ℕ) (w' : List ℕ) : Type 0 where
  pub answer : Answer
  pub meets : P answer
  pub number : r ≡ refusal_of answer
  pub numbers : w' ≡ numbers_after w answer
