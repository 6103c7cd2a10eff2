-- `script_answer::answer::put_answer_at` meets its contract: the answer, and the line end.
-- Assumes nothing.
use Rattle.std.proofs.Common.{◌≡◌, refl, List, ◌++◌, ℕ}
use Rattle.messages.specs.declared.answer.Answer.{Answer}
use Rattle.script_words.specs.Letters.{letters}
use Rattle.script_words.specs.LentLaws.{both}
use Rattle.script_answer.specs.Lines.{told_text, shown, answer_line}
use Rattle.script_answer.proofs.answer.put_answer_at.Goals as goal

ended : (answer : Answer) (area : List ℕ) → answer_line answer area ≡ told_text (shown answer area) ++ letters "\n"
unfolding answer_line
ended answer area = refl

pub returns : goal.returns
returns c = both c.put_told-at.ensures c.put_byte.ensures (ended _ _)
