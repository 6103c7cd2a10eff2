-- `script_answer::answer::put_refused` meets its contract: the number, and the name behind it.
-- Assumes nothing.
use Rattle.std.proofs.Common.{◌≡◌, List, ◌++◌, ℕ}
use Rattle.messages.specs.declared.answer.Refusal.{Refusal}
use Rattle.messages.specs.Refusals.{number}
use Rattle.messages.specs.Answers.{refused}
use Rattle.script_words.specs.Letters.{letters}
use Rattle.script_words.specs.LentLaws.{Put, joined}
use Rattle.script_answer.specs.Lines.{spaced, name_text, told_text}
use Rattle.script_answer.proofs.answer.put_refused.Goals as goal

numbered : (out after name : List ℕ) (at r n : ℕ) (m : Refusal) → n ≡ number m → name ≡ name_text m → Put out at (letters "refused" ++ (spaced n ++ (letters " " ++ name))) r after → Put out at (told_text (refused m)) r after
numbered out after name at r n m e f h = rw (e, f) at h

pub returns : goal.returns
returns c = numbered _ _ _ _ _ _ _ c.number.ensures c.name.ensures (joined c.put_numbered-at.ensures (joined c.put_byte-at.ensures c.put_text.ensures))
