-- `script_answer::show::put_block_at` meets its contract: nothing for zeros; else the word, the number, the digits and the line end.
-- Assumes nothing.
use Rattle.std.proofs.Common.{◌≡◌, List, [], ◌++◌, ℕ, length, take, rules}
use borrow.Author.Tests.{tests}
use Rattle.script_words.specs.Letters.{letters}
use Rattle.script_words.specs.Written.{hex_of}
use Rattle.script_words.specs.LentLaws.{Put, joined}
use Rattle.script_answer.specs.Lines.{spaced, kept_of, block_line}
use Rattle.script_answer.proofs.Kept.{nothing_kept, something_kept}
use Rattle.script_answer.proofs.show.put_block_at.Goals as goal

no_line : (out after block kept : List ℕ) (at r i : ℕ) → kept ≡ take (kept_of block) block → length kept ≡ 0 → Put out at [] r after → Put out at (block_line i block) r after
unfolding block_line
no_line out after block kept at r i e h put = rw (nothing_kept block kept e h) put

line : (out after block kept : List ℕ) (at r i : ℕ) → kept ≡ take (kept_of block) block → (length kept ≡ 0 → ⊥) → Put out at (letters "block" ++ (spaced i ++ (letters " " ++ (hex_of kept ++ letters "\n")))) r after → Put out at (block_line i block) r after
unfolding block_line
line out after block kept at r i e h put = rw (something_kept block kept e h) (rw e at put)

pub returns-then-is_empty : goal.returns-then-is_empty
returns-then-is_empty c = no_line _ _ _ _ _ _ _ c.kept-kept.ensures (search (rules, tests)) c.put_text.ensures

pub returns : goal.returns
returns c =
    line _ _ _ _ _ _ _ c.kept-kept.ensures (search (rules, tests))
    (joined c.put_numbered-at.ensures (joined c.put_byte-at.ensures (joined c.put_hex-at.ensures c.put_byte.ensures)))
