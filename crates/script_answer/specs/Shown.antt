-- Where the answer area has room for what an answer says, the line of the answer says it whole: `shown` is `said`.
-- Assumes nothing.
use Rattle.std.specs.Prelude.{◌≡◌, refl, List, ◌++◌, ℕ, zero, suc, ◌+◌, ◌*◌, ◌≤◌, length}
use Rattle.std.proofs.Common.{arith, le-leb}
use Rattle.messages.specs.declared.answer.Answer.{Answer}
use Rattle.messages.specs.Answers.{entries, rows, entries_at, rows_at, row_bytes, said}
use Rattle.script_words.specs.Letters.{letters}
use Rattle.script_answer.specs.Lines.{told_text, entries_in, rows_in, shown, answer_line}

-- how many bytes of the area an answer's entries or rows need
abbrev pub room : Answer → ℕ
room Answer.Nothing = 0
room (Answer.Message to m n) = 0
room (Answer.Broadcast m e k v) = entries_at + 2 * e
room (Answer.Timeouts n) = rows_at + row_bytes * n
room (Answer.Refused r) = 0

entries_in_lem : (a : List ℕ) (at n : ℕ) → at + 2 * n ≤ length a → entries_in a at n ≡ entries a at n
unfolding entries_in entries
entries_in_lem a at zero h = refl
entries_in_lem a at (suc n) h = rw (le-leb (at + 2) (length a) (omega arith), entries_in_lem a (at + 2) n (omega arith))

rows_in_lem : (a : List ℕ) (at n : ℕ) → at + row_bytes * n ≤ length a → rows_in a at n ≡ rows a at n
unfolding rows_in rows
rows_in_lem a at zero h = refl
rows_in_lem a at (suc n) h = rw (le-leb (at + row_bytes) (length a) (omega arith), rows_in_lem a (at + row_bytes) n (omega arith))

pub shown-said : (r : Answer) (a : List ℕ) → room r ≤ length a → shown r a ≡ said r a
shown-said Answer.Nothing a h = refl
shown-said (Answer.Message to m n) a h = refl
shown-said (Answer.Broadcast m e k v) a h = rw (entries_in_lem a entries_at e h)
shown-said (Answer.Timeouts n) a h = rw (rows_in_lem a rows_at n h)
shown-said (Answer.Refused r) a h = refl

-- so an answer's line is 01's answer in words
pub line_said : (r : Answer) (a : List ℕ) → room r ≤ length a → answer_line r a ≡ told_text (said r a) ++ letters "\n"
unfolding answer_line
line_said r a h = rw (shown-said r a h)
