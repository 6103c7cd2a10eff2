-- `script_run::obey` meets its contract: the line is read, its bytes stand in the buffer, and its step is done with them.
-- Assumes nothing.
use Rattle.std.proofs.Common.{◌≡◌, ◌∙◌, List, ℕ, ◌-◌, ◌≤◌, ◌<◌, lt-ltb, le-ltb, length, take, drop, rules}
use Rattle.script.specs.declared.step.Line.{Line}
use Rattle.script.specs.Read.{Read, key_of, value_of, other_of, numbers_of, key_there, value_there, other_there, list_there}
use Rattle.script_run.specs.declared.run.Run.{Run}
use Rattle.script_run.specs.Obeyed.{unreadable, taken_in, obeyed, Stepped}
use Rattle.script_run.specs.Laws.{lent}
use Rattle.script_run.proofs.obey.Goals as goal

too_long : (s r : Run) (t a out out' text : List ℕ) (line : ℕ) → 4096 < length text → Stepped s out (unreadable s t a line) r t a out' → Stepped s out (obeyed s t a line text) r t a out'
unfolding obeyed
too_long s r t a out out' text line h k = rw (lt-ltb 4096 (length text) h) k

done : (s r : Run) (t a out t' a' out' text bytes list bytes' list' : List ℕ) (line : ℕ) (u : Line) → length text ≤ 4096 → 1800 ≤ length bytes → 32 ≤ length list → Read text bytes list u bytes' list' → Stepped s out (taken_in s t a line u.step (take (u.key - 0) (drop 0 bytes')) (take (u.value - u.key) (drop u.key bytes')) (take (u.other - u.value) (drop u.value bytes')) (take (u.list - 0) (drop 0 list'))) r t' a' out' → Stepped s out (obeyed s t a line text) r t' a' out'
unfolding obeyed
done s r t a out t' a' out' text bytes list bytes' list' line u h room places read k =
    let key : take (u.key - 0) (drop 0 bytes') ≡ key_of text = lent bytes' u.key ∙ key_there text bytes list u bytes' list' read room in
    let value : take (u.value - u.key) (drop u.key bytes') ≡ value_of text = value_there text bytes list u bytes' list' read room in
    let other : take (u.other - u.value) (drop u.value bytes') ≡ other_of text = other_there text bytes list u bytes' list' read room in
    let numbers : take (u.list - 0) (drop 0 list') ≡ numbers_of text = lent list' u.list ∙ list_there text bytes list u bytes' list' read places in
    rw (le-ltb 4096 (length text) h) (rw (read.step, key, value, other, numbers) at k)

pub returns-then-text-gt-LINE_MOST : goal.returns-then-text-gt-LINE_MOST
returns-then-text-gt-LINE_MOST c = search too_long depth 12

pub returns : goal.returns
returns c =
    done _ _ _ _ _ _ _ _ _ _ _ _ _ _ _ (search rules) c.requires.1 c.requires.2 c.read-read.ensures c.take.ensures
