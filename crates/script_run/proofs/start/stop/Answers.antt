-- `script_run::start::stop` meets its contract: three texts, one behind the other, are the line.
-- Assumes nothing.
use Rattle.std.proofs.Common.{◌≡◌, refl, ap, ◌∙◌, List, ◌++◌, ℕ}
use Rattle.script_words.specs.Letters.{letters}
use Rattle.script_words.specs.LentLaws.{Put, joined}
use Rattle.script_words.specs.Written.{decimal}
use Rattle.script_run.specs.declared.run.Run.{Run}
use Rattle.script_run.specs.Run.{put_up_to, over}
use Rattle.script_run.specs.Obeyed.{Held, Stepped, stopped}
use Rattle.script_run.proofs.start.stop.Goals as goal

line_put : (s : Run) (t a out why o1 o2 out' : List ℕ) (line p q at : ℕ) (u r : Run) → Held s t a out → Put out s.at (letters "line ") p o1 → Put o1 p (decimal line) q o2 → Put o2 q why at out' → u ≡ put_up_to s at → r ≡ over u → Stepped s out (stopped s t a line why) r t a out'
line_put s t a out why o1 o2 out' line p q at u r h x y z e f =
    let whole : Put out s.at (letters "line " ++ (decimal line ++ why)) at out' = joined x (joined y z) in
    let g : r ≡ over (put_up_to s at) = f ∙ ap over e in
    rw g (record { run = refl; table = refl; area = refl; put = whole; held = (h.0, h.1, h.2, whole.within) })

pub returns : goal.returns
returns c = search line_put depth 12
