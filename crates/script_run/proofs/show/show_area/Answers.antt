-- `script_run::show::show_area` meets its contract: the lent answer area is put out.
-- Assumes nothing.
use Rattle.std.proofs.Common.{◌≡◌, List, ℕ, ◌-◌, take, drop}
use Rattle.script_words.specs.LentLaws.{Put}
use Rattle.script_answer.specs.Lines.{area_line}
use Rattle.script_run.specs.declared.run.Run.{Run}
use Rattle.script_run.specs.Run.{put_up_to}
use Rattle.script_run.specs.Obeyed.{ran, Held, Stepped}
use Rattle.script_run.specs.Laws.{shown}
use Rattle.script_run.proofs.show.show_area.Goals as goal

area_shown : (s r : Run) (t a out out' : List ℕ) (at : ℕ) → Held s t a out → Put out s.at (area_line (take (s.area - 0) (drop 0 a))) at out' → r ≡ put_up_to s at → Stepped s out (ran s t a (area_line (take s.area a))) r t a out'
area_shown s r t a out out' at h p e = shown area_line s r t a out a out' s.area at h p e

pub returns : goal.returns
returns c = search area_shown depth 9
