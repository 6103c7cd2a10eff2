-- `script_run::show::show_table` meets its contract: the lent table is put out.
-- Assumes nothing.
use Rattle.std.proofs.Common.{◌≡◌, List, ℕ, ◌-◌, take, drop}
use Rattle.script_words.specs.LentLaws.{Put}
use Rattle.script_run.specs.declared.run.Run.{Run}
use Rattle.script_run.specs.Run.{put_up_to}
use Rattle.script_run.specs.Obeyed.{table_text, ran, Held, Stepped}
use Rattle.script_run.specs.Laws.{shown}
use Rattle.script_run.proofs.show.show_table.Goals as goal

table_shown : (s r : Run) (t a out out' : List ℕ) (at : ℕ) → Held s t a out → Put out s.at (table_text (take (s.bytes - 0) (drop 0 t))) at out' → r ≡ put_up_to s at → Stepped s out (ran s t a (table_text (take s.bytes t))) r t a out'
table_shown s r t a out out' at h p e = shown table_text s r t a out t out' s.bytes at h p e

pub returns : goal.returns
returns c = search table_shown depth 9
