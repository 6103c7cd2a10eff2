-- `script_run::bench::obey_behind` meets its contract: the line is obeyed at the place where the output ends, and that place changes nothing else.
-- Assumes nothing.
use Rattle.std.proofs.Common.{◌≡◌, refl, sym, ap, ◌∙◌, List, ℕ, ◌≤◌, length, take}
use Rattle.script_words.specs.LentLaws.{put_in}
use Rattle.script_run.specs.declared.run.Run.{Run}
use Rattle.script_run.specs.Run.{put_up_to}
use Rattle.script_run.specs.Obeyed.{Ran, obeyed, Stepped, Follows}
use Rattle.script_run.specs.Moved.{moved, line_moved}
use Rattle.script_run.proofs.bench.obey_behind.Goals as goal

at_none : (s : Run) → s.at ≡ 0 → put_up_to s 0 ≡ s
at_none s e = ap (put_up_to s) (sym e)

-- at place 0 the run that comes of it is at place 0
stays : (s : Run) (t a text : List ℕ) (line : ℕ) → s.at ≡ 0 → obeyed s t a line text ≡ moved 0 (obeyed s t a line text)
stays s t a text line e = ap (λ (x : Run). obeyed x t a line text) (sym (at_none s e)) ∙ line_moved 0 s t a line text

follows : (n : ℕ) (s v r u : Run) (t a buf out t' a' buf' text : List ℕ) (k line : ℕ) → s.at ≡ 0 → length buf ≡ n → k ≤ n → take k buf ≡ out → v ≡ put_up_to s k → Stepped v buf (obeyed v t a line text) r t' a' buf' → u ≡ put_up_to r 0 → Follows n out (obeyed s t a line text) u t' a' (take r.at buf')
follows n s v r u t a buf out t' a' buf' text k line none size within was ev step eu =
    let f : Stepped (put_up_to s k) buf (moved k (obeyed s t a line text)) r t' a' buf' = rw (ev, line_moved k s t a line text) at step in
    rw eu
    (record {
      run = ap (λ (x : Run). put_up_to x 0) f.run ∙ sym (ap (λ (o : Ran). o.run) (stays s t a text line none));
      table = f.table;
      area = f.area;
      out = put_in n buf out (obeyed s t a line text).text buf' k r.at size within was f.put;
      held = (f.held.0, f.held.1, f.held.2, refl);
    })

pub returns : goal.returns
returns g c = follows _ _ _ _ _ _ _ _ _ _ _ _ _ _ _ c.requires.3 c.out.told c.out.invariant c.out.view_is c.put_up_to.ensures c.obey-next.ensures c.put_up_to-2.ensures
