-- `script_answer::answer::put_rows` meets its contract: the rows that are left, put behind, give the whole.
-- Assumes nothing.
use Rattle.std.proofs.Common.{rules, ◌∙◌}
use Rattle.messages.specs.Answers.{rows_at}
use Rattle.script_words.specs.LentLaws.{all_left, less_left, all_put}
use Rattle.script_answer.proofs.Cut.{rows_behind, rows_turn, rows_end}
use Rattle.script_answer.proofs.answer.put_rows.Goals as goal

pub loop-row-init : goal.loop-row-init
loop-row-init c =
    let d = c.into_iter-row-iterator.ensures.into_iter_gives in
    let t = c.take-row-items.ensures in
    record {
      size = search rules;
      left = rw (d, t.source, t.count, c.chunks_exact.ensures.rest, c.rest.ensures, rows_behind c.args.area.now rows_at 0 c.args.n) all_left;
    }

pub loop-row-preserved : goal.loop-row-preserved
loop-row-preserved c =
    let cut = c.in-Some.ensures.steps in
    let was = c.loop-row.invariant in
    record { size = cut.0.0 ∙ was.size; left = less_left was.left c.put_row-end.ensures (rows_turn _ _ _ _ _ cut.0.1.0 (cut.0.1.1 ∙ was.size) cut.1) }

pub returns : goal.returns
returns c =
    let end = c.in-None.ensures.steps in
    let was = c.loop-row.invariant in
    all_put was.left (rows_end _ _ (λ h. rw was.size at (end h).1.0)) c.min.ensures
