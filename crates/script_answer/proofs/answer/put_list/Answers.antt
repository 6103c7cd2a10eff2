-- `script_answer::answer::put_list` meets its contract: the entries that are left, put behind, give the whole.
-- Assumes nothing.
use Rattle.std.proofs.Common.{◌≡◌, refl, ◌∙◌, List, ◌++◌, ℕ, zero, suc, ◌+◌, ◌-◌, ◌≤◌, ◌<◌, length, drop, arith, rules, le-leb}
use Rattle.std.proofs.lemmas.Bool.{lt-leb}
use Rattle.leaf_fields.specs.Fields.{from_le, part}
use Rattle.messages.specs.Answers.{entries_at}
use Rattle.script_words.specs.Letters.{letters}
use Rattle.script_words.specs.Written.{decimal}
use Rattle.script_words.specs.LentLaws.{all_left, less_left, all_put}
use Rattle.script_answer.specs.Lines.{list_text, entries_text, entries_in}
use Rattle.script_answer.proofs.Cut.{entries_behind, entries_turn, entries_end}
use Rattle.script_answer.proofs.answer.put_list.Goals.{then-n-eq0-via-then-n-eq0, then-n-eq0-via-else-n-eq0+then-area}
use Rattle.script_answer.proofs.answer.put_list.Goals as goal

no_room : (area : List ℕ) (n : ℕ) → length area < entries_at + 2 → list_text (entries_in area entries_at n) ≡ letters "-"
unfolding entries_in
no_room area zero h = refl
no_room area (suc n) h = rw (lt-leb (entries_at + 2) (length area) h)

begun : (m first : ℕ) (area : List ℕ) → (m ≡ 0 → ⊥) → entries_at + 2 ≤ length area → first ≡ from_le (part area entries_at 2) → list_text (entries_in area entries_at m) ≡ decimal first ++ entries_text (entries_in (drop (entries_at + 2) area) 0 (m - 1))
unfolding entries_in
begun zero first area some h f = absurd (some refl)
begun (suc m) first area some h f =
    let k : suc m - 1 ≡ m = omega arith in
    rw (le-leb (entries_at + 2) (length area) h, k, entries_behind area (entries_at + 2) 0 m, f)

pub returns-then-n-eq0 : goal.returns-then-n-eq0
unfolding entries_in
returns-then-n-eq0 c =
    elim c.then-n-eq0.branch [
      | then-n-eq0-via-then-n-eq0 w ↦ rw w.if-n-eq0.true c.put_byte.ensures
      | then-n-eq0-via-else-n-eq0+then-area w ↦ rw (no_room c.args.area.now c.args.n w.if-area.true) c.put_byte.ensures
    ]

pub loop-entry-init : goal.loop-entry-init
loop-entry-init c =
    let d = c.into_iter-entry-iterator.ensures.into_iter_gives in
    let t = c.take-entry-items.ensures in
    record {
      size = search rules;
      left = rw (d, t.source, t.count, c.chunks_exact.ensures.rest, c.rest.ensures) (less_left all_left c.put_number-end.ensures (begun _ _ _ c.if-n-eq0.false c.if-area.false c.read.ensures));
    }

pub loop-entry-preserved : goal.loop-entry-preserved
loop-entry-preserved c =
    let cut = c.in-Some.ensures.steps in
    let was = c.loop-entry.invariant in
    record { size = cut.0.0 ∙ was.size; left = less_left was.left c.put_entry-end.ensures (entries_turn _ _ _ _ _ cut.0.1.0 (cut.0.1.1 ∙ was.size) cut.1) }

pub returns : goal.returns
returns c =
    let end = c.in-None.ensures.steps in
    let was = c.loop-entry.invariant in
    all_put was.left (entries_end _ _ (λ h. rw was.size at (end h).1.0)) c.min.ensures
