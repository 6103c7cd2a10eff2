-- `proposer_works::noted` meets its contract: the counter is raised by the header's, and a majority of noes is the front's count and one.
-- Assumes nothing.
use Rattle.std.proofs.Common.{arith, refl, subst, sym, ◌∙◌}
use Rattle.std.proofs.lemmas.Bool.{not-true, not-false}
use Prim.Native.Nat.{ℕ}
use Rattle.std.specs.Prelude.{Some}
use Rattle.proposer_rules.specs.State.{with_no}
use Rattle.proposer_area.specs.State.{state, pending, Becomes}
use Rattle.proposer_works.specs.Works.{placed}
use Rattle.proposer_works.specs.Room.{noes_few, held_used}
use Rattle.proposer_works.specs.WorksLaws.{noes_reached, counter_raised}
use Rattle.proposer_works.proofs.noted.Goals as goal

pub overflow_add-f : goal.overflow_add-f
overflow_add-f c = omega (arith, noes_few _ _ (held_used _ _ _ c.args.area.now.held c.requires.pends) c.take_place-f.ensures.0)

pub returns-then-short_of : goal.returns-then-short_of
returns-then-short_of c =
    let a = c.args.area.now in
    record {
      short = noes_reached _ _ c.args.from c.take_place-f.ensures.0 ∙ not-true _ (sym c.short_of.ensures ∙ c.if-short_of.true);
      becomes =
          subst (λ (k : ℕ). Becomes a c.raise_with.new.area (placed (state a) k c.args.i (Some (with_no (pending a c.args.i) c.args.from))))
          (counter_raised a.bytes.now a.places _ c.args.last _ c.header-h.ensures.0 c.higher-counter.ensures) c.raise_with.ensures;
    }

pub returns : goal.returns
returns c =
    let a = c.args.area.now in
    record {
      enough = noes_reached _ _ c.args.from c.take_place-f.ensures.0 ∙ not-false _ (sym c.short_of.ensures ∙ c.if-short_of.false);
      counter = counter_raised a.bytes.now a.places _ c.args.last _ c.header-h.ensures.0 c.higher-counter.ensures;
      same = refl;
    }
