-- `proposer_clock::tick` meets its contract: by the clock, and by the number of rows.
-- Assumes nothing.
use Rattle.std.proofs.Common.{rules, sym, ◌∙◌}
use Rattle.proposer_clock.specs.TickLaws.{tick_nothing_on, tick_told_on}
use Rattle.proposer_clock.proofs.tick.Goals as goal

pub returns-in-0 : goal.returns-in-0
returns-in-0 c =
    tick_nothing_on _ _ _ _ _ _ (sym c.clock_back.ensures ∙ c.if-clock_back.false) c.expire.ensures.0 c.expire.ensures.1 c.expire.ensures.2 c.in-0.is

pub returns-in_default : goal.returns-in_default
returns-in_default c =
    tick_told_on _ _ _ _ _ _ (sym c.clock_back.ensures ∙ c.if-clock_back.false) c.expire.ensures.0 c.expire.ensures.1 c.expire.ensures.2 (search rules)
