-- `proposer_area::entries::listed` meets its contract: a test of each entry.
-- Assumes nothing.
use Rattle.std.proofs.Common.{rules, tests, eqb, ◌∙◌}
use Rattle.std.proofs.lemmas.Iterator.{YieldsList-from_slice}
use Rattle.std.proofs.lemmas.Iterator.Search.{any_from_yields_List}
use Rattle.leaf_fields.specs.Fields.{from_le, part}
use Rattle.proposer_area.specs.Entries.{listed_entry}
use Rattle.proposer_area.proofs.entries.listed.Goals as goal

pub returns : goal.returns
returns c =
    any_from_yields_List (λ e. eqb (from_le (part e 0 2)) c.args.a) _ _ c.any.result c.any.ensures.ran (YieldsList-from_slice c.args.list.now c.iter.ensures.rest) (λ x b q k. search (rules, tests))
    ∙ listed_entry c.args.a c.args.list.now
