-- `proposer_image::entries::each_listed` meets its contract: a test of each entry.
-- Assumes nothing.
use Rattle.std.proofs.Common.{rules, tests, ◌∙◌}
use Rattle.std.proofs.lemmas.Iterator.{YieldsList-from_slice}
use Rattle.std.proofs.lemmas.Iterator.Search.{all_from_yields_List}
use Rattle.leaf_fields.specs.Fields.{from_le, part}
use Rattle.proposer_rules.specs.State.{listed}
use Rattle.proposer_place.specs.Rows.{numbers}
use Rattle.proposer_image.specs.Good.{is_wanted}
use Rattle.proposer_image.specs.Each.{each_entry}
use Rattle.proposer_image.proofs.entries.each_listed.Goals as goal

pub returns : goal.returns
returns c =
    all_from_yields_List (λ e. is_wanted c.args.wanted (listed (from_le (part e 0 2)) (numbers c.args.others.now))) _ _ c.all.result c.all.ensures.ran (YieldsList-from_slice c.args.list.now c.iter.ensures.rest) (λ x b q k. search (rules, tests))
    ∙ each_entry c.args.list.now (numbers c.args.others.now) c.args.wanted
