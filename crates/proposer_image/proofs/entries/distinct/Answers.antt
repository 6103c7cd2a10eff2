-- `proposer_image::entries::distinct` meets its contract: a test of each entry against those behind it.
-- Assumes nothing.
use Rattle.std.proofs.Common.{rules, tests, List, ℕ, not, ◌+◌, ◌-◌, ◌∙◌, take, drop, length}
use Rattle.std.proofs.lemmas.Iterator.{YieldsList-from_slice}
use Rattle.std.proofs.lemmas.Iterator.Consumers.{YieldsList-from_enumerate, YieldsList-at}
use Rattle.std.proofs.lemmas.Iterator.Search.{all_from_yields_List}
use Rattle.leaf_fields.specs.Fields.{from_le, part}
use Rattle.proposer_rules.specs.State.{listed}
use Rattle.proposer_place.specs.Rows.{numbers}
use Rattle.proposer_image.specs.Each.{distinct_entries}
use Rattle.proposer_image.proofs.entries.distinct.Goals as goal

pub returns : goal.returns
returns c =
    let l = c.args.list.now in
    all_from_yields_List (λ (p : ℕ × List ℕ). not (listed (from_le (part p.1 0 2)) (numbers (take (length l - (p.0 + 1)) (drop (p.0 + 1) l))))) _ _ c.all.result c.all.ensures.ran (YieldsList-from_enumerate (YieldsList-at c.enumerate.ensures.source (YieldsList-from_slice l c.iter.ensures.rest)) c.enumerate.ensures.count) (λ x b q k. search (rules, tests))
    ∙ distinct_entries l
