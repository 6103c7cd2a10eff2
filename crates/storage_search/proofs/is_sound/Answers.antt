-- `storage_search::is_sound` meets its contract: the test of each block is that of its slot.
-- Assumes nothing.
use Rattle.std.proofs.Common.{◌≡◌, refl, Bool, List, [], ◌∷◌, not, ◌&&◌, ℕ, map, ap, ◌∙◌, rules}
use Rattle.std.proofs.lemmas.Iterator.{YieldsList-from_slice}
use Rattle.std.proofs.lemmas.Iterator.Search.{all_from_yields_List}
use Rattle.std.specs.List.{list_all}
use borrow.Author.Tests.{tests}
use Rattle.storage_block.specs.Block.{slot_of}
use Rattle.storage_search.specs.Table.{is_bad, none_bad}
use Rattle.storage_search.proofs.is_sound.Goals as goal

abbrev fine : List ℕ → Bool
fine b = not (is_bad (slot_of b))

all_fine : (l : List (List ℕ)) → list_all fine l ≡ none_bad (map slot_of l)
unfolding none_bad
all_fine [] = refl
all_fine (b ∷ l) = ap (λ r. fine b && r) (all_fine l)

pub returns : goal.returns
unfolding slot_of
returns c =
    all_from_yields_List fine _ _ _ c.all.ensures.ran (YieldsList-from_slice c.args.blocks.now cc) (λ x b q k. search (rules, tests))
    ∙ all_fine c.args.blocks.now
