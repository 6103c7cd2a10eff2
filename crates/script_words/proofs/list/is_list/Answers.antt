-- `script_words::list::is_list` meets its contract: the dash, or each entry by its place.
-- Assumes nothing.
use Rattle.std.proofs.Common.{rules, tests, ◌≡◌, ◌∙◌, sym, refl, ℕ, Bool, true, false, List, [], ◌∷◌}
use Rattle.std.proofs.lemmas.Iterator.Consumers.{YieldsList-from_enumerate}
use Rattle.std.proofs.lemmas.Iterator.Search.{all_from_yields_List}
use Rattle.leaf_fields.specs.Fields.{same}
use Rattle.script_words.specs.Text.{list_from, list_word}
use Rattle.script_words.proofs.Pieces.{yields_pieces, is_entry, entries_are}
use Rattle.script_words.proofs.list.is_list.Goals as goal

dash : (w : List ℕ) (t : Bool) → t ≡ same w (45 ∷ []) → t ≡ true → true ≡ list_word w
unfolding list_word
dash w t h f = rw (← h, f) refl

entries : (w : List ℕ) (t : Bool) → t ≡ same w (45 ∷ []) → t ≡ false → list_from 32 w ≡ list_word w
unfolding list_word
entries w t h f = rw (← h, f) refl

pub returns-then-same : goal.returns-then-same
returns-then-same c = search dash

pub returns : goal.returns
returns c =
    let e = c.enumerate-entries.ensures.source in
    all_from_yields_List is_entry _ _ _ c.all.ensures.ran (YieldsList-from_enumerate (yields_pieces _ 44 c.args.word.now e c.split.ensures.rest c.split.ensures.done c.split.ensures.closure (λ x b q k. search (rules, tests))) c.enumerate-entries.ensures.count) (λ x b q k. search (rules, tests))
    ∙ sym (entries_are 32 0 c.args.word.now refl)
    ∙ entries _ _ c.same.ensures c.if-same.false
