-- `storage_search::lowest_free` meets its contract: among sound blocks the test of each is that of its slot.
-- Assumes nothing.
use Rattle.std.proofs.Common.{◌≡◌, refl, Bool, true, false, List, [], ◌∷◌, ℕ, suc, eqb, not, cond, ltb, ◌+◌, Some, None, Option, length, map, ◌∙◌, rules, zero-add, add-zero, arith}
use Rattle.std.proofs.lemmas.Bool.{not-true}
use Rattle.std.proofs.lemmas.Iterator.{YieldsList-from_slice}
use Rattle.std.proofs.lemmas.Iterator.Search.{position_from_yields_List}
use Rattle.std.specs.List.{position, position_or_len}
use borrow.Author.Tests.{tests, lt-ltb}
use Rattle.leaf_fields.specs.Fields.{byte}
use Rattle.leaf_fields.specs.Laws.{and_true}
use Rattle.storage_block.specs.Block.{slot_of}
use Rattle.storage_search.specs.Table.{is_bad, none_bad, is_free, first_from}
use Rattle.storage_search.specs.Laws.{free_by_bytes}
use Rattle.storage_search.proofs.lowest_free.Goals as goal

abbrev unused : List ℕ → Bool
unused b = eqb (byte b 0) 0

-- the first place, counted from i on
abbrev place : ℕ → List (List ℕ) → Option ℕ
place i l = cond (ltb (position_or_len unused l) (length l)) (Some (i + position_or_len unused l)) None

turn : (h f : Bool) (i p n : ℕ) (rest : Option ℕ) → f ≡ h → cond (ltb p n) (Some (suc i + p)) None ≡ rest → cond (ltb (cond (not h) (1 + p) 0) (suc n)) (Some (i + cond (not h) (1 + p) 0)) None ≡ cond f (Some i) rest
turn true f i p n rest e l = rw (e, add-zero, lt-ltb 0 (suc n) (omega arith))
turn false f i p n rest e l =
    let m : i + (1 + p) ≡ suc i + p = omega arith in
    let less : ltb (1 + p) (suc n) ≡ ltb p n = grind (arith, tests) in
    rw (e, m, less) l

first : (i : ℕ) (l : List (List ℕ)) → none_bad (map slot_of l) ≡ true → place i l ≡ first_from is_free i (map slot_of l)
unfolding none_bad first_from
first i [] sound = refl
first i (b ∷ l) sound =
    let both = and_true (not (is_bad (slot_of b))) (none_bad (map slot_of l)) sound in
    turn (unused b) (is_free (slot_of b)) i _ _ _ (free_by_bytes b (not-true (is_bad (slot_of b)) both.0)) (first (suc i) l both.1)

whole : (l : List (List ℕ)) → none_bad (map slot_of l) ≡ true → position unused l ≡ first_from is_free 0 (map slot_of l)
whole l sound = rw zero-add at (first 0 l sound)

pub returns : goal.returns
returns c =
    position_from_yields_List unused _ _ c.position.result c.position.ensures.ran (YieldsList-from_slice c.args.blocks.now cc) (λ x b q k. search (rules, tests))
    ∙ whole c.args.blocks.now c.requires
