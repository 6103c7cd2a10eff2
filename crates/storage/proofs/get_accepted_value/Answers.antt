-- `storage::get_accepted_value` meets its contract: the area's size, then the key's block, if it has one.
-- Assumes nothing.
use Rattle.std.proofs.Common.{◌≡◌, refl, sym, ap, ◌∙◌, true, List, ℕ, Option, Some, None, Ok, Bor, length, eq-eqb}
use Rattle.std.specs.Prelude.{option_map}
use Rattle.std.specs.Array.{IsWholeChunk}
use Rattle.std.proofs.lemmas.List.Edits.{sets}
use Rattle.messages.specs.Answers.{bytes_of}
use Rattle.messages.specs.Message.{Value}
use Rattle.messages.specs.Refusals.{first_due}
use Rattle.storage_block.specs.Block.{readable, register_of}
use Rattle.storage_search.specs.Table.{slots, where_is}
use Rattle.storage.specs.Operations.{key_tests, value_tests, register_on, value_answer, block_by_place, ValueGot}
use Rattle.storage.specs.Laws.{register_from, register_got, readable_got}
use Rattle.storage.proofs.get_accepted_value.Goals as goal

answer_is : (v : Option Value) → option_map length v ≡ value_answer v
answer_is None = refl
answer_is (Some v) = refl

-- the block that was found
module _ (t : List ℕ) (n : ℕ) (k : List ℕ) (o : Option (Bor (List ℕ))) (due : first_due (key_tests t n k) ≡ None) (here : option_map (λ b. b.now) o ≡ block_by_place t (where_is k (slots t n))) where
  can_read : (b : Bor (List ℕ)) → o ≡ Some b → readable b.now ≡ true
  can_read b e = readable_got t n k due b.now (ap (option_map (λ b'. b'.now)) (sym e) ∙ here)

  module _ (a₀ a : List ℕ) (w : IsWholeChunk a₀ a 256) where
    got : (v : Option Value) (len : Option ℕ) (a' : List ℕ) → (register_from k (option_map (λ b. b.now) o)).value ≡ v → len ≡ option_map length v → a' ≡ sets a 0 (bytes_of v) → ValueGot t n k a₀ (Ok len) a'
    got v len a' ev el ea =
        let all : first_due (value_tests t n k a₀) ≡ None = rw (eq-eqb (length a₀) 256 w.long) due in
        let value : (register_on t n k).value ≡ v = rw (register_got t n k due, ← here) ev in
        record { answer = rw (all, value) (ap Ok (el ∙ answer_is v)); area = rw (all, value, ← w.same) ea }

    absent : o ≡ None → ValueGot t n k a₀ (Ok None) a
    absent e = got None None a (rw e) refl refl

    present : (b : Bor (List ℕ)) (len : Option ℕ) (a' : List ℕ) → o ≡ Some b → len ≡ option_map length (register_of b.now).value → a' ≡ sets a 0 (bytes_of (register_of b.now).value) → ValueGot t n k a₀ (Ok len) a'
    present b len a' eb el ea = got (register_of b.now).value len a' (rw eb) el ea

pub copy_value-requires : goal.copy_value-requires
copy_value-requires c = can_read _ _ _ _ c.in_ok-b.ensures.0 c.in_ok-b.ensures.1 _ c.in-Some-2.is

pub returns-in_default-2 : goal.returns-in_default-2
returns-in_default-2 c = absent _ _ _ _ c.in_ok-b.ensures.0 c.in_ok-b.ensures.1 _ _ c.in-Some.ensures.cases c.in_default-2.is

pub returns : goal.returns
returns c = present _ _ _ _ c.in_ok-b.ensures.0 c.in_ok-b.ensures.1 _ _ c.in-Some.ensures.cases _ _ _ c.in-Some-2.is c.copy_value.ensures.len c.copy_value.ensures.copied
