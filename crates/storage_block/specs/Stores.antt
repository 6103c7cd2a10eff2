-- A value that is stored and found again.
-- Assumes nothing.
use Rattle.std.specs.Prelude.{◌≡◌, refl, true, List, ℕ, ◌≤◌, length, take}
use Rattle.std.proofs.Common.{ap, ◌∙◌, arith}
use Rattle.std.specs.Prelude.{Option, None, Some, option_map, unwrap_or}
use denote.Ref.{Bor}
use Rattle.std.specs.Option.{option_and}
use Rattle.std.proofs.lemmas.List.Edits.{sets}
use Rattle.leaf_fields.specs.Laws.{part_same}
use Rattle.messages.specs.Message.{Value, given, lent}
use Rattle.messages.specs.declared.Lent.{Lent}
use Rattle.messages.specs.Limits.{value_most}
use Rattle.messages.specs.Answers.{marked, bytes_of}
use Rattle.storage_block.specs.Block.{block_bytes, readable, register_of}
use Rattle.storage_block.specs.Read.{value_fits_lem}

-- a value that was copied to the front of an area is found there again
pub value_back : (o : Option Value) (a : List ℕ) → length (bytes_of o) ≤ length a → given (marked o) (take (length (bytes_of o)) (sets a 0 (bytes_of o))) ≡ o
value_back None a h = refl
value_back (Some v) a h = ap Some (part_same a 0 v (omega arith))

-- what the length that a copy answers with says
module _ (o : Option Value) (len : Option ℕ) (el : len ≡ option_map length o) where
  pub copied_length : unwrap_or len 0 ≡ length (bytes_of o)
  copied_length = rw el (by o)
    where
      by : (v : Option Value) → unwrap_or (option_map length v) 0 ≡ length (bytes_of v)
      by None = refl
      by (Some v) = refl

  pub copied_mark : option_and len (Some lent) ≡ marked o
  copied_mark = rw el (by o)
    where
      by : (v : Option Value) → option_and (option_map length v) (Some lent) ≡ marked v
      by None = refl
      by (Some v) = refl

  -- the copy, as a value where there is one, is the value
  pub copied_back : (n : ℕ) (a a' : List ℕ) (r : Option (Bor (List ℕ))) (v : Bor (List ℕ)) → v.now ≡ take n a' → r ≡ option_and len (Some v) → n ≡ unwrap_or len 0 → a' ≡ sets a 0 (bytes_of o) → length (bytes_of o) ≤ length a → option_map (λ x. x.now) r ≡ o
  copied_back n a a' r v ev er en ea h = rw er (by len ∙ rw (ev, copied_mark, en, copied_length, ea) (value_back o a h))
    where
      by : (l : Option ℕ) → option_map (λ x. x.now) (option_and l (Some v)) ≡ given (option_and l (Some lent)) v.now
      by None = refl
      by (Some m) = refl

-- of a block that may be read it is within the limits
pub copied_room : (b : List ℕ) (len : Option ℕ) (n : ℕ) → length b ≡ block_bytes → readable b ≡ true → len ≡ option_map length (register_of b).value → n ≡ unwrap_or len 0 → n ≤ value_most
copied_room b len n lb h el en = rw (en, copied_length (register_of b).value len el) (value_fits_lem b lb h)
