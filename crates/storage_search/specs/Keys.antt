-- The block of a key in a table that may be searched: where it is, that it may be read, and the register that it holds or, free, stands for.
-- Assumes nothing.
use Rattle.std.specs.Prelude.{◌≡◌, refl, Bool, true, false, cond, ◌||◌, List, ℕ, ◌+◌, ◌*◌, ◌≤◌, ◌<◌, length, get_or, map}
use Rattle.std.proofs.Common.{sym, ap, ◌∙◌, arith}
use Rattle.std.proofs.lemmas.Bool.{false≢true}
use Rattle.leaf_fields.specs.Fields.{all_zero}
use Rattle.messages.specs.Message.{Key}
use Rattle.storage_block.specs.declared.BlockState.{BlockState}
use Rattle.storage_block.specs.Block.{free, used, Register, fresh, readable, register_of, register_with, good, state_of, slot_by, slot_of}
use Rattle.storage_block.specs.Read.{free_register}
use Rattle.storage_search.specs.declared.Found.{Found}
use Rattle.storage_search.specs.Table.{is_bad, block_at, slots, where_is, register_in, Lent, LentAs}
use Rattle.storage_search.specs.Blocks.{sized_of, room_for, length_block}
use Rattle.storage_search.specs.Laws.{length-slots, slot_at, sound_at, where_at, where_free, held_at}

-- ---- blocks that are free or good

pub readable_of : (b : List ℕ) → is_bad (slot_of b) ≡ false → readable b ≡ true
unfolding readable slot_of state_of
readable_of b h = go (all_zero b) (good b) h
  where
    go : (z g : Bool) → is_bad (slot_by (cond z BlockState.Free (cond g BlockState.Good BlockState.Bad)) (register_of b)) ≡ false → (z || g) ≡ true
    go true g h' = refl
    go false true h' = refl
    go false false h' = absurd (false≢true (sym h'))

used_register : (b : List ℕ) (r : Register) → slot_of b ≡ used r → register_of b ≡ r
unfolding slot_of
used_register b r h = go (state_of b) h
  where
    go : (s : BlockState) → slot_by s (register_of b) ≡ used r → register_of b ≡ r
    go BlockState.Free e = cc
    go BlockState.Good e = cc
    go BlockState.Bad e = cc

free_zeros : (b : List ℕ) → slot_of b ≡ free → all_zero b ≡ true
unfolding slot_of state_of
free_zeros b h = go (all_zero b) (good b) h
  where
    go : (z g : Bool) → slot_by (cond z BlockState.Free (cond g BlockState.Good BlockState.Bad)) (register_of b) ≡ free → z ≡ true
    go true g e = refl
    go false true e = cc
    go false false e = cc

-- ---- the block of a key

-- where it is among a table's blocks
pub found_as : (t : List ℕ) (n : ℕ) (l : List (List ℕ)) → LentAs t n l → (k : Key) (f : Found) → f ≡ where_is k (map slot_of l) → where_is k (slots t n) ≡ f
found_as t n l h k f e = sym (e ∙ ap (where_is k) h.values)

module _ (t : List ℕ) (n : ℕ) (k : Key) (i : ℕ) (lent : Lent t n) where
  pub place_known : where_is k (slots t n) ≡ Found.At i → i < n
  place_known e = omega (arith, (where_at k (slots t n) i e).0, length-slots t n)

  pub place_free : where_is k (slots t n) ≡ Found.Free i → i < n
  place_free e = omega (arith, (where_free k (slots t n) i e).0, length-slots t n)

  pub room_in : i < n → i * 512 + 512 ≤ length t
  room_in h = room_for t n i (sized_of t n lent.sized).bytes h

  pub readable_in : i < n → readable (block_at t i) ≡ true
  readable_in h = readable_of (block_at t i) (sound_at t n i lent.sound h)

  pub register_known : where_is k (slots t n) ≡ Found.At i → register_in k (get_or (slots t n) i free) ≡ register_with k (block_at t i)
  register_known e =
      let w = where_at k (slots t n) i e in
      let held = held_at k (get_or (slots t n) i free) w.1 in
      let b = block_at t i in
      let at_i : slot_of b ≡ used held.register = sym (slot_at t n i (place_known e)) ∙ held.is_used in
      let r : register_of b ≡ held.register = used_register b held.register at_i in
      rw held.is_used (with_key held.register (register_of b) r held.has_key)
    where
      with_key : (h r : Register) → r ≡ h → h.key ≡ k → h ≡ record { key = k; seen = r.seen; accepted = r.accepted; value = r.value }
      with_key h r e ek = rw (e, ← ek)

  pub register_new : where_is k (slots t n) ≡ Found.Free i → register_with k (block_at t i) ≡ fresh k
  register_new e =
      let at_i : slot_of (block_at t i) ≡ free = sym (slot_at t n i (place_free e)) ∙ (where_free k (slots t n) i e).1 in
      free_register k (block_at t i) (length_block t i (room_in (place_free e))) (free_zeros (block_at t i) at_i)
