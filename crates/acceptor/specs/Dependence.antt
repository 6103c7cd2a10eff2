-- 01: "A message for one key alters no other key's block; its answer depends on other blocks only through refusals 2 and 11."
-- Assumes nothing.
use Rattle.std.specs.Prelude.{◌≡◌, Bool, not, cond, ◌&&◌, ◌||◌, List, [], ◌∷◌, ℕ, ◌+◌, ◌*◌, ◌≤◌, ◌<◌, eqb, length, get_or}
use Rattle.std.proofs.Math.Path.{refl}
use Rattle.std.proofs.Common.{sym, ap, ◌∙◌, arith, length-append}
use Rattle.std.proofs.Math.Bool.{true, false}
use Rattle.std.proofs.lemmas.Bool.{false≢true}
use Rattle.std.specs.Prelude.{Option, None, Some}
use Rattle.std.proofs.lemmas.List.{length-replicate}
use Rattle.leaf_fields.specs.Fields.{all_zero, padded}
use Rattle.leaf_fields.specs.Laws.{length-to_le, and_true}
use Rattle.messages.specs.declared.Address.{Address}
use Rattle.messages.specs.declared.answer.Refusal.{Refusal}
use Rattle.messages.specs.Message.{Key, Message}
use Rattle.messages.specs.Limits.{key_most, value_most, key_fits, register_fits, within_limits}
use Rattle.messages.specs.Fit.{short_key, register_key, register_value}
use Rattle.messages.specs.Refusals.{test, first_due}
use Rattle.messages.specs.Answers.{Told, nothing, one, each, timeouts, refused, bytes_of}
use Rattle.storage_block.specs.declared.BlockState.{BlockState}
use Rattle.storage_block.specs.Block.{Slot, free, used, Register, block_bytes, register_of, good, state_of, slot_by, slot_of, front, body, sealed, image}
use Rattle.storage_block.specs.Read.{value_fits_lem}
use Rattle.storage_search.specs.declared.Found.{Found}
use Rattle.storage_search.specs.Table.{none_bad, block_at, slots, where_is, is_twice, is_full, register_by, Lent}
use Rattle.storage_search.specs.Blocks.{length_block, length_with, block_other}
use Rattle.storage_search.specs.Laws.{slot_at, where_at, where_free, held_at}
use Rattle.storage_search.specs.Keys.{place_known, place_free, room_in, readable_in}
use Rattle.acceptor_rules.specs.Rules.{proposal, acceptance, Job, job_of, Store, keep, put, outcome, work_on, key_twice, foreign, no_block, put_at, perform, unless, receive}
use Rattle.acceptor.specs.Contract.{outcome_on, stored}
use Rattle.acceptor.specs.Stores.{Takes, known, new, Stored, StoredOn, stored_on}

-- ---- the answer

-- the register that a key has
abbrev pub register_for : Key → List Slot → Register
register_for k l = register_by k l (where_is k l)

-- refusals 2 and 11, which other blocks may bring
abbrev pub others_refuse : Told → Bool
others_refuse nothing = false
others_refuse (one to m) = false
others_refuse (each l m) = false
others_refuse (timeouts rs) = false
others_refuse (refused Refusal.AreaSize) = false
others_refuse (refused Refusal.Damaged) = true
others_refuse (refused Refusal.WrongKind) = false
others_refuse (refused Refusal.OverLimit) = false
others_refuse (refused Refusal.FirstPhase) = false
others_refuse (refused Refusal.Repeated) = false
others_refuse (refused Refusal.NotWaitedFor) = false
others_refuse (refused Refusal.ForeignError) = false
others_refuse (refused Refusal.PromisedAbove) = false
others_refuse (refused Refusal.CounterUsedUp) = false
others_refuse (refused Refusal.NoRoom) = true
others_refuse (refused Refusal.ClockBack) = false

-- the answer that a message and its key's register make
abbrev pub told_alone : Address → Bool → Option Job → (Key → Register) → Told
told_alone from fits None reg = refused Refusal.WrongKind
told_alone from fits (Some j) reg = cond fits (one from (j.work (reg j.key)).answer) (refused Refusal.OverLimit)

-- x is y, unless it is one of those refusals
abbrev Alone : Told → Told → Type 0
Alone x y = others_refuse x ≡ false → x ≡ y

module _ (l : List Slot) (from : Address) where
  alone_place : (j : Job) (f : Found) (s fits : Bool) → Alone (unless (first_due (test (is_twice f) Refusal.Damaged ∷ test (not fits) Refusal.OverLimit ∷ test (is_full f && s) Refusal.NoRoom ∷ [])) (outcome (cond s (put_at f (work_on l j).next) keep) (one from (work_on l j).answer))).told (cond fits (one from (work_on l j).answer) (refused Refusal.OverLimit))
  alone_place j Found.Twice s fits h = absurd (false≢true (sym h))
  alone_place j (Found.At i) s false h = refl
  alone_place j (Found.Free i) s false h = refl
  alone_place j Found.Full s false h = refl
  alone_place j (Found.At i) s true h = refl
  alone_place j (Found.Free i) s true h = refl
  alone_place j Found.Full true true h = absurd (false≢true (sym h))
  alone_place j Found.Full false true h = refl

  alone_tests : (b : Bool) (o : Option Job) (fits : Bool) → Alone (unless (first_due (test (not b || key_twice l o) Refusal.Damaged ∷ test (foreign o) Refusal.WrongKind ∷ test (not fits) Refusal.OverLimit ∷ test (no_block l o) Refusal.NoRoom ∷ [])) (perform l from o)).told (told_alone from fits o (λ k. register_for k l))
  unfolding work_on
  alone_tests false o fits h = absurd (false≢true (sym h))
  alone_tests true None fits h = refl
  alone_tests true (Some j) fits h = alone_place j (where_is j.key l) (work_on l j).stores fits h

  -- an answer that is none of those refusals is made of the message and its key's register
  pub told_alone_lem : (m : Message) → others_refuse (receive l from m).told ≡ false → (receive l from m).told ≡ told_alone from (within_limits from m) (job_of m) (λ k. register_for k l)
  unfolding receive
  told_alone_lem m h = alone_tests (none_bad l) (job_of m) (within_limits from m) h

-- two tables with the same register for the message's key answer it alike, but for refusals 2 and 11
pub answer_depends : (l l' : List Slot) (from : Address) (m : Message) → ((j : Job) → job_of m ≡ Some j → register_for j.key l ≡ register_for j.key l') → others_refuse (receive l from m).told ≡ false → others_refuse (receive l' from m).told ≡ false → (receive l from m).told ≡ (receive l' from m).told
answer_depends l l' from m e h h' = told_alone_lem l from m h ∙ go (job_of m) refl ∙ sym (told_alone_lem l' from m h')
  where
    go : (o : Option Job) → job_of m ≡ o → told_alone from (within_limits from m) o (λ k. register_for k l) ≡ told_alone from (within_limits from m) o (λ k. register_for k l')
    go None eo = refl
    go (Some j) eo = ap (λ (r : Register). cond (within_limits from m) (one from (j.work r).answer) (refused Refusal.OverLimit)) (e j eo)

-- ---- the other blocks

-- a register whose image is a block
pub record Short (r : Register) : Type 0 where
  pub key_short : length r.key ≤ key_most
  pub value_short : length (bytes_of r.value) ≤ value_most

length-padded : (n : ℕ) (l : List ℕ) → length l ≤ n → length (padded n l) ≡ n
unfolding padded
length-padded n l h = simp (length-append, length-replicate) (omega arith)

pub length_short : (r : Register) → Short r → length (image r) ≡ block_bytes
unfolding image sealed body front
length_short r ok =
    let k = length-padded 64 r.key ok.key_short in
    let v = length-padded 416 (bytes_of r.value) (omega arith) in
    simp (length-append, length-to_le, k, v)

-- the key's register has its key
pub key_for : (k : Key) (l : List Slot) → (register_for k l).key ≡ k
key_for k l = go (where_is k l) refl
  where
    go : (f : Found) → where_is k l ≡ f → (register_by k l f).key ≡ k
    go (Found.At i) e =
        let h = held_at k (get_or l i free) (where_at k l i e).1 in
        rw h.is_used h.has_key
    go (Found.Free i) e = refl
    go Found.Full e = refl
    go Found.Twice e = refl

pub none_not_some : (j : Job) → None ≡ Some j → ⊥
none_not_some j e = let z : ◌≡◌ {A = ℕ} 0 1 = cc in omega arith

-- a work keeps the key
next-key : (m : Message) (j : Job) (o : Register) → job_of m ≡ Some j → (j.work o).next.key ≡ o.key
next-key (Message.ClientRequest id r) j o e = absurd (none_not_some j e)
next-key (Message.ClientResponse id r) j o e = absurd (none_not_some j e)
next-key (Message.SetAcceptAcceptors l) j o e = absurd (none_not_some j e)
next-key (Message.SetProposeAcceptors l) j o e = absurd (none_not_some j e)
next-key (Message.ProposeRes b a v r) j o e = absurd (none_not_some j e)
next-key (Message.AcceptRes b r) j o e = absurd (none_not_some j e)
next-key (Message.ProposeReq b k) j o e =
    let ej : j ≡ proposal b k = cc in
    rw ej
next-key (Message.AcceptReq b k v) j o e =
    let ej : j ≡ acceptance b k v = cc in
    rw ej

-- so what is stored has the message's key
pub stored_key : (l : List Slot) (from : Address) (m : Message) (i : ℕ) (r : Register) (s : Stored l from m i r) → r.key ≡ s.job.key
unfolding work_on
stored_key l from m i r s =
    rw s.next (next-key m s.job (register_for s.job.key l) s.is_job ∙ key_for s.job.key l)

-- a block in use is good, and its register is the one it holds
used_block : (b : List ℕ) (r : Register) → slot_of b ≡ used r → (register_of b ≡ r) × (good b ≡ true)
unfolding slot_of state_of
used_block b r h = go (all_zero b) (good b) h
  where
    go : (z g : Bool) → slot_by (cond z BlockState.Free (cond g BlockState.Good BlockState.Bad)) (register_of b) ≡ used r → (register_of b ≡ r) × (g ≡ true)
    go true g e = (cc, cc)
    go false true e = (cc, refl)
    go false false e = (cc, cc)

module _ (t : List ℕ) (n : ℕ) (lent : Lent t n) where
  pub length_in : (i : ℕ) → i < n → length (block_at t i) ≡ block_bytes
  length_in i h = length_block t i (room_in t n [] i lent h)

  pub place_in_lem : (k : Key) (i : ℕ) → Takes k (slots t n) i → i < n
  place_in_lem k i (known e) = place_known t n k i lent e
  place_in_lem k i (new e) = place_free t n k i lent e

  -- the register of a key that has a block is read out of that block
  pub known_register : (k : Key) (i : ℕ) → where_is k (slots t n) ≡ Found.At i → (register_for k (slots t n) ≡ register_of (block_at t i)) × (good (block_at t i) ≡ true)
  known_register k i e =
      let h = held_at k (get_or (slots t n) i free) (where_at k (slots t n) i e).1 in
      let u = used_block (block_at t i) h.register (sym (slot_at t n i (place_known t n k i lent e)) ∙ h.is_used) in
      (rw (e, h.is_used) (sym u.0), u.1)

  pub value_for : (k : Key) → length (bytes_of (register_for k (slots t n)).value) ≤ value_most
  value_for k = go (where_is k (slots t n)) refl
    where
      go : (f : Found) → where_is k (slots t n) ≡ f → length (bytes_of (register_by k (slots t n) f).value) ≤ value_most
      go (Found.At i) e =
          let h = place_known t n k i lent e in
          let b = (known_register k i e).0 in
          rw (rw e at b) (value_fits_lem (block_at t i) (length_in i h) (readable_in t n k i lent h))
      go (Found.Free i) e = omega arith
      go Found.Full e = omega arith
      go Found.Twice e = omega arith

-- what a message within the limits makes of a register is as short
next_short : (m : Message) (from : Address) (j : Job) (o : Register) → job_of m ≡ Some j → within_limits from m ≡ true → o.key ≡ j.key → length (bytes_of o.value) ≤ value_most → Short (j.work o).next
unfolding within_limits
next_short (Message.ClientRequest id r) from j o e lim ek h = absurd (none_not_some j e)
next_short (Message.ClientResponse id r) from j o e lim ek h = absurd (none_not_some j e)
next_short (Message.SetAcceptAcceptors l) from j o e lim ek h = absurd (none_not_some j e)
next_short (Message.SetProposeAcceptors l) from j o e lim ek h = absurd (none_not_some j e)
next_short (Message.ProposeRes b a v r) from j o e lim ek h = absurd (none_not_some j e)
next_short (Message.AcceptRes b r) from j o e lim ek h = absurd (none_not_some j e)
next_short (Message.ProposeReq b k) from j o e lim ek h =
    let ej : j ≡ proposal b k = cc in
    let fits = (and_true (not (eqb from.0 0)) (key_fits k) lim).1 in
    let same_key : o.key ≡ k = rw ej at ek in
    rw ej (record { key_short = rw same_key (short_key k fits); value_short = h })
next_short (Message.AcceptReq b k v) from j o e lim ek h =
    let ej : j ≡ acceptance b k v = cc in
    let fits = (and_true (not (eqb from.0 0)) (register_fits k v) lim).1 in
    let same_key : o.key ≡ k = rw ej at ek in
    rw ej (record { key_short = rw same_key (register_key k v fits); value_short = register_value k v fits })

-- so what is stored is one block long
pub stored_short : (t : List ℕ) (n : ℕ) (a : List ℕ) (from : Address) (m : Message) (i : ℕ) (r : Register) → StoredOn t n a from m i r → Short r
unfolding work_on
stored_short t n a from m i r s =
    let j = s.there.job in
    rw s.there.next (next_short m from j (register_for j.key (slots t n)) s.there.is_job s.there.limits (key_for j.key (slots t n)) (value_for t n s.lent j.key))

module _ (t : List ℕ) (n : ℕ) (a : List ℕ) (from : Address) (m : Message) where
  -- a store alters its own block alone
  module _ (i : ℕ) (r : Register) (e : (outcome_on t n a from m).store ≡ put i r) where
    room_stored : i * block_bytes + block_bytes ≤ length t
    room_stored =
        let s = stored_on t n a from m i r e in
        let k = s.there.job.key in
        room_in t n k i s.lent (place_in_lem t n s.lent k i s.there.takes)

    long_stored : length (image r) ≡ block_bytes
    long_stored = length_short r (stored_short t n a from m i r (stored_on t n a from m i r e))

    pub bytes_outside_kept : (p : ℕ) → (p ≡ i → ⊥) → block_at (stored t (outcome_on t n a from m).store) p ≡ block_at t p
    bytes_outside_kept p ne = rw e (block_other t i (image r) long_stored room_stored p ne)

    length_put : length (stored t (outcome_on t n a from m).store) ≡ length t
    length_put = rw e (length_with t i (image r) long_stored room_stored)

  -- the table keeps its length
  pub length_kept : length (stored t (outcome_on t n a from m).store) ≡ length t
  length_kept = go (outcome_on t n a from m).store refl
    where
      go : (s : Store) → (outcome_on t n a from m).store ≡ s → length (stored t (outcome_on t n a from m).store) ≡ length t
      go keep e = rw e
      go (put i r) e = length_put i r e

  -- a block with another key stays as it was, byte for byte
  pub others_kept : (p : ℕ) (r : Register) → p < n → slot_of (block_at t p) ≡ used r → ((j : Job) → job_of m ≡ Some j → j.key ≡ r.key → ⊥) → block_at (stored t (outcome_on t n a from m).store) p ≡ block_at t p
  others_kept p r h here other = go (outcome_on t n a from m).store refl
    where
      -- the key's block is not that one
      apart : (i : ℕ) (x : Register) → Stored (slots t n) from m i x → p ≡ i → ⊥
      apart i x s same_place = by s.takes
        where
          at_i : get_or (slots t n) i free ≡ used r
          at_i = rw same_place at (slot_at t n p h ∙ here)

          by : Takes s.job.key (slots t n) i → ⊥
          by (known e) =
              let w = held_at s.job.key (get_or (slots t n) i free) (where_at s.job.key (slots t n) i e).1 in
              other s.job s.is_job (cc at_i)
          by (new e) =
              let w : get_or (slots t n) i free ≡ free = (where_free s.job.key (slots t n) i e).1 in
              let z : ◌≡◌ {A = ℕ} 0 1 = cc at_i in
              omega arith

      go : (s : Store) → (outcome_on t n a from m).store ≡ s → block_at (stored t (outcome_on t n a from m).store) p ≡ block_at t p
      go keep e = rw e
      go (put i x) e = bytes_outside_kept i x e p (apart i x (stored_on t n a from m i x e).there)
