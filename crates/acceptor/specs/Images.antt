-- Bytes and values step together: the slots of the table after a message are those before it with the stored register set, the table stays sound, and no key gets a second block.
-- Assumes nothing.
use Rattle.std.specs.Prelude.{◌≡◌, Bool, false, not, cond, ◌&&◌, ◌||◌, List, [], ◌∷◌, ◌++◌, ℕ, zero, suc, ◌+◌, ◌*◌, ◌^◌, ◌≤◌, ◌<◌, eqb, ltb, length, get_or, take, set}
use Rattle.std.proofs.Math.Path.{refl, ap}
use Rattle.std.proofs.Common.{sym, ◌∙◌, arith, eq-eqb, ltb-true, ltb-false, le-ltb}
use Rattle.std.proofs.Math.Bool.{true}
use Rattle.std.proofs.lemmas.Bool.{false≢true}
use Rattle.std.specs.Prelude.{Option, None, Some}
use Rattle.std.proofs.Math.ListN.{drop}
use Rattle.leaf_fields.specs.Fields.{same, Bytes}
use Rattle.leaf_fields.specs.Laws.{and_true, same-true, bytes_take, bytes_drop, bytes_part}
use Rattle.messages.specs.declared.Address.{Address}
use Rattle.messages.specs.declared.Ballot.{Ballot}
use Rattle.messages.specs.declared.answer.Refusal.{Refusal}
use Rattle.messages.specs.Message.{Key, Value, Request, Failure, Verdict, Reply, Message}
use Rattle.messages.specs.Limits.{key_most, value_most, within_limits}
use Rattle.messages.specs.Refusals.{test, first_due}
use Rattle.messages.specs.Answers.{refused, bytes_of}
use Rattle.storage_block.specs.Block.{Slot, free, used, Register, fresh, Lawful, block_bytes, image}
use Rattle.leaf_fields.specs.Rows.{bytes_none, bytes_append}
use Rattle.storage_block.specs.Read.{lawful_register}
use Rattle.storage_block.specs.Written.{length-image, bytes_image, slot_image}
use Rattle.storage_search.specs.declared.Found.{Found}
use Rattle.storage_search.specs.Table.{is_sized, none_bad, is_bad, holds, is_free, count, first_from, found_by, block_at, with_block, slots, where_is, is_twice, register_by, Lent}
use Rattle.storage_search.specs.Blocks.{sized_of}
use Rattle.storage_search.specs.Laws.{slots_with, where_at, where_free, count-none}
use Rattle.acceptor_rules.specs.Rules.{proposal, acceptance, Job, job_of, Store, keep, put, Outcome, work_on, key_twice, foreign, no_block, perform, unless, receive}
use Rattle.acceptor_work.specs.Contract.{answer_bytes}
use Rattle.acceptor.specs.Contract.{outcome_on, stored}
use Rattle.acceptor.specs.Stores.{Takes, known, new, Stored, StoredOn, stored_by, stored_on}
use Rattle.acceptor.specs.Dependence.{register_for, none_not_some, stored_key, length_in, place_in_lem, known_register, stored_short, length_kept}

-- ---- messages as the code gives them: keys and values are bytes, and a ballot is a number of eight bytes

abbrev pub ProperBallot : Ballot → Type 0
ProperBallot b = b.0 < 256 ^ 8

abbrev pub ProperValue : Option Value → Type 0
ProperValue v = Bytes (bytes_of v)

abbrev pub ProperRequest : Request → Type 0
ProperRequest (Request.Get k) = Bytes k
ProperRequest (Request.Del k) = Bytes k
ProperRequest (Request.Set k v) = Bytes k × Bytes v
ProperRequest (Request.Cas k o n) = Bytes k × ProperValue o × ProperValue n

abbrev pub ProperFailure : Failure → Type 0
ProperFailure (Failure.ProposalRejected b) = ProperBallot b
ProperFailure (Failure.AcceptRejected b) = ProperBallot b
ProperFailure (Failure.CasFailed v) = ProperValue v
ProperFailure Failure.Timeout = Unit {0}

abbrev pub ProperResult : Verdict → Type 0
ProperResult Verdict.Granted = Unit {0}
ProperResult (Verdict.Denied e) = ProperFailure e

abbrev pub ProperReply : Reply → Type 0
ProperReply (Reply.Done v) = ProperValue v
ProperReply (Reply.Failed e) = ProperFailure e

abbrev pub Proper : Message → Type 0
Proper (Message.ClientRequest id r) = ProperRequest r
Proper (Message.ClientResponse id r) = ProperReply r
Proper (Message.SetAcceptAcceptors l) = Unit {0}
Proper (Message.SetProposeAcceptors l) = Unit {0}
Proper (Message.ProposeReq b k) = ProperBallot b × Bytes k
Proper (Message.ProposeRes b a v r) = ProperBallot b × ProperBallot a × ProperValue v × ProperResult r
Proper (Message.AcceptReq b k v) = ProperBallot b × Bytes k × ProperValue v
Proper (Message.AcceptRes b r) = ProperBallot b × ProperResult r

-- ---- what is stored is lawful

-- the key's register in a table of bytes
lawful_for : (t : List ℕ) (n : ℕ) → Lent t n → Bytes t → (k : Key) → length k ≤ key_most → Bytes k → Lawful (register_for k (slots t n))
unfolding block_at
lawful_for t n lent ht k short hk = go (where_is k (slots t n)) refl
  where
    lawful_fresh : Lawful (fresh k)
    lawful_fresh = record { key_short = short; key_bytes = hk; value_short = omega arith; value_bytes = bytes_none; seen_fits = omega arith; ordered = refl }

    go : (f : Found) → where_is k (slots t n) ≡ f → Lawful (register_by k (slots t n) f)
    go (Found.At i) e =
        let r = known_register t n lent k i e in
        let b = rw e at r.0 in
        rw b (lawful_register (block_at t i) (length_in t n lent i (place_in_lem t n lent k i (known e))) (bytes_part t (i * block_bytes) block_bytes ht) r.1)
    go (Found.Free i) e = lawful_fresh
    go Found.Full e = lawful_fresh
    go Found.Twice e = lawful_fresh

-- the key of a job is bytes
key_bytes : (m : Message) (j : Job) → job_of m ≡ Some j → Proper m → Bytes j.key
key_bytes (Message.ClientRequest id r) j e p = absurd (none_not_some j e)
key_bytes (Message.ClientResponse id r) j e p = absurd (none_not_some j e)
key_bytes (Message.SetAcceptAcceptors l) j e p = absurd (none_not_some j e)
key_bytes (Message.SetProposeAcceptors l) j e p = absurd (none_not_some j e)
key_bytes (Message.ProposeRes b a v r) j e p = absurd (none_not_some j e)
key_bytes (Message.AcceptRes b r) j e p = absurd (none_not_some j e)
key_bytes (Message.ProposeReq b k) j e p =
    let ej : j ≡ proposal b k = cc in
    rw ej p.1
key_bytes (Message.AcceptReq b k v) j e p =
    let ej : j ≡ acceptance b k v = cc in
    rw ej p.1

-- a work that stores makes a lawful register of a lawful one, but for the value's length
next_lawful : (m : Message) (j : Job) (o : Register) → job_of m ≡ Some j → Proper m → Lawful o → length (bytes_of (j.work o).next.value) ≤ value_most → (j.work o).stores ≡ true → Lawful (j.work o).next
next_lawful (Message.ClientRequest id r) j o e p ok h s = absurd (none_not_some j e)
next_lawful (Message.ClientResponse id r) j o e p ok h s = absurd (none_not_some j e)
next_lawful (Message.SetAcceptAcceptors l) j o e p ok h s = absurd (none_not_some j e)
next_lawful (Message.SetProposeAcceptors l) j o e p ok h s = absurd (none_not_some j e)
next_lawful (Message.ProposeRes b a v r) j o e p ok h s = absurd (none_not_some j e)
next_lawful (Message.AcceptRes b r) j o e p ok h s = absurd (none_not_some j e)
next_lawful (Message.ProposeReq b k) j o e p ok h s =
    let ej : j ≡ proposal b k = cc in
    let up : o.seen.0 < b.0 = ltb-true o.seen.0 b.0 (rw ej at s) in
    let below = ltb-false o.seen.0 o.accepted.0 ok.ordered in
    rw ej (record {
      key_short = ok.key_short;
      key_bytes = ok.key_bytes;
      value_short = ok.value_short;
      value_bytes = ok.value_bytes;
      seen_fits = p.0;
      ordered = le-ltb b.0 o.accepted.0 (omega arith);
    })
next_lawful (Message.AcceptReq b k v) j o e p ok h s =
    let ej : j ≡ acceptance b k v = cc in
    let short : length (bytes_of v) ≤ value_most = rw ej at h in
    rw ej (record {
      key_short = ok.key_short;
      key_bytes = ok.key_bytes;
      value_short = short;
      value_bytes = p.2;
      seen_fits = p.0;
      ordered = le-ltb b.0 b.0 (omega arith);
    })

pub stored_lawful : (t : List ℕ) (n : ℕ) (a : List ℕ) (from : Address) (m : Message) (i : ℕ) (r : Register) → Bytes t → Proper m → StoredOn t n a from m i r → Lawful r
unfolding work_on
stored_lawful t n a from m i r ht p s =
    let j = s.there.job in
    let short = stored_short t n a from m i r s in
    let key : length j.key ≤ key_most = rw (stored_key (slots t n) from m i r s.there) at short.key_short in
    let o = lawful_for t n s.lent ht j.key key (key_bytes m j s.there.is_job p) in
    rw s.there.next (next_lawful m j (register_for j.key (slots t n)) s.there.is_job p o (rw s.there.next at short.value_short) s.there.stores)

-- ---- the slots after a message

-- the slots with the stored register at its place
unfoldable pub stored_in : List Slot → Store → List Slot
stored_in l keep = l
stored_in l (put i r) = set l i (used r)

none_bad-set : (l : List Slot) (i : ℕ) (r : Register) → none_bad l ≡ true → none_bad (set l i (used r)) ≡ true
unfolding none_bad
none_bad-set [] i r h = refl
none_bad-set (s ∷ l) zero r h = (and_true (not (is_bad s)) (none_bad l) h).1
none_bad-set (s ∷ l) (suc i) r h =
    let p = and_true (not (is_bad s)) (none_bad l) h in
    rw p.0 (none_bad-set l i r p.1)

right_sizes : (t : List ℕ) (n : ℕ) (a : List ℕ) (from : Address) (m : Message) → is_sized t n ≡ true → length a ≡ answer_bytes → outcome_on t n a from m ≡ receive (slots t n) from m
unfolding outcome_on
right_sizes t n a from m h la = rw (h, eq-eqb (length a) answer_bytes la)

module _ (t : List ℕ) (n : ℕ) (a : List ℕ) (from : Address) (m : Message) (ht : Bytes t) (p : Proper m) where
  -- the table's slots are those before with the stored one set, whatever the outcome
  pub slots_after : slots (stored t (outcome_on t n a from m).store) n ≡ stored_in (slots t n) (outcome_on t n a from m).store
  unfolding stored_in
  slots_after = go (outcome_on t n a from m).store refl
    where
      go : (s : Store) → (outcome_on t n a from m).store ≡ s → slots (stored t s) n ≡ stored_in (slots t n) s
      go keep e = refl
      go (put i r) e =
          let s = stored_on t n a from m i r e in
          let ok = stored_lawful t n a from m i r ht p s in
          slots_with t n i (image r) (sized_of t n s.lent.sized).bytes (length-image r ok) (place_in_lem t n s.lent s.there.job.key i s.there.takes) ∙ ap (set (slots t n) i) (slot_image r ok)

  -- so where the sizes are right the table steps as the rules say of its slots
  pub slots-stored : is_sized t n ≡ true → length a ≡ answer_bytes → slots (stored t (outcome_on t n a from m).store) n ≡ stored_in (slots t n) (receive (slots t n) from m).store
  slots-stored h la = slots_after ∙ ap (λ (o : Outcome). stored_in (slots t n) o.store) (right_sizes t n a from m h la)

  -- bytes stay bytes
  pub stays_bytes : Bytes (stored t (outcome_on t n a from m).store)
  unfolding with_block
  stays_bytes = go (outcome_on t n a from m).store refl
    where
      go : (s : Store) → (outcome_on t n a from m).store ≡ s → Bytes (stored t s)
      go keep e = ht
      go (put i r) e =
          let ok = stored_lawful t n a from m i r ht p (stored_on t n a from m i r e) in
          let back = drop block_bytes (drop (i * block_bytes) t) in
          bytes_append (take (i * block_bytes) t) (image r ++ back) (bytes_take (i * block_bytes) t ht) (bytes_append (image r) back (bytes_image r ok) (bytes_drop block_bytes (drop (i * block_bytes) t) (bytes_drop (i * block_bytes) t ht)))

  -- a table that may be searched stays one: no message leads to refusal 2 for damage
  pub stays_lent : Lent t n → Lent (stored t (outcome_on t n a from m).store) n
  unfolding is_sized stored_in
  stays_lent lent = record { sized = rw (length_kept t n a from m) lent.sized; sound = rw slots_after (go (outcome_on t n a from m).store) }
    where
      go : (s : Store) → none_bad (stored_in (slots t n) s) ≡ true
      go keep = lent.sound
      go (put i r) = none_bad-set (slots t n) i r lent.sound

-- ---- every key keeps to one block

-- no two blocks hold one key
abbrev pub Once : List Slot → Type 0
Once l = (k : Key) → is_twice (where_is k l) ≡ false

twice_counted : (k : Key) (l : List Slot) → is_twice (where_is k l) ≡ ltb 1 (count (holds k) l)
unfolding where_is
twice_counted k l = go (ltb 1 (count (holds k) l)) (first_from (holds k) 0 l) (first_from is_free 0 l)
  where
    go : (c : Bool) (o f : Option ℕ) → is_twice (cond c Found.Twice (found_by o f)) ≡ c
    go true o f = refl
    go false None None = refl
    go false None (Some i) = refl
    go false (Some i) f = refl

-- a key that takes a free block is counted nowhere
new_uncounted : (k : Key) (l : List Slot) (i : ℕ) → where_is k l ≡ Found.Free i → count (holds k) l ≡ 0
unfolding where_is
new_uncounted k l i e = go (ltb 1 (count (holds k) l)) e
  where
    by : (o f : Option ℕ) → found_by o f ≡ Found.Free i → o ≡ None
    by None f e = refl
    by (Some j) f e = cc

    go : (c : Bool) → cond c Found.Twice (found_by (first_from (holds k) 0 l) (first_from is_free 0 l)) ≡ Found.Free i → count (holds k) l ≡ 0
    go true e =
        let z : ◌≡◌ {A = ℕ} 0 1 = cc in
        absurd (omega arith)
    go false e = count-none (holds k) 0 l (by (first_from (holds k) 0 l) (first_from is_free 0 l) e)

-- a slot that is set is counted for the one before it
count-set : (p : Slot → Bool) (l : List Slot) (i : ℕ) (x : Slot) → i < length l → count p (set l i x) + cond (p (get_or l i free)) 1 0 ≡ count p l + cond (p x) 1 0
unfolding count
count-set p [] i x h = absurd (omega arith)
count-set p (s ∷ l) zero x h = go (p x) (p s) (count p l)
  where
    go : (u v : Bool) (c : ℕ) → cond u (suc c) c + cond v 1 0 ≡ cond v (suc c) c + cond u 1 0
    go true true c = refl
    go true false c = omega arith
    go false true c = omega arith
    go false false c = refl
count-set p (s ∷ l) (suc i) x h = go (p s) (count-set p l i x (omega arith))
  where
    go : (u : Bool) → count p (set l i x) + cond (p (get_or l i free)) 1 0 ≡ count p l + cond (p x) 1 0 → cond u (suc (count p (set l i x))) (count p (set l i x)) + cond (p (get_or l i free)) 1 0 ≡ cond u (suc (count p l)) (count p l) + cond (p x) 1 0
    go true e = omega arith
    go false e = e

module _ (l : List Slot) (from : Address) (m : Message) (i : ℕ) (r : Register) (s : Stored l from m i r) where
  once_put : Once l → Once (set l i (used r))
  once_put h k = twice_counted k (set l i (used r)) ∙ go (same r.key k) refl s.takes
    where
      before : count (holds k) l ≤ 1
      before = ltb-false 1 (count (holds k) l) (sym (twice_counted k l) ∙ h k)

      inside : Takes s.job.key l i → i < length l
      inside (known e) = (where_at s.job.key l i e).0
      inside (new e) = (where_free s.job.key l i e).0

      counted : count (holds k) (set l i (used r)) + cond (holds k (get_or l i free)) 1 0 ≡ count (holds k) l + cond (same r.key k) 1 0
      counted = count-set (holds k) l i (used r) (inside s.takes)

      go : (c : Bool) → same r.key k ≡ c → Takes s.job.key l i → ltb 1 (count (holds k) (set l i (used r))) ≡ false
      go false ec f = le-ltb 1 (count (holds k) (set l i (used r))) (omega (arith, before, rw ec at counted))
      go true ec (known e) =
          let ek : s.job.key ≡ k = sym (stored_key l from m i r s) ∙ same-true r.key k ec in
          let held : holds k (get_or l i free) ≡ true = rw ek at (where_at s.job.key l i e).1 in
          le-ltb 1 (count (holds k) (set l i (used r))) (omega (arith, before, rw (ec, held) at counted))
      go true ec (new e) =
          let ek : s.job.key ≡ k = sym (stored_key l from m i r s) ∙ same-true r.key k ec in
          let none_held = new_uncounted k l i (rw ek at e) in
          le-ltb 1 (count (holds k) (set l i (used r))) (omega (arith, rw ec at counted))

-- by the rules
pub once_stored : (l : List Slot) (from : Address) (m : Message) → Once l → Once (stored_in l (receive l from m).store)
unfolding stored_in
once_stored l from m h = go (receive l from m).store refl
  where
    go : (s : Store) → (receive l from m).store ≡ s → Once (stored_in l s)
    go keep e = h
    go (put i r) e = once_put l from m i r (stored_by l from m i r e) h

-- and by the bytes
pub keys_once : (t : List ℕ) (n : ℕ) (a : List ℕ) (from : Address) (m : Message) → Bytes t → Proper m → Once (slots t n) → Once (slots (stored t (outcome_on t n a from m).store) n)
unfolding stored_in
keys_once t n a from m ht p h = rw (slots_after t n a from m ht p) (go (outcome_on t n a from m).store refl)
  where
    go : (s : Store) → (outcome_on t n a from m).store ≡ s → Once (stored_in (slots t n) s)
    go keep e = h
    go (put i r) e = once_put (slots t n) from m i r (stored_on t n a from m i r e).there h

-- ---- no refusal for damage

-- a sound table with one block for each key is not refused as damaged
pub never_damaged : (l : List Slot) (from : Address) (m : Message) → none_bad l ≡ true → Once l → (receive l from m).told ≡ refused Refusal.Damaged → ⊥
unfolding receive
never_damaged l from m sound h e = performed (job_of m) (passed (not (none_bad l) || key_twice l (job_of m)) (foreign (job_of m)) (not (within_limits from m)) (no_block l (job_of m)) (rw sound (once (job_of m))) e)
  where
    once : (o : Option Job) → key_twice l o ≡ false
    once None = refl
    once (Some j) = h j.key

    -- the other tests bring other refusals
    passed : (d f g x : Bool) → d ≡ false → (unless (first_due (test d Refusal.Damaged ∷ test f Refusal.WrongKind ∷ test g Refusal.OverLimit ∷ test x Refusal.NoRoom ∷ [])) (perform l from (job_of m))).told ≡ refused Refusal.Damaged → (perform l from (job_of m)).told ≡ refused Refusal.Damaged
    passed true f g x ed e = absurd (false≢true (sym ed))
    passed false true g x ed e = cc
    passed false false true x ed e = cc
    passed false false false true ed e = cc
    passed false false false false ed e = e

    performed : (o : Option Job) → (perform l from o).told ≡ refused Refusal.Damaged → ⊥
    performed None e =
        let z : ◌≡◌ {A = ℕ} 0 1 = cc in
        omega arith
    performed (Some j) e =
        let z : ◌≡◌ {A = ℕ} 0 1 = cc in
        omega arith

-- so no message leads to refusal 2 for the next one
pub undamaged_after : (t : List ℕ) (n : ℕ) (a b : List ℕ) (from from' : Address) (m m' : Message) → Bytes t → Proper m → Lent t n → Once (slots t n) → (outcome_on (stored t (outcome_on t n a from m).store) n b from' m').told ≡ refused Refusal.Damaged → ⊥
unfolding outcome_on
undamaged_after t n a b from from' m m' ht p lent h e = go (not (is_sized t' n && eqb (length b) answer_bytes)) e
  where
    t' : List ℕ
    t' = stored t (outcome_on t n a from m).store

    go : (d : Bool) → (unless (first_due (test d Refusal.AreaSize ∷ [])) (receive (slots t' n) from' m')).told ≡ refused Refusal.Damaged → ⊥
    go true e =
        let z : ◌≡◌ {A = ℕ} 0 1 = cc in
        omega arith
    go false e = never_damaged (slots t' n) from' m' (stays_lent t n a from m ht p lent).sound (keys_once t n a from m ht p h) e
