-- What an outcome that stores says: the message is for the acceptor, nothing refuses it, and the register is the work's next one, at the place of its key.
-- Assumes nothing.
use Rattle.std.specs.Prelude.{◌≡◌, Bool, true, false, not, cond, ◌&&◌, ◌||◌, List, [], ◌∷◌, ℕ, eqb, length}
use Rattle.std.proofs.Math.Path.{refl}
use Rattle.std.specs.Prelude.{Option, None, Some}
use Rattle.std.proofs.Common.{arith, eqb-true}
use Rattle.messages.specs.declared.Address.{Address}
use Rattle.messages.specs.declared.answer.Refusal.{Refusal}
use Rattle.messages.specs.Message.{Key, Message}
use Rattle.messages.specs.Limits.{within_limits}
use Rattle.messages.specs.Refusals.{test, first_due}
use Rattle.messages.specs.Answers.{one}
use Rattle.storage_block.specs.Block.{Slot, Register}
use Rattle.storage_search.specs.declared.Found.{Found}
use Rattle.storage_search.specs.Table.{is_sized, none_bad, where_is, is_twice, is_full, slots, Lent}
use Rattle.acceptor_rules.specs.Rules.{Job, job_of, keep, put, outcome, work_on, key_twice, foreign, no_block, put_at, perform, unless, receive}
use Rattle.acceptor_work.specs.Contract.{answer_bytes}
use Rattle.acceptor.specs.Contract.{outcome_on}

-- block i is the one that a key takes: it holds the key, or it is the lowest free one and no block holds the key
pub data Takes (k : Key) (l : List Slot) (i : ℕ) : Type 0 where
  known : where_is k l ≡ Found.At i → Takes k l i
  new : where_is k l ≡ Found.Free i → Takes k l i

-- what is known where a message stores register r at place i
pub record Stored (l : List Slot) (from : Address) (m : Message) (i : ℕ) (r : Register) : Type 0 where
  pub job : Job
  pub is_job : job_of m ≡ Some job
  pub sound : none_bad l ≡ true
  pub limits : within_limits from m ≡ true
  pub takes : Takes job.key l i
  pub stores : (work_on l job).stores ≡ true
  pub next : r ≡ (work_on l job).next

-- the same on a lent table
pub record StoredOn (t : List ℕ) (n : ℕ) (a : List ℕ) (from : Address) (m : Message) (i : ℕ) (r : Register) : Type 0 where
  pub lent : Lent t n
  pub area : length a ≡ answer_bytes
  pub there : Stored (slots t n) from m i r

keep_not_put : (i : ℕ) (r : Register) → keep ≡ put i r → ⊥
keep_not_put i r e = let z : ◌≡◌ {A = ℕ} 0 1 = cc in omega arith

module _ (l : List Slot) (from : Address) (m : Message) (i : ℕ) (r : Register) where
  -- by where the key is, and whether the work stores
  by_place : (j : Job) → job_of m ≡ Some j → none_bad l ≡ true → within_limits from m ≡ true → (f : Found) (s : Bool) → where_is j.key l ≡ f → (work_on l j).stores ≡ s → (unless (first_due (test (is_twice f) Refusal.Damaged ∷ test (is_full f && s) Refusal.NoRoom ∷ [])) (outcome (cond s (put_at f (work_on l j).next) keep) (one from (work_on l j).answer))).store ≡ put i r → Stored l from m i r
  by_place j jm ok lim (Found.At k) true ef es e =
      let here : k ≡ i = cc in
      record { job = j; is_job = jm; sound = ok; limits = lim; takes = known (rw here at ef); stores = es; next = cc }
  by_place j jm ok lim (Found.Free k) true ef es e =
      let here : k ≡ i = cc in
      record { job = j; is_job = jm; sound = ok; limits = lim; takes = new (rw here at ef); stores = es; next = cc }
  by_place j jm ok lim Found.Full true ef es e = absurd (keep_not_put i r e)
  by_place j jm ok lim Found.Twice s ef es e = absurd (keep_not_put i r e)
  by_place j jm ok lim (Found.At k) false ef es e = absurd (keep_not_put i r e)
  by_place j jm ok lim (Found.Free k) false ef es e = absurd (keep_not_put i r e)
  by_place j jm ok lim Found.Full false ef es e = absurd (keep_not_put i r e)

  -- by the tests that need no place
  by_tests : (b : Bool) (o : Option Job) (f : Bool) → none_bad l ≡ b → job_of m ≡ o → within_limits from m ≡ f → (unless (first_due (test (not b || key_twice l o) Refusal.Damaged ∷ test (foreign o) Refusal.WrongKind ∷ test (not f) Refusal.OverLimit ∷ test (no_block l o) Refusal.NoRoom ∷ [])) (perform l from o)).store ≡ put i r → Stored l from m i r
  by_tests false o f eb eo ef e = absurd (keep_not_put i r e)
  by_tests true None f eb eo ef e = absurd (keep_not_put i r e)
  by_tests true (Some j) false eb eo ef e = absurd (keep_not_put i r (over (is_twice (where_is j.key l)) e))
    where
      over : (d : Bool) → (unless (first_due (test d Refusal.Damaged ∷ test true Refusal.OverLimit ∷ [])) (perform l from (Some j))).store ≡ put i r → keep ≡ put i r
      over true h = h
      over false h = h
  by_tests true (Some j) true eb eo ef e = by_place j eo eb ef (where_is j.key l) (work_on l j).stores refl refl e

  pub stored_by : (receive l from m).store ≡ put i r → Stored l from m i r
  unfolding receive
  stored_by e = by_tests (none_bad l) (job_of m) (within_limits from m) refl refl refl e

-- a table whose size and answer area are right, as far as a store shows it
module _ (t : List ℕ) (n : ℕ) (a : List ℕ) (from : Address) (m : Message) (i : ℕ) (r : Register) where
  by_size : (s f : Bool) → is_sized t n ≡ s → eqb (length a) answer_bytes ≡ f → (unless (first_due (test (not (s && f)) Refusal.AreaSize ∷ [])) (receive (slots t n) from m)).store ≡ put i r → StoredOn t n a from m i r
  by_size false f es ef e = absurd (keep_not_put i r e)
  by_size true false es ef e = absurd (keep_not_put i r e)
  by_size true true es ef e =
      let there = stored_by (slots t n) from m i r e in
      record { lent = record { sized = es; sound = there.sound }; area = eqb-true (length a) answer_bytes ef; there = there }

  pub stored_on : (outcome_on t n a from m).store ≡ put i r → StoredOn t n a from m i r
  unfolding outcome_on
  stored_on e = by_size (is_sized t n) (eqb (length a) answer_bytes) refl refl e
