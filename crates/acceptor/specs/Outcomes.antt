-- The outcome of a message that is for the acceptor, by where its key is, and that what the code does is that outcome.
-- Assumes nothing.
use Rattle.std.specs.Prelude.{◌≡◌, Bool, not, List, [], ◌∷◌, ℕ, ◌+◌, ◌*◌, ◌≤◌, ◌<◌, eqb, length, get_or, take}
use Rattle.std.proofs.Math.Path.{refl, ap}
use Rattle.std.proofs.Common.{sym, ◌∙◌, arith, ◌⊎◌, inl, inr}
use Rattle.std.proofs.Math.Bool.{true, false, cond}
use Rattle.std.specs.Prelude.{Option, None, Some}
use Rattle.std.proofs.lemmas.List.Edits.{sets}
use borrow.Author.Tests.{eq-eqb, ne_eqb, le-ltb}
use Rattle.leaf_fields.specs.Laws.{and_true}
use Rattle.messages.specs.declared.Address.{Address}
use Rattle.messages.specs.declared.Ballot.{Ballot}
use Rattle.messages.specs.declared.answer.Answer.{Answer}
use Rattle.messages.specs.declared.answer.Refusal.{Refusal}
use Rattle.messages.specs.Ballots.{above, not_below}
use Rattle.messages.specs.Message.{Key, Value, Failure, Verdict, Message, given, result_of}
use Rattle.messages.specs.Limits.{key_most, value_most, message_fits, within_limits}
use Rattle.messages.specs.Fit.{short_key, register_key, register_value}
use Rattle.messages.specs.Refusals.{test, first_due}
use Rattle.messages.specs.Answers.{one, refused, said, answer_of, written_in, marked, bytes_of, result_rpc}
use Rattle.storage_block.specs.Block.{free, Register, fresh, readable, register_of, register_with, image}
use Rattle.storage_block.specs.Stores.{value_back}
use Rattle.storage_block.specs.Read.{value_fits_lem}
use Rattle.storage_search.specs.declared.Found.{Found}
use Rattle.storage_search.specs.Table.{is_sized, none_bad, block_at, with_block, slots, where_is, is_twice, register_in, register_by, Lent, table_tests}
use Rattle.storage_search.specs.Blocks.{length_block}
use Rattle.storage_search.specs.Keys.{place_known, place_free, room_in, readable_in, register_known, register_new}
use Rattle.acceptor_rules.specs.Rules.{Work, proposed, accepted, Job, proposal, acceptance, job_of, keep, put, Outcome, outcome, work_on, unless, receive}
use Rattle.acceptor_work.specs.Contract.{full_answer}
use Rattle.acceptor.specs.Contract.{outcome_on, stored, Received, Placed}

-- ---- the outcome, by where the key is

module _ (t : List ℕ) (n : ℕ) (a : List ℕ) (from : Address) (m : Message) (j : Job) (jm : job_of m ≡ Some j) (lent : Lent t n) (la : length a ≡ 256) where
  on_table : outcome_on t n a from m ≡ receive (slots t n) from m
  unfolding outcome_on
  on_table = rw (lent.sized, eq-eqb (length a) 256 la)

  twice_outcome : where_is j.key (slots t n) ≡ Found.Twice → outcome_on t n a from m ≡ outcome keep (refused Refusal.Damaged)
  unfolding receive
  twice_outcome e = on_table ∙ rw (lent.sound, jm, e)

  over_outcome : (f : Found) → where_is j.key (slots t n) ≡ f → is_twice f ≡ false → within_limits from m ≡ false → outcome_on t n a from m ≡ outcome keep (refused Refusal.OverLimit)
  unfolding receive
  over_outcome f e one_block lim = on_table ∙ rw (lent.sound, jm, e, one_block, lim)

  -- the work on the register that the key has where it is
  work_is : (f : Found) (w : Work) → where_is j.key (slots t n) ≡ f → j.work (register_by j.key (slots t n) f) ≡ w → work_on (slots t n) j ≡ w
  unfolding work_on
  work_is f w e ew = ap (λ (g : Found). j.work (register_by j.key (slots t n) g)) e ∙ ew

  full_outcome : (w : Work) → where_is j.key (slots t n) ≡ Found.Full → j.work (fresh j.key) ≡ w → within_limits from m ≡ true → outcome_on t n a from m ≡ cond w.stores (outcome keep (refused Refusal.NoRoom)) (outcome keep (one from w.answer))
  unfolding receive
  full_outcome w e ew lim = on_table ∙ rw (lent.sound, jm, e, lim, work_is Found.Full w e ew) (by w.stores)
    where
      by : (s : Bool) → unless (first_due (test s Refusal.NoRoom ∷ [])) (outcome (cond s keep keep) (one from w.answer)) ≡ cond s (outcome keep (refused Refusal.NoRoom)) (outcome keep (one from w.answer))
      by true = refl
      by false = refl

  known_outcome : (i : ℕ) (w : Work) → where_is j.key (slots t n) ≡ Found.At i → j.work (register_in j.key (get_or (slots t n) i free)) ≡ w → within_limits from m ≡ true → outcome_on t n a from m ≡ outcome (cond w.stores (put i w.next) keep) (one from w.answer)
  unfolding receive
  known_outcome i w e ew lim = on_table ∙ rw (lent.sound, jm, e, lim, work_is (Found.At i) w e ew)

  new_outcome : (i : ℕ) (w : Work) → where_is j.key (slots t n) ≡ Found.Free i → j.work (fresh j.key) ≡ w → within_limits from m ≡ true → outcome_on t n a from m ≡ outcome (cond w.stores (put i w.next) keep) (one from w.answer)
  unfolding receive
  new_outcome i w e ew lim = on_table ∙ rw (lent.sound, jm, e, lim, work_is (Found.Free i) w e ew)

-- ---- the block that has the key or takes it

abbrev pub Takes : List ℕ → ℕ → Key → ℕ → Type 0
Takes t n k i = (where_is k (slots t n) ≡ Found.At i) ⊎ (where_is k (slots t n) ≡ Found.Free i)

pub takes_in : (t : List ℕ) (n : ℕ) (k : Key) (i : ℕ) → Lent t n → Takes t n k i → i < n
takes_in t n k i lent (inl e) = place_known t n k i lent e
takes_in t n k i lent (inr e) = place_free t n k i lent e

pub takes_room : (t : List ℕ) (n : ℕ) (k : Key) (i : ℕ) → Lent t n → Takes t n k i → i * 512 + 512 ≤ length t
takes_room t n k i lent e = room_in t n k i lent (takes_in t n k i lent e)

pub takes_readable : (t : List ℕ) (n : ℕ) (k : Key) (i : ℕ) → Lent t n → Takes t n k i → readable (block_at t i) ≡ true
takes_readable t n k i lent e = readable_in t n k i lent (takes_in t n k i lent e)

-- a message within the limits
within : (from : Address) (m : Message) → within_limits from m ≡ true → message_fits m ≡ true
unfolding within_limits
within from m lim = (and_true (not (eqb from.0 0)) (message_fits m) lim).1

-- ---- what the code does is that outcome

-- an outcome that is known is received
pub received : (t : List ℕ) (n : ℕ) (a : List ℕ) (from : Address) (m : Message) (o : Outcome) (r : Answer) (t' a' : List ℕ) → outcome_on t n a from m ≡ o → r ≡ answer_of o.told → said r a' ≡ o.told → t' ≡ stored t o.store → a' ≡ written_in a o.told → Received t n a from m r t' a'
received t n a from m o r t' a' e er em et ea = record { answer = rw e er; meaning = rw e em; table = rw e et; area = rw e ea }

-- a refusal sends nothing and leaves every byte
pub refused_by_lem : (t : List ℕ) (n : ℕ) (a : List ℕ) (from : Address) (m : Message) (x : Refusal) → outcome_on t n a from m ≡ outcome keep (refused x) → Received t n a from m (Answer.Refused x) t a
refused_by_lem t n a from m x e = received t n a from m (outcome keep (refused x)) (Answer.Refused x) t a e refl refl refl refl

-- a work on block i, which the outcome names
placed_by : (t : List ℕ) (n : ℕ) (a : List ℕ) (from : Address) (m : Message) (w : Work) (i : ℕ) (r : Answer) (t' a' : List ℕ) → outcome_on t n a from m ≡ outcome (cond w.stores (put i w.next) keep) (one from w.answer) → said (answer_of (one from w.answer)) (written_in a (one from w.answer)) ≡ one from w.answer → Placed w from t i r t' → a' ≡ written_in a (one from w.answer) → Received t n a from m r t' a'
placed_by t n a from m w i r t' a' done back p ea =
    received t n a from m (outcome (cond w.stores (put i w.next) keep) (one from w.answer)) r t' a' done p.answer (rw (p.answer, ea) back) (p.table ∙ by w.stores) ea
  where
    by : (s : Bool) → cond s (with_block t i (image w.next)) t ≡ stored t (cond s (put i w.next) keep)
    by true = refl
    by false = refl

module _ (t : List ℕ) (n : ℕ) (a : List ℕ) (from : Address) (m : Message) (j : Job) (jm : job_of m ≡ Some j) (lent : Lent t n) (la : length a ≡ 256) where
  pub twice_received : where_is j.key (slots t n) ≡ Found.Twice → Received t n a from m (Answer.Refused Refusal.Damaged) t a
  twice_received e = refused_by_lem t n a from m Refusal.Damaged (twice_outcome t n a from m j jm lent la e)

  pub over_received : (f : Found) → where_is j.key (slots t n) ≡ f → is_twice f ≡ false → within_limits from m ≡ false → Received t n a from m (Answer.Refused Refusal.OverLimit) t a
  over_received f e one_block lim = refused_by_lem t n a from m Refusal.OverLimit (over_outcome t n a from m j jm lent la f e one_block lim)

  module _ (lim : within_limits from m ≡ true) where
    -- the work on the block as it is read
    pub block_received : (i : ℕ) (w : Work) (r : Answer) (t' a' : List ℕ) → Takes t n j.key i → w ≡ j.work (register_with j.key (block_at t i)) → said (answer_of (one from w.answer)) (written_in a (one from w.answer)) ≡ one from w.answer → Placed w from t i r t' → a' ≡ written_in a (one from w.answer) → Received t n a from m r t' a'
    block_received i w r t' a' (inl e) ew back p ea =
        placed_by t n a from m w i r t' a' (known_outcome t n a from m j jm lent la i w e (ap j.work (register_known t n j.key i lent e) ∙ sym ew) lim) back p ea
    block_received i w r t' a' (inr e) ew back p ea =
        placed_by t n a from m w i r t' a' (new_outcome t n a from m j jm lent la i w e (ap j.work (sym (register_new t n j.key i lent e)) ∙ sym ew) lim) back p ea

    pub full_received : (w : Work) (r : Answer) → where_is j.key (slots t n) ≡ Found.Full → j.work (fresh j.key) ≡ w → said (answer_of (one from w.answer)) a ≡ one from w.answer → a ≡ written_in a (one from w.answer) → r ≡ full_answer w true from → Received t n a from m r t a
    full_received w r e ew back ea er = go w.stores refl er (full_outcome t n a from m j jm lent la w e ew lim)
      where
        go : (s : Bool) → w.stores ≡ s → r ≡ cond w.stores (Answer.Refused Refusal.NoRoom) (answer_of (one from w.answer)) → outcome_on t n a from m ≡ cond w.stores (outcome keep (refused Refusal.NoRoom)) (outcome keep (one from w.answer)) → Received t n a from m r t a
        go true es er' o = rw (rw es at er') (refused_by_lem t n a from m Refusal.NoRoom (rw es at o))
        go false es er' o = received t n a from m (outcome keep (one from w.answer)) r t a (rw es at o) (rw es at er') (rw (rw es at er') back) refl ea

-- ---- the two messages

-- the answer to a proposal says again what was put into the area
propose_back : (b : Ballot) (r : Register) (from : Address) (a : List ℕ) → length (bytes_of r.value) ≤ length a → said (answer_of (one from (proposed b r).answer)) (written_in a (one from (proposed b r).answer)) ≡ one from (proposed b r).answer
propose_back b r from a h = go (above b r.seen)
  where
    v : List ℕ
    v = take (length (bytes_of r.value)) (sets a 0 (bytes_of r.value))

    go : (p : Bool) → one from (Message.ProposeRes b r.accepted (given (marked r.value) v) (result_of (result_rpc (cond p Verdict.Granted (Verdict.Denied (Failure.ProposalRejected r.seen)))) v)) ≡ one from (Message.ProposeRes b r.accepted r.value (cond p Verdict.Granted (Verdict.Denied (Failure.ProposalRejected r.seen))))
    go true = ap (λ (o : Option Value). one from (Message.ProposeRes b r.accepted o Verdict.Granted)) (value_back r.value a h)
    go false = ap (λ (o : Option Value). one from (Message.ProposeRes b r.accepted o (Verdict.Denied (Failure.ProposalRejected r.seen)))) (value_back r.value a h)

accept_back : (b : Ballot) (o : Option Value) (r : Register) (from : Address) (a : List ℕ) → said (answer_of (one from (accepted b o r).answer)) (written_in a (one from (accepted b o r).answer)) ≡ one from (accepted b o r).answer
accept_back b o r from a = go (not_below b r.seen)
  where
    go : (p : Bool) → one from (Message.AcceptRes b (result_of (result_rpc (cond p Verdict.Granted (Verdict.Denied (Failure.AcceptRejected r.seen)))) [])) ≡ one from (Message.AcceptRes b (cond p Verdict.Granted (Verdict.Denied (Failure.AcceptRejected r.seen))))
    go true = refl
    go false = refl

-- ---- as the code has it

module _ (t : List ℕ) (n : ℕ) (a key : List ℕ) (from : Address) (lent : Lent t n) (la : length a ≡ 256) where
  module _ (ballot : Ballot) (lim : within_limits from (Message.ProposeReq ballot key) ≡ true) where
    pub propose_block : (i : ℕ) (r : Answer) (t' a' : List ℕ) → Takes t n key i → Placed (proposed ballot (register_with key (block_at t i))) from t i r t' → a' ≡ sets a 0 (bytes_of (register_of (block_at t i)).value) → Received t n a from (Message.ProposeReq ballot key) r t' a'
    propose_block i r t' a' at_i p ea =
        let b = block_at t i in
        let more = takes_in t n key i lent at_i in
        let fits = value_fits_lem b (length_block t i (room_in t n key i lent more)) (readable_in t n key i lent more) in
        block_received t n a from (Message.ProposeReq ballot key) (proposal ballot key) refl lent la lim i (proposed ballot (register_with key b)) r t' a' at_i refl (propose_back ballot (register_with key b) from a (omega arith)) p ea

    pub propose_full : (r : Answer) → where_is key (slots t n) ≡ Found.Full → r ≡ full_answer (proposed ballot (fresh [])) true from → Received t n a from (Message.ProposeReq ballot key) r t a
    propose_full r e er =
        full_received t n a from (Message.ProposeReq ballot key) (proposal ballot key) refl lent la lim (proposed ballot (fresh key)) r e refl (propose_back ballot (fresh key) from a (omega arith)) refl er

    pub propose_key : length key ≤ key_most
    propose_key = short_key key (within from (Message.ProposeReq ballot key) lim)

  module _ (ballot : Ballot) (o : Option Value) (lim : within_limits from (Message.AcceptReq ballot key o) ≡ true) where
    pub accept_block : (i : ℕ) (r : Answer) (t' : List ℕ) → Takes t n key i → Placed (accepted ballot o (register_with key (block_at t i))) from t i r t' → Received t n a from (Message.AcceptReq ballot key o) r t' a
    accept_block i r t' at_i p =
        block_received t n a from (Message.AcceptReq ballot key o) (acceptance ballot key o) refl lent la lim i (accepted ballot o (register_with key (block_at t i))) r t' a at_i refl (accept_back ballot o (register_with key (block_at t i)) from a) p refl

    pub accept_full : where_is key (slots t n) ≡ Found.Full → Received t n a from (Message.AcceptReq ballot key o) (Answer.Refused Refusal.NoRoom) t a
    accept_full e =
        full_received t n a from (Message.AcceptReq ballot key o) (acceptance ballot key o) refl lent la lim (accepted ballot o (fresh key)) (Answer.Refused Refusal.NoRoom) e refl (accept_back ballot o (fresh key) from a) refl (rw (le-ltb ballot.0 0 (omega arith)))

    pub accept_key : length key ≤ key_most
    accept_key = register_key key o (within from (Message.AcceptReq ballot key o) lim)

    pub accept_value : length (bytes_of o) ≤ value_most
    accept_value = register_value key o (within from (Message.AcceptReq ballot key o) lim)

-- ---- the refusals that need no search

pub size_refused : (t : List ℕ) (n : ℕ) (a : List ℕ) (from : Address) (m : Message) → is_sized t n ≡ false → Received t n a from m (Answer.Refused Refusal.AreaSize) t a
unfolding outcome_on
size_refused t n a from m h = refused_by_lem t n a from m Refusal.AreaSize (rw h)

pub area_refused : (t : List ℕ) (n : ℕ) (a : List ℕ) (from : Address) (m : Message) → (length a ≡ 256 → ⊥) → Received t n a from m (Answer.Refused Refusal.AreaSize) t a
unfolding outcome_on
area_refused t n a from m ne = by (is_sized t n) refl
  where
    by : (s : Bool) → is_sized t n ≡ s → Received t n a from m (Answer.Refused Refusal.AreaSize) t a
    by true h = refused_by_lem t n a from m Refusal.AreaSize (rw (h, ne_eqb (length a) 256 ne))
    by false h = size_refused t n a from m h

pub damage_refused : (t : List ℕ) (n : ℕ) (a : List ℕ) (from : Address) (m : Message) → is_sized t n ≡ true → length a ≡ 256 → none_bad (slots t n) ≡ false → Received t n a from m (Answer.Refused Refusal.Damaged) t a
unfolding outcome_on receive
damage_refused t n a from m h la d = refused_by_lem t n a from m Refusal.Damaged (rw (h, eq-eqb (length a) 256 la, d))

-- what the two tests of a table refuse
pub table_refused : (t : List ℕ) (n : ℕ) (a : List ℕ) (from : Address) (m : Message) (x : Refusal) → length a ≡ 256 → first_due (table_tests t n) ≡ Some x → Received t n a from m (Answer.Refused x) t a
table_refused t n a from m x la = by (is_sized t n) (none_bad (slots t n)) refl refl
  where
    by : (s d : Bool) → is_sized t n ≡ s → none_bad (slots t n) ≡ d → first_due (test (not s) Refusal.AreaSize ∷ test (not d) Refusal.Damaged ∷ []) ≡ Some x → Received t n a from m (Answer.Refused x) t a
    by false d hs hd e =
        let same : Refusal.AreaSize ≡ x = cc in
        rw same at (size_refused t n a from m hs)
    by true false hs hd e =
        let same : Refusal.Damaged ≡ x = cc in
        rw same at (damage_refused t n a from m hs la hd)
    by true true hs hd e = cc

pub kind_refused : (t : List ℕ) (n : ℕ) (a : List ℕ) (from : Address) (m : Message) → is_sized t n ≡ true → length a ≡ 256 → none_bad (slots t n) ≡ true → job_of m ≡ None → Received t n a from m (Answer.Refused Refusal.WrongKind) t a
unfolding outcome_on receive
kind_refused t n a from m h la s f = refused_by_lem t n a from m Refusal.WrongKind (rw (h, eq-eqb (length a) 256 la, s, f))
