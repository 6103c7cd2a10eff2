-- `acceptor::receive` meets its contract: each return is a case of the outcome, in rank order.
-- Assumes nothing.
use Rattle.std.proofs.Common.{◌≡◌, refl, sym, ◌∙◌, true, false, List, [], ℕ, ◌+◌, ◌*◌, ◌≤◌, Option, Some, None, ◌⊎◌, inl, inr, length}
use Rattle.std.specs.Array.{IsWholeChunk}
use Rattle.std.proofs.lemmas.List.Edits.{sets}
use Rattle.messages.specs.Answers.{bytes_of}
use Rattle.storage_block.specs.Block.{readable, register_of, register_with, fresh}
use Rattle.acceptor_work.specs.Contract.{full_answer}
use Rattle.messages.specs.declared.Address.{Address}
use Rattle.messages.specs.declared.Ballot.{Ballot}
use Rattle.messages.specs.declared.Lent as Marks
use Rattle.messages.specs.declared.Rpc.{Rpc}
use Rattle.messages.specs.declared.answer.Answer.{Answer}
use Rattle.messages.specs.declared.answer.Refusal.{Refusal}
use Rattle.messages.specs.Message.{Key, given, message_of}
use Rattle.messages.specs.Limits.{within_limits}
use Rattle.messages.specs.Refusals.{first_due}
use Rattle.storage_search.specs.declared.Found.{Found}
use Rattle.storage_search.specs.Table.{block_at, slots, where_is, is_twice, Lent, table_tests}
use Rattle.storage_search.specs.Keys.{found_as}
use Rattle.acceptor_rules.specs.Rules.{proposed, accepted, proposal, acceptance, job_of}
use Rattle.acceptor.specs.Contract.{Placed, Received}
use Rattle.acceptor.specs.Outcomes.{Takes, takes_room, takes_readable, twice_received, over_received, propose_block, propose_full, propose_key, accept_block, accept_full, accept_key, accept_value, area_refused, table_refused, kind_refused}
use Rattle.acceptor.proofs.receive.Goals as goal
use Rattle.acceptor.specs.declared.Job.{Job}
use Rattle.acceptor.proofs.receive.Goals.{in-ProposeReq, in-AcceptReq, in-Full, in-At, in-At-2, After-locate, After-fits}

-- ---- the kinds that are for the acceptor

abbrev IsJob : Rpc → Job → Type 0
IsJob rpc j = ((b : Ballot) × (rpc ≡ Rpc.ProposeReq b) × (j ≡ Job.Proposal b)) ⊎ ((b : Ballot) × (o : Option Marks.Lent) × (rpc ≡ Rpc.AcceptReq b o) × (j ≡ Job.Acceptance b o))

proposal_of : (rpc : Rpc) (j : Job) (b : Ballot) → IsJob rpc j → j ≡ Job.Proposal b → rpc ≡ Rpc.ProposeReq b
proposal_of rpc j b (inl (x, e, f)) h =
    let same : x ≡ b = cc in
    rw same at e
proposal_of rpc j b (inr (x, o, e, f)) h = cc

acceptance_of : (rpc : Rpc) (j : Job) (b : Ballot) (o : Option Marks.Lent) → IsJob rpc j → j ≡ Job.Acceptance b o → rpc ≡ Rpc.AcceptReq b o
acceptance_of rpc j b o (inl (x, e, f)) h = cc
acceptance_of rpc j b o (inr (x, y, e, f)) h =
    let ballot : x ≡ b = cc in
    let value : y ≡ o = cc in
    rw (ballot, value) at e

foreign_of : (rpc : Rpc) (k v w l : List ℕ) → ((b : Ballot) → rpc ≡ Rpc.ProposeReq b → ⊥) → ((b : Ballot) (o : Option Marks.Lent) → rpc ≡ Rpc.AcceptReq b o → ⊥) → job_of (message_of rpc k v w l) ≡ None
foreign_of (Rpc.ProposeReq b) k v w l p q = absurd (p b refl)
foreign_of (Rpc.AcceptReq b o) k v w l p q = absurd (q b o refl)
foreign_of (Rpc.ClientRequest i r) k v w l p q = refl
foreign_of (Rpc.ClientResponse i r) k v w l p q = refl
foreign_of Rpc.SetAcceptAcceptors k v w l p q = refl
foreign_of Rpc.SetProposeAcceptors k v w l p q = refl
foreign_of (Rpc.ProposeRes b a o r) k v w l p q = refl
foreign_of (Rpc.AcceptRes b r) k v w l p q = refl

job_at : (c : goal.After-locate) → IsJob c.args.message.rpc c.match-message.job
job_at c =
    elim c.match-message.branch [
      | in-ProposeReq w ↦ inl (w.in-ProposeReq.ballot, w.in-ProposeReq.is, w.job-is)
      | in-AcceptReq w ↦ inr (w.in-AcceptReq.ballot, w.in-AcceptReq.o, w.in-AcceptReq.is, w.job-is)
    ]

-- ---- the block that has the key or takes it

abbrev Placing : List ℕ → ℕ → Key → Option ℕ → Type 0
Placing t n k o = ((o ≡ None) × (where_is k (slots t n) ≡ Found.Full)) ⊎ ((i : ℕ) × (o ≡ Some i) × Takes t n k i)

takes_of : (t : List ℕ) (n : ℕ) (k : Key) (i : ℕ) (f : Found) → where_is k (slots t n) ≡ f → (f ≡ Found.At i) ⊎ (f ≡ Found.Free i) → Takes t n k i
takes_of t n k i f ef (inl e) = inl (ef ∙ e)
takes_of t n k i f ef (inr e) = inr (ef ∙ e)

placing : (c : goal.After-fits) → Placing c.args.table.now c.args.registers c.args.message.key.now c.match-locate.block
placing c =
    let found = found_as _ _ _ c.in-Ok.ensures _ _ c.locate.ensures in
    elim c.match-locate.branch [
      | in-Full w ↦ inl (w.block-is, found ∙ w.in-Full.is)
      | in-At w ↦ inr (w.in-At.i, w.block-is, takes_of _ _ _ _ _ found w.in-At.is)
      | in-At-2 w ↦ inr (w.in-At.i, w.block-is, takes_of _ _ _ _ _ found w.in-At.is)
    ]

-- ---- what the tests have shown

-- the area as an array is the area
module _ (t : List ℕ) (n : ℕ) (a₀ a : List ℕ) (area : IsWholeChunk a₀ a 256) (from : Address) (rpc : Rpc) (k v w l : List ℕ) where
  table : (x : Refusal) → first_due (table_tests t n) ≡ Some x → Received t n a₀ from (message_of rpc k v w l) (Answer.Refused x) t a
  table x e = rw area.same (table_refused t n a₀ from (message_of rpc k v w l) x area.long e)

  module _ (lent : Lent t n) where
    foreign : job_of (message_of rpc k v w l) ≡ None → Received t n a₀ from (message_of rpc k v w l) (Answer.Refused Refusal.WrongKind) t a
    foreign f = rw area.same (kind_refused t n a₀ from (message_of rpc k v w l) lent.sized area.long lent.sound f)

    twice : (j : Job) → IsJob rpc j → where_is k (slots t n) ≡ Found.Twice → Received t n a₀ from (message_of rpc k v w l) (Answer.Refused Refusal.Damaged) t a
    twice j (inl (b, e, f)) h = rw (area.same, e) (twice_received t n a₀ from (message_of (Rpc.ProposeReq b) k v w l) (proposal b k) refl lent area.long h)
    twice j (inr (b, o, e, f)) h = rw (area.same, e) (twice_received t n a₀ from (message_of (Rpc.AcceptReq b o) k v w l) (acceptance b k (given o v)) refl lent area.long h)

    over : (job : Job) → IsJob rpc job → (o : Option ℕ) → Placing t n k o → false ≡ within_limits from (message_of rpc k v w l) → Received t n a₀ from (message_of rpc k v w l) (Answer.Refused Refusal.OverLimit) t a
    over job j o p lim = rw area.same (by j p)
      where
        at_found : IsJob rpc job → (f : Found) → where_is k (slots t n) ≡ f → is_twice f ≡ false → Received t n a₀ from (message_of rpc k v w l) (Answer.Refused Refusal.OverLimit) t a₀
        at_found (inl (b, e, q)) f h g = rw e (over_received t n a₀ from (message_of (Rpc.ProposeReq b) k v w l) (proposal b k) refl lent area.long f h g (rw e at (sym lim)))
        at_found (inr (b, x, e, q)) f h g = rw e (over_received t n a₀ from (message_of (Rpc.AcceptReq b x) k v w l) (acceptance b k (given x v)) refl lent area.long f h g (rw e at (sym lim)))

        by : IsJob rpc job → Placing t n k o → Received t n a₀ from (message_of rpc k v w l) (Answer.Refused Refusal.OverLimit) t a₀
        by j' (inl (e, h)) = at_found j' Found.Full h refl
        by j' (inr (i, e, inl h)) = at_found j' (Found.At i) h refl
        by j' (inr (i, e, inr h)) = at_found j' (Found.Free i) h refl

taken : (t : List ℕ) (n : ℕ) (k : Key) (o : Option ℕ) (i : ℕ) → Placing t n k o → o ≡ Some i → Takes t n k i
taken t n k o i (inl p) e = cc
taken t n k o i (inr (j, ej, h)) e =
    let same : j ≡ i = cc in
    rw same at h

none_free : (t : List ℕ) (n : ℕ) (k : Key) (o : Option ℕ) → Placing t n k o → o ≡ None → where_is k (slots t n) ≡ Found.Full
none_free t n k o (inl p) e = p.1
none_free t n k o (inr p) e = cc

-- a message that no test refuses
record Passed (t : List ℕ) (n : ℕ) (a₀ a : List ℕ) (from : Address) (rpc : Rpc) (k v w l : List ℕ) (o : Option ℕ) : Type 0 where
  area : IsWholeChunk a₀ a 256
  lent : Lent t n
  place : Placing t n k o
  limits : true ≡ within_limits from (message_of rpc k v w l)

passed : (c : goal.After-fits) → true ≡ within_limits c.args.from (message_of c.args.message.rpc c.args.message.key.now c.args.message.value.now c.args.message.other.now c.args.message.list.now) → Passed c.args.table.now c.args.registers c.args.area.now c.in-Some.area.now c.args.from c.args.message.rpc c.args.message.key.now c.args.message.value.now c.args.message.other.now c.args.message.list.now c.match-locate.block
passed c limits = record { area = c.in-Some.ensures.cases; lent = c.in-Ok.ensures.lent; place = placing c; limits = limits }

module _ {t : List ℕ} {n : ℕ} {a₀ a : List ℕ} {from : Address} {rpc : Rpc} {k v w l : List ℕ} {o : Option ℕ} (h : Passed t n a₀ a from rpc k v w l o) where
  module _ (b : Ballot) (e : rpc ≡ Rpc.ProposeReq b) where
    proposal_asks : (i : ℕ) → o ≡ Some i → (i * 512 + 512 ≤ length t) × (readable (block_at t i) ≡ true) × (length k ≤ 64)
    proposal_asks i ei =
        let at_i = taken t n k o i h.place ei in
        (takes_room t n k i h.lent at_i, takes_readable t n k i h.lent at_i, propose_key t n a₀ k from h.lent h.area.long b (rw e at (sym h.limits)))

    proposal_placed : (i : ℕ) (r : Answer) (t' a' : List ℕ) → o ≡ Some i → Placed (proposed b (register_with k (block_at t i))) from t i r t' → a' ≡ sets a 0 (bytes_of (register_of (block_at t i)).value) → Received t n a₀ from (message_of rpc k v w l) r t' a'
    proposal_placed i r t' a' ei p ea =
        rw e (propose_block t n a₀ k from h.lent h.area.long b (rw e at (sym h.limits)) i r t' a' (taken t n k o i h.place ei) p (rw h.area.same at ea))

    proposal_full : (r : Answer) → o ≡ None → r ≡ full_answer (proposed b (fresh [])) true from → Received t n a₀ from (message_of rpc k v w l) r t a
    proposal_full r eo er = rw (h.area.same, e) (propose_full t n a₀ k from h.lent h.area.long b (rw e at (sym h.limits)) r (none_free t n k o h.place eo) er)

  module _ (b : Ballot) (x : Option Marks.Lent) (e : rpc ≡ Rpc.AcceptReq b x) where
    acceptance_asks : (i : ℕ) → o ≡ Some i → (i * 512 + 512 ≤ length t) × (length k ≤ 64) × (length (bytes_of (given x v)) ≤ 256)
    acceptance_asks i ei =
        let limits = rw e at (sym h.limits) in
        (takes_room t n k i h.lent (taken t n k o i h.place ei), accept_key t n a₀ k from h.lent h.area.long b (given x v) limits, accept_value t n a₀ k from h.lent h.area.long b (given x v) limits)

    acceptance_placed : (i : ℕ) (r : Answer) (t' : List ℕ) → o ≡ Some i → Placed (accepted b (given x v) (register_with k (block_at t i))) from t i r t' → Received t n a₀ from (message_of rpc k v w l) r t' a
    acceptance_placed i r t' ei p =
        rw (h.area.same, e) (accept_block t n a₀ k from h.lent h.area.long b (given x v) (rw e at (sym h.limits)) i r t' (taken t n k o i h.place ei) p)

    acceptance_full : o ≡ None → Received t n a₀ from (message_of rpc k v w l) (Answer.Refused Refusal.NoRoom) t a
    acceptance_full eo = rw (h.area.same, e) (accept_full t n a₀ k from h.lent h.area.long b (given x v) (rw e at (sym h.limits)) (none_free t n k o h.place eo))

pub returns-in_default : goal.returns-in_default
returns-in_default c = area_refused _ _ _ _ _ c.in_default.ensures.cases

pub returns-in-Err : goal.returns-in-Err
returns-in-Err c = table _ _ _ _ c.in-Some.ensures.cases _ _ _ _ _ _ _ c.in-Err.ensures

pub returns-in_default-rpc : goal.returns-in_default-rpc
returns-in_default-rpc c =
    foreign _ _ _ _ c.in-Some.ensures.cases _ _ _ _ _ _ c.in-Ok.ensures.lent
    (foreign_of _ _ _ _ _ (λ b e. c.in_default-rpc.not-ProposeReq b e) (λ b o e. c.in_default-rpc.not-AcceptReq b o e))

pub returns-in-Twice : goal.returns-in-Twice
returns-in-Twice c =
    twice _ _ _ _ c.in-Some.ensures.cases _ _ _ _ _ _ c.in-Ok.ensures.lent _ (job_at (goal.at.returns-in-Twice c).After-locate) (found_as _ _ _ c.in-Ok.ensures _ _ c.in-Twice.ensures)

pub returns-then-not-fits : goal.returns-then-not-fits
returns-then-not-fits c =
    over _ _ _ _ c.in-Some.ensures.cases _ _ _ _ _ _ c.in-Ok.ensures.lent _ (job_at (goal.at.returns-then-not-fits c).After-locate) _ (placing (goal.at.returns-then-not-fits c).After-fits) c.if-not-fits.ensures

pub returns-in-Proposal-Some : goal.returns-in-Proposal-Some
returns-in-Proposal-Some c =
    proposal_placed (passed (goal.at.returns-in-Proposal-Some c).After-fits c.if-not-fits.ensures) _ (proposal_of _ _ _ (job_at (goal.at.returns-in-Proposal-Some c).After-locate) c.in-Proposal-Some.is-0) _ _ _ _ c.in-Proposal-Some.is-1 c.propose_at.ensures.0 c.propose_at.ensures.1

pub returns-in-Proposal-None : goal.returns-in-Proposal-None
returns-in-Proposal-None c =
    proposal_full (passed (goal.at.returns-in-Proposal-None c).After-fits c.if-not-fits.ensures) _ (proposal_of _ _ _ (job_at (goal.at.returns-in-Proposal-None c).After-locate) c.in-Proposal-None.is-0) _ c.in-Proposal-None.is-1 c.propose_full.ensures

pub returns-in-Acceptance-Some : goal.returns-in-Acceptance-Some
returns-in-Acceptance-Some c =
    acceptance_placed (passed (goal.at.returns-in-Acceptance-Some c).After-fits c.if-not-fits.ensures) _ _ (acceptance_of _ _ _ _ (job_at (goal.at.returns-in-Acceptance-Some c).After-locate) c.in-Acceptance-Some.is-0) _ _ _ c.in-Acceptance-Some.is-1 c.accept_at.ensures

pub returns-in-Acceptance-None : goal.returns-in-Acceptance-None
returns-in-Acceptance-None c =
    acceptance_full (passed (goal.at.returns-in-Acceptance-None c).After-fits c.if-not-fits.ensures) _ _ (acceptance_of _ _ _ _ (job_at (goal.at.returns-in-Acceptance-None c).After-locate) c.in-Acceptance-None.is-0) c.in-Acceptance-None.is-1

pub propose_at-requires : goal.propose_at-requires
propose_at-requires c =
    proposal_asks (passed (goal.at.propose_at-requires c).After-fits c.if-not-fits.ensures) _ (proposal_of _ _ _ (job_at (goal.at.propose_at-requires c).After-locate) c.in-Proposal-Some.is-0) _ c.in-Proposal-Some.is-1

pub accept_at-requires : goal.accept_at-requires
accept_at-requires c =
    acceptance_asks (passed (goal.at.accept_at-requires c).After-fits c.if-not-fits.ensures) _ _ (acceptance_of _ _ _ _ (job_at (goal.at.accept_at-requires c).After-locate) c.in-Acceptance-Some.is-0) _ c.in-Acceptance-Some.is-1
