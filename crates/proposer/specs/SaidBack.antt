-- What every message and tick is answered is said again by the enum and the answer area that the call leaves.
-- Assumes nothing.
use Rattle.std.specs.Prelude.{◌≡◌, refl, Bool, true, false, not, cond, List, [], ◌∷◌, ℕ, zero, suc, ◌+◌, ◌*◌, ◌^◌, ◌≤◌, ◌<◌, length, drop, get_or}
use Rattle.std.proofs.Common.{ap, arith, lit<}
use Rattle.std.specs.Prelude.{Option, None, Some}
use Rattle.std.proofs.lemmas.Bool.{not-false}
use Rattle.std.proofs.lemmas.List.Edits.{sets}
use Rattle.leaf_fields.specs.Fields.{Bytes}
use Rattle.leaf_fields.specs.Laws.{and_true}
use Rattle.messages.specs.declared.Address.{Address}
use Rattle.messages.specs.declared.Ballot.{Ballot}
use Rattle.messages.specs.declared.answer.Answer.{Answer}
use Rattle.messages.specs.declared.answer.Refusal.{Refusal}
use Rattle.messages.specs.Ballots.{above}
use Rattle.messages.specs.Message.{Value, Request, Failure, Verdict, Reply, Message}
use Rattle.messages.specs.Limits.{key_most, value_most, option_fits, request_fits, result_fits, within_limits}
use Rattle.messages.specs.Refusals.{test, first_due}
use Rattle.messages.specs.Answers.{Row, nothing, timeouts, rows_at, row_bytes, said, bytes_of, reply_value, answer_of, rows_bytes, written_in}
use Rattle.messages.specs.Fit.{short_value}
use Rattle.proposer_rules.specs.State.{Phase, Propose, Accept, Pending, Proposer, key_of, with_no, with_yes}
use Rattle.proposer_rules.specs.Rules.{Outcome, outcome, unless, moved, to_each, to_client, proposals, applied, reply_of, next_ballot, reached, raised, asked, with_lists, promised_by, to_accept, pending_at, replace_at, take_place, message_tests, promise_tests, acceptance_tests, request_tests, rejected, granted, promise_work, in_first, on_promise, turned_down, taken, first_phase, acceptance_work, on_acceptance, foreign, work, receive, clock_back, late, in_time, insert, late_ones, rows_of, all_timeouts, tick}
use Rattle.proposer_place.specs.Area.{first_value, second_value, read_area, is_image}
use Rattle.proposer_clock.specs.LateLaws.{length_late}
use Rattle.proposer_place.specs.AreaLaws.{Short, Lawful, LawfulPlaces}
use Rattle.proposer_place.specs.AreaRead.{short_request}
use Rattle.proposer_place.specs.PlaceLaws.{lawful_yes}
use Rattle.proposer.specs.Contract.{area_tests, outcome_on, tick_on, Done}
use Rattle.proposer_works.specs.Works.{answer_bytes}
use Rattle.proposer_works.specs.NewValue.{applied_short}
use Rattle.proposer_promise.specs.GrantLaws.{promised_lawful}
use Rattle.proposer.specs.Said.{RowFits, drop_stored, said-one, said_proposals, said_accepts, RowsFit, rows_there}
use Rattle.proposer_clock.specs.TickLaws.{length_rows, length-rows_of}
use Rattle.proposer.specs.Stays.{TypedMessage, Lendable, Fit, none_due, sender_may, pending_holds, room, within, lendable_read}

-- the enum and the area say the answer
pub record Speaks (w : List ℕ) (o : Outcome) : Type 0 where
  pub speaks : said (answer_of o.told) (written_in w o.told) ≡ o.told

nothing_speaks : (w : List ℕ) (s : Proposer) → Speaks w (outcome s nothing)
nothing_speaks w s = record { speaks = refl }

unless_speaks : (w : List ℕ) (t : Option Refusal) (s : Proposer) (o : Outcome) → (t ≡ None → Speaks w o) → Speaks w (unless t s o)
unless_speaks w None s o h = h refl
unless_speaks w (Some r) s o h = record { speaks = refl }

cond_speaks : (w : List ℕ) (t : Bool) (o o' : Outcome) → Speaks w o → Speaks w o' → Speaks w (cond t o o')
cond_speaks w true o o' h h' = h
cond_speaks w false o o' h h' = h'

reply_short : (r : Request) (v : Option Value) → length (bytes_of (first_value r)) ≤ value_most → length (bytes_of (second_value r)) ≤ value_most → length (bytes_of v) ≤ value_most → length (reply_value (reply_of r v)) ≤ value_most
reply_short r v h1 h2 h3 = go (applied r v).failed
  where
    go : (t : Bool) → length (reply_value (cond t (Reply.Failed (Failure.CasFailed v)) (Reply.Done (applied r v).value))) ≤ value_most
    go true = h3
    go false = applied_short r v h1 h2 h3

module _ (w : List ℕ) (n : ℕ) (size : length w ≡ answer_bytes n) (s : Proposer) (ok : Lendable s n) where
  roomy : rows_at ≤ length w
  roomy = omega (arith, size)

  client_speaks : (s' : Proposer) (p : Pending) (r : Reply) → length (reply_value r) ≤ value_most → Speaks w (outcome s' (to_client p r))
  client_speaks s' p r short = record { speaks = said-one w p.client p.id r (omega (arith, short, roomy)) }

  proposals_speak : (s' : Proposer) (c : ℕ) (r : Request) → length (key_of r) ≤ key_most → Speaks w (outcome s' (proposals s c r))
  proposals_speak s' c r short = record { speaks = said_proposals w (next_ballot c) (key_of r) s.propose_acceptors short ok.lawful.propose roomy }

  module _ (p : Pending) (lawful : Lawful p) where
    granted_speaks : Speaks w (granted s p)
    granted_speaks =
        cond_speaks w (reached p.acks_from p.waiting_for)
        (outcome (moved s s.counter (replace_at p.ballot (Some (to_accept s p)) s.places)) (to_each s.accept_acceptors (Message.AcceptReq p.ballot (key_of p.req) (applied p.req p.value).value)))
        (outcome (moved s s.counter (replace_at p.ballot (Some p) s.places)) nothing)
        (record { speaks = said_accepts w p.ballot (key_of p.req) (applied p.req p.value).value s.accept_acceptors (applied_short p.req p.value lawful.first.short lawful.second.short lawful.promised.short) lawful.key.short ok.lawful.accept roomy })
        (nothing_speaks w (moved s s.counter (replace_at p.ballot (Some p) s.places)))

    rejected_speaks : (from : Address) (last : Ballot) → Speaks w (rejected s p from last)
    rejected_speaks from last =
        let c = raised s.counter last in
        let failure : Reply = Reply.Failed (Failure.ProposalRejected last) in
        let gone : Proposer = moved s c (replace_at p.ballot None s.places) in
        let retry : Proposer = moved s (c + 1) (replace_at p.ballot (Some (asked s c p.client p.id p.req p.received_at true)) s.places) in
        let noted : Proposer = moved s c (replace_at p.ballot (Some (with_no p from)) s.places) in
        cond_speaks w (reached (with_no p from).nacks_from p.waiting_for)
        (cond p.retried (outcome gone (to_client p failure)) (outcome retry (proposals s c p.req))) (outcome noted nothing)
        (cond_speaks w p.retried (outcome gone (to_client p failure)) (outcome retry (proposals s c p.req)) (client_speaks gone p failure (omega arith)) (proposals_speak retry c p.req lawful.key.short))
        (nothing_speaks w noted)

    taken_speaks : Speaks w (taken s p)
    taken_speaks =
        let gone : Proposer = moved s s.counter (replace_at p.ballot None s.places) in
        let noted : Proposer = moved s s.counter (replace_at p.ballot (Some p) s.places) in
        cond_speaks w (reached p.acks_from p.waiting_for) (outcome gone (to_client p (reply_of p.req p.value))) (outcome noted nothing)
        (client_speaks gone p (reply_of p.req p.value) (reply_short p.req p.value lawful.first.short lawful.second.short lawful.promised.short))
        (nothing_speaks w noted)

    turned_speaks : (from : Address) (last : Ballot) → Speaks w (turned_down s p from last)
    turned_speaks from last =
        let c = raised s.counter last in
        let failure : Reply = Reply.Failed (Failure.AcceptRejected last) in
        let gone : Proposer = moved s c (replace_at p.ballot None s.places) in
        let noted : Proposer = moved s c (replace_at p.ballot (Some (with_no p from)) s.places) in
        cond_speaks w (reached (with_no p from).nacks_from p.waiting_for) (outcome gone (to_client p failure)) (outcome noted nothing) (client_speaks gone p failure (omega arith)) (nothing_speaks w noted)

  -- ---- answers

  module _ (from : Address) (from-fits : from.0 < 2 ^ 16) where
    promise_work_speaks : (p : Pending) (lawful : Lawful p) (fit : Fit s.counter p) (b : Ballot) (v : Option Value) (res : Verdict) → b.0 < 2 ^ 64 → Short value_most (bytes_of v) → first_due (promise_tests s p from res) ≡ None → Speaks w (promise_work s p from b v res)
    promise_work_speaks p lawful fit b v Verdict.Granted high short due =
        let may = (sender_may s n ok from from-fits p _ due).0 in
        granted_speaks (promised_by p from b v) (promised_lawful p from b v lawful from-fits (room s.counter s.counter p from (omega arith) fit may).0 high short)
    promise_work_speaks p lawful fit b v (Verdict.Denied (Failure.ProposalRejected last)) high short due = rejected_speaks p lawful from last
    promise_work_speaks p lawful fit b v (Verdict.Denied (Failure.AcceptRejected last)) high short due = nothing_speaks w s
    promise_work_speaks p lawful fit b v (Verdict.Denied (Failure.CasFailed u)) high short due = nothing_speaks w s
    promise_work_speaks p lawful fit b v (Verdict.Denied Failure.Timeout) high short due = nothing_speaks w s

    promise_speaks : (ballot : Ballot) (o : Option Pending) → pending_at ballot s.places ≡ o → (b : Ballot) (v : Option Value) (res : Verdict) → b.0 < 2 ^ 64 → Short value_most (bytes_of v) → Speaks w (on_promise s o from b v res)
    promise_speaks ballot None e b v res high short = nothing_speaks w s
    promise_speaks ballot (Some p) e b v res high short = by p.phase (pending_holds s n ok from from-fits ballot p e)
      where
        by : (h : Phase) → Lawful p × Fit s.counter p → Speaks w (in_first s p h from b v res)
        by Accept holds = nothing_speaks w s
        by Propose holds = unless_speaks w (first_due (promise_tests s p from res)) s (promise_work s p from b v res) (λ due. promise_work_speaks p holds.0 holds.1 b v res high short due)

    acceptance_work_speaks : (p : Pending) (lawful : Lawful p) (fit : Fit s.counter p) (res : Verdict) → first_due (acceptance_tests p from res) ≡ None → Speaks w (acceptance_work s p from res)
    acceptance_work_speaks p lawful fit Verdict.Granted due =
        let may = (sender_may s n ok from from-fits p None (none_due (first_phase p.phase) Refusal.FirstPhase _ due).1).0 in
        taken_speaks (with_yes p from p.promised p.value)
        (lawful_yes p lawful from p.promised p.value from-fits (room s.counter s.counter p from (omega arith) fit may).0 lawful.promised_fits lawful.promised)
    acceptance_work_speaks p lawful fit (Verdict.Denied (Failure.ProposalRejected last)) due = nothing_speaks w s
    acceptance_work_speaks p lawful fit (Verdict.Denied (Failure.AcceptRejected last)) due = turned_speaks p lawful from last
    acceptance_work_speaks p lawful fit (Verdict.Denied (Failure.CasFailed u)) due = nothing_speaks w s
    acceptance_work_speaks p lawful fit (Verdict.Denied Failure.Timeout) due = nothing_speaks w s

    acceptance_speaks : (ballot : Ballot) (o : Option Pending) → pending_at ballot s.places ≡ o → (res : Verdict) → Speaks w (on_acceptance s o from res)
    acceptance_speaks ballot None e res = nothing_speaks w s
    acceptance_speaks ballot (Some p) e res =
        let holds = pending_holds s n ok from from-fits ballot p e in
        unless_speaks w (first_due (acceptance_tests p from res)) s (acceptance_work s p from res) (λ due. acceptance_work_speaks p holds.0 holds.1 res due)

    -- ---- a message

    module _ (at : ℕ) (at-fits : at < 2 ^ 64) where
      request_speaks : (id : ℕ) (r : Request) → request_fits r ≡ true → Speaks w (work s from at (Message.ClientRequest id r))
      request_speaks id r fits =
          let next : Proposer = moved s (s.counter + 1) (take_place (asked s s.counter from id r at false) s.places) in
          unless_speaks w (first_due (request_tests s)) s (outcome next (proposals s s.counter r)) (λ due. proposals_speak next s.counter r (short_request r fits).0)

      work_speaks : (m : Message) → TypedMessage m → within_limits from m ≡ true → Speaks w (work s from at m)
      work_speaks (Message.ClientRequest id r) typed limits = request_speaks id r (within s n ok from at from-fits at-fits (Message.ClientRequest id r) limits)
      work_speaks (Message.ClientResponse id r) typed limits = nothing_speaks w s
      work_speaks (Message.SetAcceptAcceptors l) typed limits = nothing_speaks w (with_lists s l s.propose_acceptors)
      work_speaks (Message.SetProposeAcceptors l) typed limits = nothing_speaks w (with_lists s s.accept_acceptors l)
      work_speaks (Message.ProposeReq b k) typed limits = nothing_speaks w s
      work_speaks (Message.ProposeRes b a v res) typed limits =
          let fits = (and_true (option_fits v) (result_fits res) (within s n ok from at from-fits at-fits (Message.ProposeRes b a v res) limits)).0 in
          promise_speaks b (pending_at b s.places) refl a v res typed.0 (record { short = short_value v fits; bytes = typed.1 })
      work_speaks (Message.AcceptReq b k v) typed limits = nothing_speaks w s
      work_speaks (Message.AcceptRes b res) typed limits = acceptance_speaks b (pending_at b s.places) refl res

      pub message_speaks : (m : Message) → TypedMessage m → Speaks w (receive s from at m)
      unfolding receive
      message_speaks m typed =
          unless_speaks w (first_due (message_tests from m)) s (work s from at m)
          (λ due. work_speaks m typed (not-false _ (none_due (not (within_limits from m)) Refusal.OverLimit None (none_due (foreign m) Refusal.WrongKind _ due).1).0))

-- ---- a tick

-- every late request is lawful, so its row fits
unfoldable AllLawful : List Pending → Type 0
AllLawful [] = Unit
AllLawful (p ∷ l) = Lawful p × AllLawful l

insert_lawful : (p : Pending) (l : List Pending) → Lawful p → AllLawful l → AllLawful (insert p l)
unfolding insert AllLawful
insert_lawful p [] hp hl = (hp, tt)
insert_lawful p (q ∷ l) hp hl = go (above p.ballot q.ballot) (insert_lawful p l hp hl.1)
  where
    go : (t : Bool) → AllLawful (insert p l) → AllLawful (cond t (q ∷ insert p l) (p ∷ q ∷ l))
    go true h = (hl.0, h)
    go false h = (hp, (hl.0, hl.1))

late_lawful : (s : Proposer) (t : ℕ) (l : List (Option Pending)) → LawfulPlaces l → AllLawful (late_ones s t l)
unfolding late_ones LawfulPlaces AllLawful
late_lawful s t [] h = tt
late_lawful s t (None ∷ l) h = late_lawful s t l (λ i. h (suc i))
late_lawful s t (Some p ∷ l) h = go (late s t p) (late_lawful s t l (λ i. h (suc i)))
  where
    go : (z : Bool) → AllLawful (late_ones s t l) → AllLawful (cond z (insert p (late_ones s t l)) (late_ones s t l))
    go true rest = insert_lawful p (late_ones s t l) (h 0) rest
    go false rest = rest

late_rows_fit : (l : List Pending) → AllLawful l → RowsFit (rows_of l)
unfolding RowsFit rows_of AllLawful
late_rows_fit [] h = λ i. (lit< tt, lit< tt)
late_rows_fit (p ∷ l) h = λ i. elim i as (λ z. RowFits (get_or (rows_of (p ∷ l)) z (record { client = record { 0 = 0 }; id = 0 }))) [ zero ↦ (h.0.client_fits, h.0.id_fits) | suc j ↦ late_rows_fit l h.1 j ]

rows_speak : (w : List ℕ) (s : Proposer) (l : List Pending) → AllLawful l → rows_at + row_bytes * length l ≤ length w → Speaks w (outcome s (all_timeouts (rows_of l)))
unfolding rows_of
rows_speak w s [] h room = nothing_speaks w s
rows_speak w s (p ∷ l) h room =
    let all : List Row = rows_of (p ∷ l) in
    record {
      speaks =
          ap timeouts
          (rows_there all (drop (rows_at + length (rows_bytes all)) w) (sets w rows_at (rows_bytes all)) rows_at
          (drop_stored w rows_at (rows_bytes all) (omega (arith, room, length_rows all, length-rows_of (p ∷ l)))) (late_rows_fit (p ∷ l) h));
    }

pub tick_speaks : (w : List ℕ) (n : ℕ) → length w ≡ answer_bytes n → (s : Proposer) → Lendable s n → (t : ℕ) → Speaks w (tick s t)
unfolding tick
tick_speaks w n size s ok t =
    unless_speaks w (first_due (test (clock_back t s.places) Refusal.ClockBack ∷ [])) s (outcome (moved s s.counter (in_time s t s.places)) (all_timeouts (rows_of (late_ones s t s.places))))
    (λ due. rows_speak w (moved s s.counter (in_time s t s.places)) (late_ones s t s.places) (late_lawful s t s.places ok.lawful.each)
    (omega (arith, size, length_late s t s.places, ok.lawful.full)))

-- ---- so for every call on an area that is an image

module _ (a w : List ℕ) (n : ℕ) (bytes : Bytes a) (image : is_image a n ≡ true) (size : length w ≡ answer_bytes n) where
  pub received_said : (from : Address) (at : ℕ) (m : Message) (r : Answer) (a' w' : List ℕ) → from.0 < 2 ^ 16 → at < 2 ^ 64 → TypedMessage m → Done a w (outcome_on a n w from at m) r a' w' → said r w' ≡ (outcome_on a n w from at m).told
  unfolding outcome_on
  received_said from at m r a' w' from-fits at-fits typed done =
      rw (done.answer, done.written)
      (unless_speaks w (first_due (area_tests a n w)) (read_area a n) (receive (read_area a n) from at m)
      (λ due. message_speaks w n size (read_area a n) (lendable_read a w n bytes image) from from-fits at at-fits m typed)).speaks

  pub ticked_said : (t : ℕ) (r : Answer) (a' w' : List ℕ) → Done a w (tick_on a n w t) r a' w' → said r w' ≡ (tick_on a n w t).told
  unfolding tick_on
  ticked_said t r a' w' done =
      rw (done.answer, done.written)
      (unless_speaks w (first_due (area_tests a n w)) (read_area a n) (tick (read_area a n) t) (λ due. tick_speaks w n size (read_area a n) (lendable_read a w n bytes image) t)).speaks
