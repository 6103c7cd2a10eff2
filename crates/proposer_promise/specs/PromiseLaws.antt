-- The tests of a promise, in their order: each return of `promise` is the rules' outcome.
-- Assumes nothing.
use Rattle.std.specs.Prelude.{◌≡◌, true, List, ℕ, Option, None, Some, Result, Ok, Err}
use Rattle.std.proofs.Common.{◌∙◌}
use Rattle.messages.specs.declared.Address.{Address}
use Rattle.messages.specs.declared.Ballot.{Ballot}
use Rattle.messages.specs.declared.Error.{Error}
use Rattle.messages.specs.declared.answer.Answer.{Answer}
use Rattle.messages.specs.declared.answer.Refusal.{Refusal}
use Rattle.messages.specs.Message.{Value, Verdict, result_of}
use Rattle.messages.specs.Refusals.{first_due}
use Rattle.proposer_rules.specs.Rules.{Outcome, unless, pending_at, foreign_promise, sender_tests, promise_tests, promise_work, on_promise}
use Rattle.proposer_place.specs.declared.front.Phase as Code
use Rattle.proposer_place.specs.declared.front.Front.{Front}
use Rattle.proposer_area.specs.declared.area.Area.{Area}
use Rattle.proposer_area.specs.State.{state, pending}
use Rattle.proposer_works.specs.Works.{WorkedOn, granting, rejecting}
use Rattle.proposer_works.specs.WorksLaws.{refused_on}
use Rattle.proposer_works.specs.AskLaws.{stays, found_only, first_phase_lem, second_phase_lem, sender_due, sender_passes}
use Rattle.proposer_works.specs.Found.{Found}

module _ (a : Area) (w : List ℕ) (i : ℕ) (ballot : Ballot) (f : Front) (from : Address) (b : Ballot) (v : Option Value) (found : Found a i ballot f) where
  abbrev rules : Verdict → Outcome
  rules res = on_promise (state a) (pending_at ballot (state a).places) from b v res

  abbrev tests : Verdict → Option Refusal
  tests res = first_due (promise_tests (state a) (pending a i) from res)

  -- past the first phase: silence
  pub promise_late : (res : Verdict) → f.phase ≡ Code.Phase.Accept → WorkedOn a w (rules res) Answer.Nothing a w
  promise_late res e = stays a w _ (rw (found_only a i ballot found.place found.within, second_phase_lem a i f found.front e))

  module _ (first : f.phase ≡ Code.Phase.Propose) where
    rules_here : (res : Verdict) → rules res ≡ unless (tests res) (state a) (promise_work (state a) (pending a i) from b v res)
    rules_here res = rw (found_only a i ballot found.place found.within, first_phase_lem a i f found.front first)

    refused : (res : Verdict) (r : Refusal) → tests res ≡ Some r → WorkedOn a w (rules res) (Answer.Refused r) a w
    refused res r due = rw (rules_here res) (refused_on a w (tests res) (promise_work (state a) (pending a i) from b v res) r due)

    pub promise_unasked : (res : Verdict) (r : Refusal) → first_due (sender_tests (pending a i) from) ≡ Some r → WorkedOn a w (rules res) (Answer.Refused r) a w
    promise_unasked res r due = refused res r (sender_due (pending a i) from _ r due)

    module _ (passed : first_due (sender_tests (pending a i) from) ≡ None) (res : Result Unit Error) (v' : List ℕ) where
      pub promise_granted : (r : Answer) (c : Area) (w' : List ℕ) → res ≡ Ok tt → WorkedOn a w (granting (state a) (pending a i) from b v) r c w' → WorkedOn a w (rules (result_of res v')) r c w'
      promise_granted r c w' e h = rw (e, rules_here Verdict.Granted, sender_passes (pending a i) from _ passed) h

      pub promise_rejected : (last : Ballot) (r : Answer) (c : Area) (w' : List ℕ) → res ≡ Err (Error.ProposalRejected last) → WorkedOn a w (rejecting (state a) (pending a i) from last b v) r c w' → WorkedOn a w (rules (result_of res v')) r c w'
      promise_rejected last r c w' e h = rw (e, rules_here (result_of (Err (Error.ProposalRejected last)) v'), sender_passes (pending a i) from _ passed) h

      pub promise_foreign : (error : Error) → res ≡ Err error → foreign_promise (result_of (Err error) v') ≡ true → WorkedOn a w (rules (result_of res v')) (Answer.Refused Refusal.ForeignError) a w
      promise_foreign error e strange =
          rw e (refused (result_of (Err error) v') Refusal.ForeignError (sender_passes (pending a i) from _ passed ∙ rw strange))
