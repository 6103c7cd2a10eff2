-- `proposer_promise::promise` meets its contract: each return is a case of the rules' outcome, in rank order.
-- Assumes nothing.
use Rattle.std.proofs.Common.{refl, sym, ap, ◌∙◌, inl, inr, rules, subst}
use Rattle.std.specs.Prelude.{◌≡◌, Bool, false, cond, Err}
use denote.Enum.Bare.{sameb}
use Rattle.proposer_place.specs.declared.front.Phase as Code
use Rattle.proposer_place.specs.contracts.front.Phase.{the_type}
use Rattle.messages.specs.Message.{given}
use Rattle.proposer_works.specs.AskLaws.{silent_promise, found_pends, may_answer}
use Rattle.proposer_works.specs.Found.{Found}
use Rattle.proposer_promise.specs.PromiseLaws.{promise_late, promise_unasked, promise_granted, promise_rejected, promise_foreign}
use Rattle.proposer_promise.proofs.promise.Goals as goal
use Rattle.proposer_promise.proofs.promise.Goals.{After-request_at-request}

found_at : (c : After-request_at-request) → Found c.args.area.now c.in-Some.i c.args.ballot c.request_at-request.result.front
found_at c = record { place = c.in-Some.ensures.0; within = c.in-Some.ensures.1; front = rw c.request_at-request.ensures at c.request_at-request.result.taken }

-- a phase that is not the second is the first
first : (h : Code.Phase) → false ≡ sameb the_type h Code.Phase.Accept → h ≡ Code.Phase.Propose
first Code.Phase.Propose e = refl
first Code.Phase.Accept e = absurd (subst (λ (b : Bool). cond b ⊥ Unit) e tt)

pub returns-in_default : goal.returns-in_default
returns-in_default c = λ v. silent_promise _ _ _ _ c.in_default.ensures _ _ _

pub request_at-request-requires : goal.request_at-request-requires
request_at-request-requires c = found_pends c.args.area.now _ _ c.in-Some.ensures.0 c.in-Some.ensures.1

pub returns-then-eq : goal.returns-then-eq
returns-then-eq c =
    λ v. promise_late _ _ _ _ _ _ _ _ (found_at (goal.at.returns-then-eq c).After-request_at-request) _ (search rules)

pub returns-in-Some-refused : goal.returns-in-Some-refused
returns-in-Some-refused c =
    λ v. promise_unasked _ _ _ _ _ _ _ _ (found_at (goal.at.returns-in-Some-refused c).After-request_at-request) (first _ c.if-eq.ensures) _ _ (sym (rw c.request_at-request.ensures at c.refused.ensures) ∙ c.in-Some-refused.is)

pub granted-requires : goal.granted-requires
granted-requires c =
    (c.requires.0, may_answer c.args.area.now _ _ _ c.requires.1 c.in-Some.ensures.0 c.in-Some.ensures.1 (sym (rw c.request_at-request.ensures at c.refused.ensures) ∙ c.in_default-refused.is))

pub rejected-requires : goal.rejected-requires
rejected-requires c =
    (c.requires.0, may_answer c.args.area.now _ _ _ c.requires.1 c.in-Some.ensures.0 c.in-Some.ensures.1 (sym (rw c.request_at-request.ensures at c.refused.ensures) ∙ c.in_default-refused.is))

pub returns-in-Ok : goal.returns-in-Ok
returns-in-Ok c =
    λ v. promise_granted _ _ _ _ _ _ _ _ (found_at (goal.at.returns-in-Ok c).After-request_at-request) (first _ c.if-eq.ensures) (sym (rw c.request_at-request.ensures at c.refused.ensures) ∙ c.in_default-refused.is) _ v _ _ _ c.in-Ok.is c.granted.ensures

pub returns-in-ProposalRejected : goal.returns-in-ProposalRejected
returns-in-ProposalRejected c =
    λ v. promise_rejected _ _ _ _ _ _ _ _ (found_at (goal.at.returns-in-ProposalRejected c).After-request_at-request) (first _ c.if-eq.ensures) (sym (rw c.request_at-request.ensures at c.refused.ensures) ∙ c.in_default-refused.is) _ v _ _ _ _
    (c.in-Err.is ∙ ap Err c.in-ProposalRejected.is) (c.rejected.ensures c.args.accepted.ballot (given c.args.accepted.mark c.args.accepted.bytes.now))

pub returns-in-AcceptRejected : goal.returns-in-AcceptRejected
returns-in-AcceptRejected c =
    let found = found_at (goal.at.returns-in-AcceptRejected c).After-request_at-request in
    let passed = sym (rw c.request_at-request.ensures at c.refused.ensures) ∙ c.in_default-refused.is in
    elim c.in-AcceptRejected.is [
      | inl h ↦ λ v. promise_foreign _ _ _ _ _ _ _ _ found (first _ c.if-eq.ensures) passed _ v _ (c.in-Err.is ∙ ap Err h.1) refl
      | inr k ↦ elim k [
        | inl h ↦ λ v. promise_foreign _ _ _ _ _ _ _ _ found (first _ c.if-eq.ensures) passed _ v _ (c.in-Err.is ∙ ap Err h.1) refl
        | inr h ↦ λ v. promise_foreign _ _ _ _ _ _ _ _ found (first _ c.if-eq.ensures) passed _ v _ (c.in-Err.is ∙ ap Err h) refl
      ]
    ]
