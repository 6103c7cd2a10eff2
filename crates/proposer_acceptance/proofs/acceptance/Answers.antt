-- `proposer_acceptance::acceptance` meets its contract: each return is a case of the rules' outcome, in rank order.
-- Assumes nothing.
use Rattle.std.proofs.Common.{refl, sym, ap, ◌∙◌, inl, inr, rules}
use Rattle.std.specs.Prelude.{◌≡◌, Bool, false, cond, Err}
use Rattle.std.proofs.Common.{subst}
use denote.Enum.Bare.{sameb}
use Rattle.proposer_place.specs.declared.front.Phase as Code
use Rattle.proposer_place.specs.contracts.front.Phase.{the_type}
use Rattle.proposer_works.specs.AskLaws.{silent_acceptance, found_pends, may_answer}
use Rattle.proposer_works.specs.Found.{Found}
use Rattle.proposer_acceptance.specs.AcceptanceLaws.{acceptance_early, acceptance_unasked, acceptance_handed, acceptance_foreign}
use Rattle.proposer_acceptance.proofs.acceptance.Goals as goal
use Rattle.proposer_acceptance.proofs.acceptance.Goals.{After-request_at-request}

-- ---- what the search and the tests have shown

found_at : (c : After-request_at-request) → Found c.args.area.now c.in-Some.i c.args.ballot c.request_at-request.result.front
found_at c = record { place = c.in-Some.ensures.0; within = c.in-Some.ensures.1; front = rw c.request_at-request.ensures at c.request_at-request.result.taken }

-- a phase that is not the first is the second
second : (h : Code.Phase) → false ≡ sameb the_type h Code.Phase.Propose → h ≡ Code.Phase.Accept
second Code.Phase.Propose e = absurd (subst (λ (b : Bool). cond b ⊥ Unit) e tt)
second Code.Phase.Accept e = refl

pub returns-in_default : goal.returns-in_default
returns-in_default c = λ v. silent_acceptance _ _ _ _ c.in_default.ensures _

pub request_at-request-requires : goal.request_at-request-requires
request_at-request-requires c = found_pends c.args.area.now _ _ c.in-Some.ensures.0 c.in-Some.ensures.1

pub returns-then-eq : goal.returns-then-eq
returns-then-eq c =
    λ v. acceptance_early _ _ _ _ _ c.args.from (found_at (goal.at.returns-then-eq c).After-request_at-request) _ (search rules)

pub returns-in-Some-refused : goal.returns-in-Some-refused
returns-in-Some-refused c =
    λ v. acceptance_unasked _ _ _ _ _ _ (found_at (goal.at.returns-in-Some-refused c).After-request_at-request) (second _ c.if-eq.ensures) _ _ (sym (rw c.request_at-request.ensures at c.refused.ensures) ∙ c.in-Some-refused.is)

pub taken-requires : goal.taken-requires
taken-requires c =
    (c.requires.0, may_answer c.args.area.now _ _ _ c.requires.1 c.in-Some.ensures.0 c.in-Some.ensures.1 (sym (rw c.request_at-request.ensures at c.refused.ensures) ∙ c.in_default-refused.is))

pub turned_down-requires : goal.turned_down-requires
turned_down-requires c =
    may_answer c.args.area.now _ _ _ c.requires.1 c.in-Some.ensures.0 c.in-Some.ensures.1 (sym (rw c.request_at-request.ensures at c.refused.ensures) ∙ c.in_default-refused.is)

pub returns-in-Ok : goal.returns-in-Ok
returns-in-Ok c =
    λ v. acceptance_handed _ _ _ _ _ _ (found_at (goal.at.returns-in-Ok c).After-request_at-request) (second _ c.if-eq.ensures) (sym (rw c.request_at-request.ensures at c.refused.ensures) ∙ c.in_default-refused.is) _ _ v c.in-Ok.is _ _ _ refl c.taken.ensures

pub returns-in-AcceptRejected : goal.returns-in-AcceptRejected
returns-in-AcceptRejected c =
    λ v. acceptance_handed _ _ _ _ _ _ (found_at (goal.at.returns-in-AcceptRejected c).After-request_at-request) (second _ c.if-eq.ensures) (sym (rw c.request_at-request.ensures at c.refused.ensures) ∙ c.in_default-refused.is) _ _ v
    (c.in-Err.is ∙ ap Err c.in-AcceptRejected.is) _ _ _ refl (c.turned_down.ensures _)

pub returns-in-ProposalRejected : goal.returns-in-ProposalRejected
returns-in-ProposalRejected c =
    let found = found_at (goal.at.returns-in-ProposalRejected c).After-request_at-request in
    let passed = sym (rw c.request_at-request.ensures at c.refused.ensures) ∙ c.in_default-refused.is in
    elim c.in-ProposalRejected.is [
      | inl h ↦ λ v. acceptance_foreign _ _ _ _ _ _ found (second _ c.if-eq.ensures) passed _ _ v (c.in-Err.is ∙ ap Err h.1) refl
      | inr k ↦ elim k [
        | inl h ↦ λ v. acceptance_foreign _ _ _ _ _ _ found (second _ c.if-eq.ensures) passed _ _ v (c.in-Err.is ∙ ap Err h.1) refl
        | inr h ↦ λ v. acceptance_foreign _ _ _ _ _ _ found (second _ c.if-eq.ensures) passed _ _ v (c.in-Err.is ∙ ap Err h) refl
      ]
    ]
