-- A request dropped, and a no noted, with another counter.
-- Assumes nothing.
use Rattle.std.specs.Prelude.{◌≡◌, refl, List, [], ℕ, ◌^◌, ◌<◌, Err}
use Rattle.std.proofs.Common.{ap, ◌∙◌}
use Rattle.std.specs.Prelude.{None, Some}
use Rattle.std.proofs.lemmas.List.Edits.{sets}
use Rattle.leaf_fields.specs.Fields.{to_le}
use Rattle.messages.specs.declared.Address.{Address}
use Rattle.messages.specs.declared.Error.{Error}
use Rattle.messages.specs.declared.Rpc.{Rpc}
use Rattle.messages.specs.declared.answer.Answer.{Answer}
use Rattle.messages.specs.Message.{Reply, failure_of}
use Rattle.messages.specs.Answers.{answer_of}
use Rattle.proposer_rules.specs.State.{Pending, with_no}
use Rattle.proposer_rules.specs.Rules.{to_client}
use Rattle.proposer_place.specs.declared.front.Front.{Front}
use Rattle.proposer_place.specs.Area.{counter_at, place_image, area_image, read_pending, read_area}
use Rattle.proposer_place.specs.Front.{front_of}
use Rattle.proposer_place.specs.PlaceLaws.{lawful_no}
use Rattle.proposer_area.specs.Places.{place_at, place_in}
use Rattle.proposer_area.specs.Held.{Held, Pends}
use Rattle.proposer_area.specs.HeldLaws.{with_both, lawful_pending}
use Rattle.proposer_works.specs.Works.{Asks, placed}

pub dropped : (a : List ℕ) (n i counter : ℕ) (a₁ a₂ : List ℕ) → Held a n → Pends a n i → a₁ ≡ sets a (place_at i) (place_image None) → a₂ ≡ sets a₁ counter_at (to_le 8 counter) → a₂ ≡ area_image (placed (read_area a n) counter i None)
dropped a n i counter a₁ a₂ held pends e₁ e₂ =
    e₂ ∙ ap (λ (u : List ℕ). sets u counter_at (to_le 8 counter)) e₁ ∙ with_both a n held i counter None pends.within tt

pub dropped_told : (f : Front) (p : Pending) (error : Error) → f ≡ front_of p → Answer.Message f.client (Rpc.ClientResponse f.id (Err error)) 0 ≡ answer_of (to_client p (Reply.Failed (failure_of error [])))
unfolding front_of
dropped_told f p error ef = rw ef (by error)
  where
    by : (error : Error) → Answer.Message p.client (Rpc.ClientResponse p.id (Err error)) 0 ≡ answer_of (to_client p (Reply.Failed (failure_of error [])))
    by (Error.ProposalRejected last) = refl
    by (Error.AcceptRejected last) = refl
    by (Error.CasFailed None) = refl
    by (Error.CasFailed (Some mark)) = refl
    by Error.Timeout = refl

pub no_noted : (a : List ℕ) (n i counter : ℕ) (from : Address) (a₁ a₂ : List ℕ) → Held a n → Asks a n i → from.0 < 2 ^ 16 → a₁ ≡ sets a (place_at i) (place_image (Some (with_no (read_pending (place_in a i)) from))) → a₂ ≡ sets a₁ counter_at (to_le 8 counter) → a₂ ≡ area_image (placed (read_area a n) counter i (Some (with_no (read_pending (place_in a i)) from)))
no_noted a n i counter from a₁ a₂ held asks fits e₁ e₂ =
    e₂
    ∙ ap (λ (u : List ℕ). sets u counter_at (to_le 8 counter)) e₁
    ∙ with_both a n held i counter (Some (with_no (read_pending (place_in a i)) from)) asks.pends.within
    (lawful_no (read_pending (place_in a i)) (lawful_pending a n held i asks.pends) from fits asks.more_noes)
