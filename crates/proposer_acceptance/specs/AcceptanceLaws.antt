-- Answers to accept requests: each return of the code is the rules' outcome.
-- Assumes nothing.
use Rattle.std.specs.Prelude.{◌≡◌, refl, Bool, true, false, not, cond, List, leb, length, Result, Ok, Err}
use Rattle.std.proofs.Common.{sym, ◌∙◌}
use Rattle.std.proofs.Math.Path.{ap}
use Rattle.std.proofs.lemmas.Bool.{false≢true, not-true, not-false}
use Rattle.std.specs.Prelude.{Option, None, Some}
use Prim.Native.Nat.{ℕ, ◌+◌, ◌^◌, ◌<◌}
use Rattle.std.proofs.lemmas.List.Edits.{sets}
use Rattle.messages.specs.declared.Address.{Address}
use Rattle.messages.specs.declared.Ballot.{Ballot}
use Rattle.messages.specs.declared.Lent.{Lent}
use Rattle.messages.specs.declared.Error.{Error}
use Rattle.messages.specs.declared.Rpc.{Rpc}
use Rattle.messages.specs.declared.answer.Answer.{Answer}
use Rattle.messages.specs.declared.answer.Refusal.{Refusal}
use Rattle.messages.specs.Message.{Value, Request, Failure, Verdict, Reply, result_of}
use Rattle.messages.specs.Answers.{marked, bytes_of, answer_of, written_in}
use Rattle.messages.specs.Refusals.{pick_first, first_due}
use Rattle.proposer_rules.specs.State.{Pending, Proposer, with_yes}
use Rattle.proposer_rules.specs.Rules.{Outcome, unless, moved, majority_of, reached, same_value, applied, reply_of, to_client, pending_at, replace_at, first_phase, foreign_acceptance, sender_tests, acceptance_tests, acceptance_work, on_acceptance}
use Rattle.proposer_place.specs.declared.front.Phase as Code
use Rattle.proposer_place.specs.declared.front.Front.{Front}
use Rattle.proposer_place.specs.Area.{place_image, area_image, read_pending, read_area}
use Rattle.proposer_place.specs.AreaLaws.{Lawful}
use Rattle.proposer_place.specs.Front.{front_of}
use Rattle.proposer_place.specs.PlaceLaws.{lawful_yes}
use Rattle.proposer_area.specs.Places.{place_at, place_in}
use Rattle.proposer_area.specs.Held.{Held, Pends}
use Rattle.proposer_area.specs.HeldLaws.{with_place, lawful_pending}
use Rattle.proposer_works.specs.Works.{Asks, Worked, WorkedOn, placed, settled}
use Rattle.proposer_works.specs.WorksLaws.{refused_on, due_none_on}
use Rattle.proposer_works.specs.Answerers.{more}
use Rattle.proposer_works.specs.AskLaws.{found_only, first_phase_lem, second_phase_lem, sender_due, sender_passes}
use Rattle.proposer_works.specs.Found.{Found}
use Rattle.proposer_area.specs.declared.area.Area.{Area}
use Rattle.proposer_area.specs.State.{state, pending}

-- ---- the request settled

-- where a compare fails the value stays the promised one
failed_keeps : (r : Request) (v : Option Value) → (applied r v).failed ≡ true → (applied r v).value ≡ v
failed_keeps (Request.Get k) v h = refl
failed_keeps (Request.Del k) v h = absurd (false≢true h)
failed_keeps (Request.Set k u) v h = absurd (false≢true h)
failed_keeps (Request.Cas k old new) v h = go (same_value old v) h
  where
    go : (t : Bool) → not t ≡ true → cond t new v ≡ v
    go true e = absurd (false≢true e)
    go false e = refl

-- the reply as the code makes it: an enum by the mark, and the value's bytes
reply_told : (p : Pending) (w : List ℕ) → let x = applied p.req p.value in (Answer.Message p.client (Rpc.ClientResponse p.id (cond x.failed (Err (Error.CasFailed (marked x.value))) (Ok (marked x.value)))) (length (bytes_of x.value)) ≡ answer_of (to_client p (reply_of p.req p.value))) × (sets w 0 (bytes_of x.value) ≡ written_in w (to_client p (reply_of p.req p.value)))
reply_told p w = go (applied p.req p.value).failed (applied p.req p.value).value (failed_keeps p.req p.value)
  where
    go : (t : Bool) (u : Option Value) → (t ≡ true → u ≡ p.value) → (Answer.Message p.client (Rpc.ClientResponse p.id (cond t (Err (Error.CasFailed (marked u))) (Ok (marked u)))) (length (bytes_of u)) ≡ answer_of (to_client p (cond t (Reply.Failed (Failure.CasFailed p.value)) (Reply.Done u)))) × (sets w 0 (bytes_of u) ≡ written_in w (to_client p (cond t (Reply.Failed (Failure.CasFailed p.value)) (Reply.Done u))))
    go true u e = (rw (e refl), rw (e refl))
    go false u e = (refl, refl)

pub request_settled : (a w : List ℕ) (n i : ℕ) (f : Front) → Held a n → Pends a n i → f ≡ front_of (read_pending (place_in a i)) → (told : Result (Option Lent) Error) (value : Value) (w₁ a₁ : List ℕ) → let x = applied (read_pending (place_in a i)).req (read_pending (place_in a i)).value in told ≡ cond x.failed (Err (Error.CasFailed (marked x.value))) (Ok (marked x.value)) → value ≡ bytes_of x.value → w₁ ≡ sets w 0 value → a₁ ≡ sets a (place_at i) (place_image None) → Worked w (settled (read_area a n) i (read_pending (place_in a i))) (Answer.Message f.client (Rpc.ClientResponse f.id told) (length value)) a₁ w₁
unfolding front_of
request_settled a w n i f held pends ef told value w₁ a₁ et ev ew ea =
    let all = reply_told (read_pending (place_in a i)) w in
    record {
      answer = rw (ef, et, ev) all.0;
      area = ea ∙ with_place a n held i None pends.within tt;
      written = ew ∙ ap (sets w 0) ev ∙ all.1;
    }

-- ---- an acceptance, and a refused one, whose sender may answer

module _ (a w : List ℕ) (n i : ℕ) (f : Front) (from : Address) (short : Bool) (held : Held a n) (asks : Asks a n i) (ef : f ≡ front_of (read_pending (place_in a i))) (es : short ≡ not (leb (majority_of f.waiting_for) (f.acks_from + 1))) where
  abbrev now_state : Proposer
  now_state = read_area a n

  abbrev p : Pending
  p = read_pending (place_in a i)

  abbrev q : Pending
  q = with_yes p from p.promised p.value

  replaced : (x : Option Pending) → moved now_state now_state.counter (replace_at p.ballot x now_state.places) ≡ placed now_state now_state.counter i x
  replaced x = ap (λ (l : List (Option Pending)). moved now_state now_state.counter l) (asks.there x)

  yeses_reached : reached q.acks_from q.waiting_for ≡ leb (majority_of f.waiting_for) (f.acks_from + 1)
  unfolding front_of
  yeses_reached = rw (more p.acks_from from.0, ef)

  pub acceptance_noted : (a₁ : List ℕ) → short ≡ true → from.0 < 2 ^ 16 → a₁ ≡ sets a (place_at i) (place_image (Some q)) → Worked w (acceptance_work now_state p from Verdict.Granted) Answer.Nothing a₁ w
  acceptance_noted a₁ few fits ea =
      let ok : Lawful p = lawful_pending a n held i asks.pends in
      rw (yeses_reached ∙ not-true _ (sym es ∙ few))
      record {
        answer = refl;
        area = ea ∙ with_place a n held i (Some q) asks.pends.within (lawful_yes p ok from p.promised p.value fits asks.more_yeses ok.promised_fits ok.promised) ∙ ap area_image (sym (replaced (Some q)));
        written = refl;
      }

  pub acceptance_settled : (a₁ w₁ : List ℕ) (r : Answer) → short ≡ false → Worked w (settled now_state i p) r a₁ w₁ → Worked w (acceptance_work now_state p from Verdict.Granted) r a₁ w₁
  acceptance_settled a₁ w₁ r enough work =
      rw (yeses_reached ∙ not-false _ (sym es ∙ enough))
      record { answer = work.answer; area = work.area ∙ ap area_image (sym (replaced None)); written = work.written }

-- ---- the tests of an acceptance, in their order

module _ (a : Area) (w : List ℕ) (i : ℕ) (ballot : Ballot) (f : Front) (from : Address) (found : Found a i ballot f) where
  abbrev rules : Verdict → Outcome
  rules res = on_acceptance (state a) (pending_at ballot (state a).places) from res

  abbrev tests : Verdict → Option Refusal
  tests res = first_due (acceptance_tests (pending a i) from res)

  rules_here : (res : Verdict) → rules res ≡ unless (tests res) (state a) (acceptance_work (state a) (pending a i) from res)
  rules_here res = rw (found_only a i ballot found.place found.within)

  refused : (res : Verdict) (r : Refusal) → tests res ≡ Some r → WorkedOn a w (rules res) (Answer.Refused r) a w
  refused res r due = rw (rules_here res) (refused_on a w (tests res) (acceptance_work (state a) (pending a i) from res) r due)

  pub acceptance_early : (res : Verdict) → f.phase ≡ Code.Phase.Propose → WorkedOn a w (rules res) (Answer.Refused Refusal.FirstPhase) a w
  acceptance_early res e = refused res Refusal.FirstPhase (rw (first_phase_lem a i f found.front e))

  module _ (second : f.phase ≡ Code.Phase.Accept) where
    past_first : (rest : Option Refusal) → pick_first (first_phase (pending a i).phase) Refusal.FirstPhase rest ≡ rest
    past_first rest = rw (second_phase_lem a i f found.front second)

    pub acceptance_unasked : (res : Verdict) (r : Refusal) → first_due (sender_tests (pending a i) from) ≡ Some r → WorkedOn a w (rules res) (Answer.Refused r) a w
    acceptance_unasked res r due = refused res r (past_first _ ∙ sender_due (pending a i) from _ r due)

    module _ (passed : first_due (sender_tests (pending a i) from) ≡ None) (res kind : Result Unit Error) (v : List ℕ) (e : res ≡ kind) where
      pub acceptance_handed : (r : Answer) (b : Area) (w' : List ℕ) → foreign_acceptance (result_of kind v) ≡ false → WorkedOn a w (acceptance_work (state a) (pending a i) from (result_of kind v)) r b w' → WorkedOn a w (rules (result_of res v)) r b w'
      acceptance_handed r b w' own h =
          rw (e, rules_here (result_of kind v)) (due_none_on a w (tests (result_of kind v)) _ r b w' (past_first _ ∙ sender_passes (pending a i) from _ passed ∙ rw own) h)

      pub acceptance_foreign : foreign_acceptance (result_of kind v) ≡ true → WorkedOn a w (rules (result_of res v)) (Answer.Refused Refusal.ForeignError) a w
      acceptance_foreign strange = rw e (refused (result_of kind v) Refusal.ForeignError (past_first _ ∙ sender_passes (pending a i) from _ passed ∙ rw strange))
