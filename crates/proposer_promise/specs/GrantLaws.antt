-- Promises and refused proposals of a request whose sender may answer: each return of the code is the rules' outcome.
-- Assumes nothing.
use Rattle.std.specs.Prelude.{◌≡◌, refl, Bool, true, false, not, cond, List, [], ◌∷◌, ◌++◌, leb, length, get_or, set}
use Rattle.std.proofs.Common.{sym, subst, ◌∙◌, arith}
use Rattle.std.proofs.Math.Path.{ap}
use Rattle.std.specs.Prelude.{Option, None, Some}
use Prim.Native.Nat.{ℕ, zero, suc, ◌+◌, ◌^◌, ◌<◌}
use Rattle.std.proofs.lemmas.Bool.{not-true, not-false}
use Rattle.std.proofs.lemmas.List.Edits.{sets}
use Rattle.messages.specs.declared.Address.{Address}
use Rattle.messages.specs.declared.Ballot.{Ballot}
use Rattle.messages.specs.declared.answer.Answer.{Answer}
use Rattle.messages.specs.declared.answer.Refusal.{Refusal}
use Rattle.messages.specs.Ballots.{above}
use Rattle.messages.specs.Message.{Value, Verdict}
use Rattle.messages.specs.Limits.{value_most, list_most}
use Rattle.messages.specs.Answers.{bytes_of}
use Rattle.messages.specs.Refusals.{test, first_due}
use Rattle.proposer_rules.specs.State.{Pending, Proposer, with_yes}
use Rattle.proposer_rules.specs.Rules.{moved, majority_of, reached, promised_by, to_accept, replace_at, granted, promise_above}
use Rattle.proposer_place.specs.declared.front.Front.{Front}
use Rattle.proposer_place.specs.Area.{place_image, area_image, read_pending, read_area}
use Rattle.proposer_place.specs.AreaLaws.{Short, Lawful, LawfulState, read_written, read_pending_lem}
use Rattle.proposer_place.specs.Front.{front_of}
use Rattle.proposer_place.specs.PlaceLaws.{lawful_yes, area_part, lawful_place_set}
use Rattle.proposer_area.specs.Turns.{sized_of}
use Rattle.proposer_area.specs.Places.{place_at, place_in}
use Rattle.proposer_area.specs.Held.{Held, Pends}
use Rattle.proposer_area.specs.HeldLaws.{state_held, with_place}
use Rattle.proposer_works.specs.Works.{Asks, Worked, placed, accepting, granting}
use Rattle.proposer_works.specs.WorksLaws.{refused_work, due_none}
use Rattle.proposer_works.specs.Answerers.{more}

-- ---- lists of places

get_set : (l : List (Option Pending)) (i : ℕ) (q : Option Pending) → i < length l → get_or (set l i q) i None ≡ q
get_set [] i q h = absurd (omega (arith, h))
get_set (x ∷ l) zero q h = refl
get_set (x ∷ l) (suc i) q h = get_set l i q (omega (arith, h))

set_again : (l : List (Option Pending)) (i : ℕ) (q q' : Option Pending) → set (set l i q) i q' ≡ set l i q'
set_again [] i q q' = refl
set_again (x ∷ l) zero q q' = refl
set_again (x ∷ l) (suc i) q q' = ap (λ (r : List (Option Pending)). x ∷ r) (set_again l i q q')

-- ---- an area after an answer was noted at place i

module _ (a : List ℕ) (n i : ℕ) (q : Pending) (held : Held a n) (within : i < n) (ok : Lawful q) where
  abbrev s : Proposer
  s = read_area a n

  abbrev noted : Proposer
  noted = placed s s.counter i (Some q)

  noted_lawful : LawfulState noted n
  noted_lawful = lawful_place_set s n i (Some q) held.lawful ok

  noted_there : get_or noted.places i None ≡ Some q
  noted_there = get_set s.places i (Some q) (rw held.lawful.full within)

  module _ (a₁ : List ℕ) (e : a₁ ≡ sets a (place_at i) (place_image (Some q))) where
    noted_image : a₁ ≡ area_image noted
    noted_image = e ∙ with_place a n held i (Some q) within ok

    pub noted_read : read_area a₁ n ≡ noted
    noted_read = ap (λ (r : List ℕ). read_area r n) noted_image ∙ read_written noted n noted_lawful

    pub noted_pending : read_pending (place_in a₁ i) ≡ q
    noted_pending =
        ap (λ (r : List ℕ). read_pending (place_in r i)) noted_image
        ∙ ap read_pending (area_part noted n noted_lawful i within ∙ ap place_image noted_there)
        ∙ read_pending_lem q ok

    pub noted_held : Held a₁ n
    noted_held =
        subst (λ (r : List ℕ). Held r n) (sym noted_image)
        (state_held noted n noted_lawful (sized_of a n held.sized).least (sized_of a n held.sized).most)

    pub noted_pends : Pends a₁ n i
    noted_pends = record { within = within; used = rw (noted_read, noted_pending) noted_there }

-- ---- a yes that is noted

promised_parts : (p : Pending) (from : Address) (b : Ballot) (v : Option Value) (t : Bool) → let q = cond t (with_yes p from b v) (with_yes p from p.promised p.value) in (q.ballot ≡ p.ballot) × (q.acks_from ≡ p.acks_from ++ (from.0 ∷ [])) × (q.waiting_for ≡ p.waiting_for)
promised_parts p from b v true = (refl, refl, refl)
promised_parts p from b v false = (refl, refl, refl)

pub promised_lawful : (p : Pending) (from : Address) (b : Ballot) (v : Option Value) → Lawful p → from.0 < 2 ^ 16 → length p.acks_from < list_most → b.0 < 2 ^ 64 → Short value_most (bytes_of v) → Lawful (promised_by p from b v)
promised_lawful p from b v ok fits room high short = go (above b p.promised)
  where
    go : (t : Bool) → Lawful (cond t (with_yes p from b v) (with_yes p from p.promised p.value))
    go true = lawful_yes p ok from b v fits room high short
    go false = lawful_yes p ok from p.promised p.value fits room ok.promised_fits ok.promised

-- ---- an Ok promise

module _ (a w : List ℕ) (n i : ℕ) (f : Front) (from : Address) (b : Ballot) (v : Option Value) (held : Held a n) (asks : Asks a n i) (ef : f ≡ front_of (read_pending (place_in a i))) where
  abbrev state : Proposer
  state = read_area a n

  abbrev p : Pending
  p = read_pending (place_in a i)

  abbrev q : Pending
  q = promised_by p from b v

  abbrev promise_due : Option Refusal
  promise_due = first_due (test (promise_above p Verdict.Granted) Refusal.PromisedAbove ∷ [])

  parts : (q.ballot ≡ p.ballot) × (q.acks_from ≡ p.acks_from ++ (from.0 ∷ [])) × (q.waiting_for ≡ p.waiting_for)
  parts = promised_parts p from b v (above b p.promised)

  front_ballot : f.ballot ≡ p.ballot
  unfolding front_of
  front_ballot = ap (λ (g : Front). g.ballot) ef

  front_promised : f.promised ≡ p.promised
  unfolding front_of
  front_promised = ap (λ (g : Front). g.promised) ef

  front_yeses : f.acks_from ≡ length p.acks_from
  unfolding front_of
  front_yeses = ap (λ (g : Front). g.acks_from) ef

  front_waited : f.waiting_for ≡ length p.waiting_for
  unfolding front_of
  front_waited = ap (λ (g : Front). g.waiting_for) ef

  reached_by : reached q.acks_from q.waiting_for ≡ leb (majority_of f.waiting_for) (f.acks_from + 1)
  reached_by = rw (parts.1, parts.2, more p.acks_from from.0, front_yeses, front_waited)

  pub promise_refused : (t : Bool) (ballot : Ballot) → ballot ≡ f.ballot → t ≡ above ballot f.promised → t ≡ false → Worked w (granting state p from b v) (Answer.Refused Refusal.PromisedAbove) a w
  promise_refused t ballot eb et below-it =
      let below : above p.ballot p.promised ≡ false = rw (front_ballot, front_promised) at (rw eb at (sym et ∙ below-it)) in
      refused_work a w state promise_due (granted state q) Refusal.PromisedAbove held.image (rw below)

  allowed : (t : Bool) (ballot : Ballot) → ballot ≡ f.ballot → t ≡ above ballot f.promised → t ≡ true → above p.ballot p.promised ≡ true
  allowed t ballot eb et yes-above = rw (front_ballot, front_promised) at (rw eb at (sym et ∙ yes-above))

  replaced : (x : Option Pending) → moved state state.counter (replace_at q.ballot x state.places) ≡ placed state state.counter i x
  replaced x = ap (λ (l : List (Option Pending)). moved state state.counter l) (ap (λ (c : Ballot). replace_at c x state.places) parts.0 ∙ asks.there x)

  module _ (t short : Bool) (ballot : Ballot) (eb : ballot ≡ f.ballot) (et : t ≡ above ballot f.promised) (fine : t ≡ true) (es : short ≡ not (leb (majority_of f.waiting_for) (f.acks_from + 1))) (a₁ : List ℕ) (ea : a₁ ≡ sets a (place_at i) (place_image (Some q))) (ok : Lawful q) where
    pub promise_noted : short ≡ true → Worked w (granting state p from b v) Answer.Nothing a₁ w
    promise_noted few =
        due_none w state promise_due (granted state q) Answer.Nothing a₁ w (rw (allowed t ballot eb et fine))
        (rw (reached_by ∙ not-true _ (sym es ∙ few))
        record {
          answer = refl;
          area = ea ∙ with_place a n held i (Some q) asks.pends.within ok ∙ ap area_image (sym (replaced (Some q)));
          written = refl;
        })

    pub promise_settled : (r : Answer) (a₂ w₂ : List ℕ) → short ≡ false → Worked w (accepting (read_area a₁ n) i (read_pending (place_in a₁ i))) r a₂ w₂ → Worked w (granting state p from b v) r a₂ w₂
    promise_settled r a₂ w₂ enough h =
        let within = asks.pends.within in
        let work : Worked w (accepting (noted a n i q held within ok) i q) r a₂ w₂ = rw (noted_read a n i q held within ok a₁ ea, noted_pending a n i q held within ok a₁ ea) at h in
        due_none w state promise_due (granted state q) r a₂ w₂ (rw (allowed t ballot eb et fine))
        (rw (reached_by ∙ not-false _ (sym es ∙ enough))
        record {
          answer = work.answer;
          area =
              work.area
              ∙ ap (λ (l : List (Option Pending)). area_image (moved state state.counter l)) (set_again state.places i (Some q) (Some (to_accept state q)))
              ∙ ap area_image (sym (replaced (Some (to_accept state q))));
          written = work.written;
        })
