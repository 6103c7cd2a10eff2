-- The request that an answer is for: silence where there is none, the refusals of its sender, and what a sender that may answer gives the works.
-- Assumes nothing.
use Rattle.std.proofs.Math.Path.{◌≡◌, refl, sym}
use Rattle.std.proofs.Common.{ap, subst, ◌∙◌, arith}
use Rattle.std.specs.Prelude.{Bool, true, false, not, ◌&&◌, ◌||◌, List, [], ◌∷◌, ℕ, zero, suc, ◌<◌, leb, get_or, set}
use Rattle.std.specs.Prelude.{Option, None, Some}
use Rattle.leaf_fields.specs.Laws.{and_true}
use Rattle.messages.specs.declared.Address.{Address}
use Rattle.messages.specs.declared.Ballot.{Ballot}
use Rattle.messages.specs.declared.answer.Answer.{Answer}
use Rattle.messages.specs.declared.answer.Refusal.{Refusal}
use Rattle.messages.specs.Message.{Value, Verdict}
use Rattle.messages.specs.Limits.{list_fits}
use Rattle.messages.specs.Answers.{nothing}
use Rattle.messages.specs.Refusals.{pick_first, first_due}
use Rattle.proposer_rules.specs.State.{Phase, Propose, Accept, Pending, Proposer, listed}
use Rattle.proposer_rules.specs.Rules.{Outcome, outcome, pending_at, replace_at, sender_tests, on_promise, on_acceptance}
use Rattle.proposer_place.specs.declared.front.Phase as Code
use Rattle.proposer_place.specs.declared.front.Front.{Front}
use Rattle.proposer_place.specs.Area.{place_image, read_pending, distinct, promise_fits, sizes_fit, answers_fit, pending_fits, places_fit, ballots_of, may_be_lent}
use Rattle.proposer_place.specs.AreaLaws.{Lawful, LawfulPlace, read_pending_lem}
use Rattle.proposer_place.specs.Front.{phase_of, front_of}
use Rattle.proposer_area.specs.Places.{place_of}
use Rattle.proposer_area.specs.PlacesLaws.{FoundAt, find_some, find_none}
use Rattle.proposer_area.specs.HeldLaws.{place_image_lem, lawful_at, lawful_pending}
use Rattle.proposer_area.specs.State.{state, pending, HasPending}
use Rattle.proposer_area.specs.declared.area.Area.{Area}
use Rattle.proposer_works.specs.Works.{MayAsk, WorkedOn}
use Rattle.proposer_works.specs.Answerers.{or_false, room_for_one}

-- ---- silence

pub stays : (a : Area) (w : List ℕ) (o : Outcome) → o ≡ outcome (state a) nothing → WorkedOn a w o Answer.Nothing a w
stays a w o e =
    record { worked = rw e record { answer = refl; area = a.held.image; written = refl }; lent = refl; places = refl }

-- ---- the request at place i, which a search for its ballot has found

module _ (a : Area) (i : ℕ) (ballot : Ballot) (ei : i ≡ place_of ballot (state a).places) (within : i < a.places) where
  found : FoundAt ballot (state a).places i
  found = find_some ballot (state a).places i (sym ei) (rw a.held.lawful.full within)

  found_lawful : Lawful found.pending
  found_lawful = subst (λ (q : Option Pending). LawfulPlace q) found.there (lawful_at a.bytes.now a.places a.held i)

  same_pending : pending a i ≡ found.pending
  same_pending = ap read_pending (place_image_lem a.bytes.now a.places a.held i within ∙ ap place_image found.there) ∙ read_pending_lem found.pending found_lawful

  pub found_pends : HasPending a i
  found_pends = record { within = within; used = found.there ∙ ap Some (sym same_pending) }

  pub found_only : pending_at ballot (state a).places ≡ Some (pending a i)
  found_only = found.only ∙ ap Some (sym same_pending)

  pub found_replaced : (q : Option Pending) → replace_at (pending a i).ballot q (state a).places ≡ set (state a).places i q
  found_replaced q = rw same_pending (found.replaced q)

-- ---- a sender that may answer

none_not_some : {A : Type 0} {x : A} → None ≡ Some x → ⊥
none_not_some e = let z : ◌≡◌ {A = ℕ} 0 1 = cc in omega arith

some_same : {p q : Pending} → Some p ≡ Some q → p ≡ q
some_same e = cc

-- what fits in every place fits in place i
place_fits_lem : (c : ℕ) (l : List (Option Pending)) (i : ℕ) (p : Pending) → places_fit c l ≡ true → get_or l i None ≡ Some p → pending_fits c p ≡ true
unfolding places_fit
place_fits_lem c [] i p fits e = absurd (none_not_some e)
place_fits_lem c (None ∷ l) zero p fits e = absurd (none_not_some e)
place_fits_lem c (None ∷ l) (suc i) p fits e = place_fits_lem c l i p fits e
place_fits_lem c (Some q ∷ l) zero p fits e = rw (← some_same e) (and_true (pending_fits c q) (places_fit c l) fits).0
place_fits_lem c (Some q ∷ l) (suc i) p fits e = place_fits_lem c l i p (and_true (pending_fits c q) (places_fit c l) fits).1 e

answers_fit_lem : (s : Proposer) (i : ℕ) (p : Pending) → may_be_lent s ≡ true → get_or s.places i None ≡ Some p → answers_fit p ≡ true
unfolding may_be_lent pending_fits
answers_fit_lem s i p lent e =
    let lists = list_fits s.accept_acceptors && list_fits s.propose_acceptors in
    let places = places_fit s.counter s.places in
    let toBallots = and_true (lists && places) (distinct (ballots_of s.places)) lent in
    let fits = place_fits_lem s.counter s.places i p (and_true lists places toBallots.0).1 e in
    let sizes = sizes_fit p in
    let answers = answers_fit p in
    let promise = promise_fits p.promised p.value in
    let low = leb 1 p.ballot.0 in
    let toHigh = and_true (sizes && answers && promise && low) (leb p.ballot.0 s.counter) fits in
    let toLow = and_true (sizes && answers && promise) low toHigh.0 in
    let toPromise = and_true (sizes && answers) promise toLow.0 in
    (and_true sizes answers toPromise.0).1

-- ---- the tests of a sender

sender_clear : (p : Pending) (from : Address) → first_due (sender_tests p from) ≡ None → ((listed from.0 p.acks_from || listed from.0 p.nacks_from) ≡ false) × (listed from.0 p.waiting_for ≡ true)
sender_clear p from e = go (listed from.0 p.acks_from || listed from.0 p.nacks_from) (listed from.0 p.waiting_for) e
  where
    go : (t u : Bool) → pick_first t Refusal.Repeated (pick_first (not u) Refusal.NotWaitedFor None) ≡ None → (t ≡ false) × (u ≡ true)
    go true u e = absurd (none_not_some (sym e))
    go false true e = (refl, refl)
    go false false e = absurd (none_not_some (sym e))

-- refusals 6 and 7, and what is due where neither is
abbrev pub sender_or : Pending → Address → Option Refusal → Option Refusal
sender_or p from rest =
    pick_first (listed from.0 p.acks_from || listed from.0 p.nacks_from) Refusal.Repeated
    (pick_first (not (listed from.0 p.waiting_for)) Refusal.NotWaitedFor rest)

pub sender_due : (p : Pending) (from : Address) (rest : Option Refusal) (r : Refusal) → first_due (sender_tests p from) ≡ Some r → sender_or p from rest ≡ Some r
sender_due p from rest r e = go (listed from.0 p.acks_from || listed from.0 p.nacks_from) (not (listed from.0 p.waiting_for)) e
  where
    go : (t u : Bool) → pick_first t Refusal.Repeated (pick_first u Refusal.NotWaitedFor None) ≡ Some r → pick_first t Refusal.Repeated (pick_first u Refusal.NotWaitedFor rest) ≡ Some r
    go true u e = e
    go false true e = e
    go false false e = absurd (none_not_some e)

pub sender_passes : (p : Pending) (from : Address) (rest : Option Refusal) → first_due (sender_tests p from) ≡ None → sender_or p from rest ≡ rest
sender_passes p from rest e = rw ((sender_clear p from e).0, (sender_clear p from e).1)

-- place i as the works need it, once its sender is seen to be waited for and not to have answered
pub may_answer : (a : Area) (i : ℕ) (ballot : Ballot) (from : Address) → may_be_lent (state a) ≡ true → i ≡ place_of ballot (state a).places → i < a.places → first_due (sender_tests (pending a i) from) ≡ None → MayAsk a i
may_answer a i ballot from lent ei within passed =
    let p = pending a i in
    let pends = found_pends a i ballot ei within in
    let clear = sender_clear p from passed in
    let apart = or_false (listed from.0 p.acks_from) (listed from.0 p.nacks_from) clear.0 in
    let room = room_for_one p from.0 (answers_fit_lem (state a) i p lent pends.used) (lawful_pending a.bytes.now a.places a.held i pends).waited.short apart.0 apart.1 clear.1 in
    record { pends = pends; there = found_replaced a i ballot ei within; more_yeses = room.0; more_noes = room.1 }

-- ---- the phase of the request at place i

module _ (a : Area) (i : ℕ) (f : Front) (ef : f ≡ front_of (pending a i)) where
  pub second_phase_lem : f.phase ≡ Code.Phase.Accept → (pending a i).phase ≡ Accept
  unfolding front_of
  second_phase_lem e = by (pending a i).phase (sym (ap (λ (g : Front). g.phase) ef) ∙ e)
    where
      by : (h : Phase) → phase_of h ≡ Code.Phase.Accept → h ≡ Accept
      by Propose d = let z : ◌≡◌ {A = ℕ} 0 1 = cc in absurd (omega arith)
      by Accept d = refl

  pub first_phase_lem : f.phase ≡ Code.Phase.Propose → (pending a i).phase ≡ Propose
  unfolding front_of
  first_phase_lem e = by (pending a i).phase (sym (ap (λ (g : Front). g.phase) ef) ∙ e)
    where
      by : (h : Phase) → phase_of h ≡ Code.Phase.Propose → h ≡ Propose
      by Propose d = refl
      by Accept d = let z : ◌≡◌ {A = ℕ} 0 1 = cc in absurd (omega arith)

-- ---- a message whose request isn't pending: silence

module _ (a : Area) (w : List ℕ) (ballot : Ballot) (from : Address) (none : place_of ballot (state a).places ≡ a.places) where
  none_pending : pending_at ballot (state a).places ≡ None
  none_pending = find_none ballot (state a).places (none ∙ sym a.held.lawful.full)

  pub silent_promise : (b : Ballot) (v : Option Value) (res : Verdict) → WorkedOn a w (on_promise (state a) (pending_at ballot (state a).places) from b v res) Answer.Nothing a w
  silent_promise b v res = stays a w _ (rw none_pending)

  pub silent_acceptance : (res : Verdict) → WorkedOn a w (on_acceptance (state a) (pending_at ballot (state a).places) from res) Answer.Nothing a w
  silent_acceptance res = stays a w _ (rw none_pending)
