-- What every message and tick makes of a state that may be lent: a state that may be lent, with a counter that has not fallen. So refusal 2 never comes of the proposer's own work.
-- Assumes nothing.
use Rattle.std.specs.Prelude.{◌≡◌, refl, Bool, true, not, cond, ◌&&◌, ◌||◌, ℕ, zero, suc, ◌+◌, ◌^◌, ◌≤◌, ◌<◌, eqb, leb, length, get_or}
use Rattle.std.proofs.Common.{sym, subst, ◌∙◌, length-append}
use Rattle.std.proofs.Math.Path.{ap}
use Rattle.std.proofs.Math.Bool.{false}
use mathlib.Core.List.{List, [], ◌∷◌, ◌++◌}
use Rattle.std.specs.Prelude.{Option, None, Some}
use native.Mathlib.Omega.{arith}
use borrow.Author.Tests.{ne_eqb, leb-true, leb-false, le-leb, ltb-true, not-false}
use Rattle.proposer_area.specs.Turns.{Sized, sized_of}
use Rattle.leaf_fields.specs.Fields.{same, Bytes}
use Rattle.leaf_fields.specs.Laws.{and_true}
use Rattle.messages.specs.declared.Address.{Address}
use Rattle.messages.specs.declared.Ballot.{Ballot}
use Rattle.messages.specs.declared.answer.Answer.{Answer}
use Rattle.messages.specs.declared.answer.Refusal.{Refusal}
use Rattle.messages.specs.Ballots.{above}
use Rattle.messages.specs.Message.{Value, Request, Failure, Verdict, Reply, Message}
use Rattle.messages.specs.Limits.{value_most, list_most, option_fits, request_fits, list_fits, none_zero, result_fits, message_fits, within_limits}
use Rattle.messages.specs.Refusals.{test, pick_first, first_due}
use Rattle.messages.specs.Answers.{Told, nothing, one, each, timeouts, refused, bytes_of}
use Rattle.messages.specs.Fit.{short_value}
use Rattle.proposer_rules.specs.State.{Phase, Propose, Accept, Pending, Proposer, key_of, listed, new_pending, with_no, with_yes, second_phase}
use Rattle.proposer_rules.specs.Rules.{Outcome, outcome, unless, moved, to_each, to_client, proposals, applied, reply_of, raised, next_ballot, used_up, counter_most, reached, asked, promised_by, to_accept, with_lists, is_ballot, pick_pending, pending_at, replace_at, take_place, request_tests, on_request, rejected, granted, promise_tests, promise_work, in_first, on_promise, turned_down, taken, first_phase, foreign_acceptance, acceptance_tests, acceptance_work, on_acceptance, message_tests, foreign, work, receive, clock_back, late, in_time, late_ones, rows_of, all_timeouts, tick}
use Rattle.proposer_place.specs.Area.{first_value, second_value, distinct, all_listed, promise_fits, sizes_fit, answers_fit, pending_fits, places_fit, ballots_of, may_be_lent, area_image, read_area, sized, is_image}
use Rattle.proposer_place.specs.AreaRows.{Entries}
use Rattle.proposer_place.specs.AreaLaws.{Short, Lawful, LawfulPlace, LawfulPlaces, LawfulState, image_is}
use Rattle.proposer_place.specs.AreaRead.{short_request, lawful_read, image_lent}
use Rattle.proposer_place.specs.PlaceLaws.{lawful_new, lawful_no, lawful_yes, lawful_second, lawful_again}
use Rattle.proposer.specs.Contract.{area_tests, outcome_on, tick_on, area_after, Done}
use Rattle.proposer_works.specs.Answerers.{or_false, room_for_one}
use Rattle.proposer_lists.specs.ListLaws.{list_short}
use Rattle.proposer.specs.PlacesFit.{yes_fits, no_fits, place_fits, places_higher, places_replaced, places_taken, ballots_low, ballots_kept, distinct_dropped, distinct_fresh, distinct_taken, places_in_time, distinct-in_time}

-- ---- what a message can be, by the types of the code: numbers of 64 bits, addresses of 16, values of bytes

abbrev pub TypedFailure : Failure → Type 0
TypedFailure (Failure.ProposalRejected last) = last.0 < 2 ^ 64
TypedFailure (Failure.AcceptRejected last) = last.0 < 2 ^ 64
TypedFailure (Failure.CasFailed v) = Unit
TypedFailure Failure.Timeout = Unit

abbrev pub TypedResult : Verdict → Type 0
TypedResult Verdict.Granted = Unit
TypedResult (Verdict.Denied e) = TypedFailure e

abbrev pub TypedMessage : Message → Type 0
TypedMessage (Message.ClientRequest id r) = (id < 2 ^ 64) × (Bytes (key_of r)) × (Bytes (bytes_of (first_value r))) × (Bytes (bytes_of (second_value r)))
TypedMessage (Message.ClientResponse id r) = Unit
TypedMessage (Message.SetAcceptAcceptors l) = Entries l
TypedMessage (Message.SetProposeAcceptors l) = Entries l
TypedMessage (Message.ProposeReq b k) = Unit
TypedMessage (Message.ProposeRes b a v res) = (a.0 < 2 ^ 64) × (Bytes (bytes_of v)) × (TypedResult res)
TypedMessage (Message.AcceptReq b k v) = Unit
TypedMessage (Message.AcceptRes b res) = TypedResult res

-- ---- the statement

-- a state that fits its fields and may be lent
pub record Lendable (s : Proposer) (n : ℕ) : Type 0 where
  pub lawful : LawfulState s n
  pub lent : may_be_lent s ≡ true

-- and one that a call may leave after it: "the counter never falls"
pub record Next (s s' : Proposer) (n : ℕ) : Type 0 where
  pub lendable : Lendable s' n
  pub counter : s.counter ≤ s'.counter

stays : (s : Proposer) (n : ℕ) → Lendable s n → Next s s n
stays s n ok = record { lendable = ok; counter = omega arith }

-- ---- the parts of a state that may be lent

record Parts (s : Proposer) : Type 0 where
  accept : list_fits s.accept_acceptors ≡ true
  propose : list_fits s.propose_acceptors ≡ true
  places : places_fit s.counter s.places ≡ true
  ballots : distinct (ballots_of s.places) ≡ true

parts_of : (s : Proposer) → may_be_lent s ≡ true → Parts s
unfolding may_be_lent
parts_of s h =
    let a = list_fits s.accept_acceptors in
    let b = list_fits s.propose_acceptors in
    let c = places_fit s.counter s.places in
    let toBallots = and_true (a && b && c) (distinct (ballots_of s.places)) h in
    let toPlaces = and_true (a && b) c toBallots.0 in
    let lists = and_true a b toPlaces.0 in
    record { accept = lists.0; propose = lists.1; places = toPlaces.1; ballots = toBallots.1 }

lent_of : (s : Proposer) → Parts s → may_be_lent s ≡ true
unfolding may_be_lent
lent_of s parts = rw (parts.accept, parts.propose, parts.places, parts.ballots)

-- another counter and other places
moved_next : (s : Proposer) (n c : ℕ) (l : List (Option Pending)) → Lendable s n → s.counter ≤ c → c < 2 ^ 64 → length l ≡ n → LawfulPlaces l → places_fit c l ≡ true → distinct (ballots_of l) ≡ true → Next s (moved s c l) n
moved_next s n c l ok up most full lawful-all fits apart =
    let parts = parts_of s ok.lent in
    record {
      lendable = record {
        lawful = record { counter_fits = most; timeout_fits = ok.lawful.timeout_fits; accept = ok.lawful.accept; propose = ok.lawful.propose; full = full; each = lawful-all };
        lent = lent_of (moved s c l) (record { accept = parts.accept; propose = parts.propose; places = fits; ballots = apart });
      };
      counter = up;
    }

-- ---- places

length_replaced : (b : Ballot) (q : Option Pending) (l : List (Option Pending)) → length (replace_at b q l) ≡ length l
unfolding replace_at
length_replaced b q [] = refl
length_replaced b q (None ∷ l) = ap suc (length_replaced b q l)
length_replaced b q (Some p ∷ l) = go (is_ballot b p) (length_replaced b q l)
  where
    go : (t : Bool) → length (replace_at b q l) ≡ length l → length (cond t (q ∷ l) (Some p ∷ replace_at b q l)) ≡ suc (length l)
    go true h = refl
    go false h = ap suc h

lawful_cons : (q : Option Pending) (l : List (Option Pending)) → LawfulPlace q → LawfulPlaces l → LawfulPlaces (q ∷ l)
unfolding LawfulPlaces
lawful_cons q l hq hl = λ i. elim i as (λ z. LawfulPlace (get_or (q ∷ l) z None)) [ zero ↦ hq | suc j ↦ hl j ]

lawful_tail : (q : Option Pending) (l : List (Option Pending)) → LawfulPlaces (q ∷ l) → LawfulPlaces l
unfolding LawfulPlaces
lawful_tail q l h = λ i. h (suc i)

lawful_head : (q : Option Pending) (l : List (Option Pending)) → LawfulPlaces (q ∷ l) → LawfulPlace q
unfolding LawfulPlaces
lawful_head q l h = h 0

lawful_replaced : (b : Ballot) (q : Option Pending) (l : List (Option Pending)) → LawfulPlace q → LawfulPlaces l → LawfulPlaces (replace_at b q l)
unfolding replace_at
lawful_replaced b q [] hq h = h
lawful_replaced b q (None ∷ l) hq h = lawful_cons None (replace_at b q l) tt (lawful_replaced b q l hq (lawful_tail None l h))
lawful_replaced b q (Some p ∷ l) hq h =
    go (is_ballot b p) (lawful_cons q l hq (lawful_tail (Some p) l h)) (lawful_cons (Some p) (replace_at b q l) (lawful_head (Some p) l h) (lawful_replaced b q l hq (lawful_tail (Some p) l h)))
  where
    go : (t : Bool) → LawfulPlaces (q ∷ l) → LawfulPlaces (Some p ∷ replace_at b q l) → LawfulPlaces (cond t (q ∷ l) (Some p ∷ replace_at b q l))
    go true x y = x
    go false x y = y

length_taken : (p : Pending) (l : List (Option Pending)) → length (take_place p l) ≡ length l
unfolding take_place
length_taken p [] = refl
length_taken p (None ∷ l) = refl
length_taken p (Some q ∷ l) = ap suc (length_taken p l)

lawful_taken : (p : Pending) (l : List (Option Pending)) → Lawful p → LawfulPlaces l → LawfulPlaces (take_place p l)
unfolding take_place
lawful_taken p [] hp h = h
lawful_taken p (None ∷ l) hp h = lawful_cons (Some p) l hp (lawful_tail None l h)
lawful_taken p (Some q ∷ l) hp h = lawful_cons (Some q) (take_place p l) (lawful_head (Some q) l h) (lawful_taken p l hp (lawful_tail (Some q) l h))

length-in_time : (s : Proposer) (t : ℕ) (l : List (Option Pending)) → length (in_time s t l) ≡ length l
unfolding in_time
length-in_time s t [] = refl
length-in_time s t (q ∷ l) = ap suc (length-in_time s t l)

lawful_in_time : (s : Proposer) (t : ℕ) (l : List (Option Pending)) → LawfulPlaces l → LawfulPlaces (in_time s t l)
unfolding in_time
lawful_in_time s t [] h = h
lawful_in_time s t (None ∷ l) h = lawful_cons None (in_time s t l) tt (lawful_in_time s t l (lawful_tail None l h))
lawful_in_time s t (Some p ∷ l) h = go (late s t p) (lawful_head (Some p) l h) (lawful_in_time s t l (lawful_tail (Some p) l h))
  where
    go : (z : Bool) → Lawful p → LawfulPlaces (in_time s t l) → LawfulPlaces (cond z None (Some p) ∷ in_time s t l)
    go true hp hl = lawful_cons None (in_time s t l) tt hl
    go false hp hl = lawful_cons (Some p) (in_time s t l) hp hl

-- the request at a ballot
found_holds : (c : ℕ) (b : Ballot) (l : List (Option Pending)) (p : Pending) → LawfulPlaces l → places_fit c l ≡ true → pending_at b l ≡ Some p → Lawful p × (pending_fits c p ≡ true)
unfolding pending_at places_fit
found_holds c b [] p h fits e = let z : ◌≡◌ {A = ℕ} 0 1 = cc in absurd (omega arith)
found_holds c b (None ∷ l) p h fits e = found_holds c b l p (lawful_tail None l h) fits e
found_holds c b (Some q ∷ l) p h fits e =
    let parts = and_true (pending_fits c q) (places_fit c l) fits in
    go (is_ballot b q) e (lawful_head (Some q) l h) parts.0 (λ d. found_holds c b l p (lawful_tail (Some q) l h) parts.1 d)
  where
    same : Some q ≡ Some p → q ≡ p
    same d = cc

    go : (t : Bool) → pick_pending t q (pending_at b l) ≡ Some p → Lawful q → pending_fits c q ≡ true → (pending_at b l ≡ Some p → Lawful p × (pending_fits c p ≡ true)) → Lawful p × (pending_fits c p ≡ true)
    go true d hq hf rest = (subst Lawful (same d) hq, subst (λ (x : Pending). pending_fits c x ≡ true) (same d) hf)
    go false d hq hf rest = rest d

-- ---- a request that fits

pub record Fit (c : ℕ) (p : Pending) : Type 0 where
  client : not (eqb p.client.0 0) ≡ true
  request : request_fits p.req ≡ true
  value : option_fits p.value ≡ true
  waited : list_fits p.waiting_for ≡ true
  yeses : leb (length p.acks_from) list_most ≡ true
  noes : leb (length p.nacks_from) list_most ≡ true
  answers : answers_fit p ≡ true
  promise : promise_fits p.promised p.value ≡ true
  low : leb 1 p.ballot.0 ≡ true
  high : leb p.ballot.0 c ≡ true

fit_of : (c : ℕ) (p : Pending) → pending_fits c p ≡ true → Fit c p
unfolding pending_fits sizes_fit
fit_of c p h =
    let client = not (eqb p.client.0 0) in
    let req = request_fits p.req in
    let val = option_fits p.value in
    let waiting = list_fits p.waiting_for in
    let yeses = leb (length p.acks_from) list_most in
    let noes = leb (length p.nacks_from) list_most in
    let sizes = client && req && val && waiting && yeses && noes in
    let promise = promise_fits p.promised p.value in
    let low = leb 1 p.ballot.0 in
    let toHigh = and_true (sizes && answers_fit p && promise && low) (leb p.ballot.0 c) h in
    let toLow = and_true (sizes && answers_fit p && promise) low toHigh.0 in
    let toPromise = and_true (sizes && answers_fit p) promise toLow.0 in
    let toAnswers = and_true sizes (answers_fit p) toPromise.0 in
    let toNoes = and_true (client && req && val && waiting && yeses) noes toAnswers.0 in
    let toYeses = and_true (client && req && val && waiting) yeses toNoes.0 in
    let toWaiting = and_true (client && req && val) waiting toYeses.0 in
    let toVal = and_true (client && req) val toWaiting.0 in
    let toReq = and_true client req toVal.0 in
    record {
      client = toReq.0;
      request = toReq.1;
      value = toVal.1;
      waited = toWaiting.1;
      yeses = toYeses.1;
      noes = toNoes.1;
      answers = toAnswers.1;
      promise = toPromise.1;
      low = toLow.1;
      high = toHigh.1;
    }

fit_is : (c : ℕ) (p : Pending) → Fit c p → pending_fits c p ≡ true
unfolding pending_fits sizes_fit
fit_is c p f = rw (f.client, f.request, f.value, f.waited, f.yeses, f.noes, f.answers, f.promise, f.low, f.high)

higher : (c c' x : ℕ) → c ≤ c' → leb x c ≡ true → leb x c' ≡ true
higher c c' x h e = le-leb x c' (omega (arith, h, leb-true x c e))

one_longer : (l : List ℕ) (x : ℕ) → length l < list_most → leb (length (l ++ (x ∷ []))) list_most ≡ true
one_longer l x room = le-leb (length (l ++ (x ∷ []))) list_most (omega (arith, length-append l (x ∷ []), room))

-- ---- and fits after an answer of one who may answer

pub record MayAnswer (p : Pending) (from : Address) : Type 0 where
  no_yes : listed from.0 p.acks_from ≡ false
  no_no : listed from.0 p.nacks_from ≡ false
  there : listed from.0 p.waiting_for ≡ true

module _ (c c' : ℕ) (p : Pending) (from : Address) (up : c ≤ c') (fit : Fit c p) (may : MayAnswer p from) where
  pub room : (length p.acks_from < list_most) × (length p.nacks_from < list_most)
  unfolding list_fits
  room =
      room_for_one p from.0 fit.answers (leb-true (length p.waiting_for) list_most (and_true (leb (length p.waiting_for) list_most) (none_zero p.waiting_for) fit.waited).0)
      may.no_yes may.no_no may.there

  no_fit : Fit c' (with_no p from)
  unfolding answers_fit
  no_fit =
      record {
        client = fit.client;
        request = fit.request;
        value = fit.value;
        waited = fit.waited;
        yeses = fit.yeses;
        noes = one_longer p.nacks_from from.0 room.1;
        answers = no_fits p.acks_from p.nacks_from p.waiting_for from.0 fit.answers may.no_yes may.no_no may.there;
        promise = fit.promise;
        low = fit.low;
        high = higher c c' p.ballot.0 up fit.high;
      }

  yes_fit : (b : Ballot) (v : Option Value) → option_fits v ≡ true → promise_fits b v ≡ true → Fit c' (with_yes p from b v)
  unfolding answers_fit
  yes_fit b v short promise =
      record {
        client = fit.client;
        request = fit.request;
        value = short;
        waited = fit.waited;
        yeses = one_longer p.acks_from from.0 room.0;
        noes = fit.noes;
        answers = yes_fits p.acks_from p.nacks_from p.waiting_for from.0 fit.answers may.no_yes may.no_no may.there;
        promise = promise;
        low = fit.low;
        high = higher c c' p.ballot.0 up fit.high;
      }

-- a promise above another is no ballot 0
promise_above_lem : (b q : Ballot) (v : Option Value) → above b q ≡ true → promise_fits b v ≡ true
promise_above_lem b q None h = refl
promise_above_lem b q (Some v) h = rw (ne_eqb b.0 0 (λ e. omega (arith, ltb-true q.0 b.0 h, e)))

second_fit : (c : ℕ) (p : Pending) (l : List ℕ) → Fit c p → list_fits l ≡ true → Fit c (second_phase l p)
unfolding answers_fit all_listed distinct
second_fit c p l fit fits =
    record {
      client = fit.client;
      request = fit.request;
      value = fit.value;
      waited = fits;
      yeses = refl;
      noes = refl;
      answers = refl;
      promise = fit.promise;
      low = fit.low;
      high = fit.high;
    }

new_fit : (c : ℕ) (client : Address) (id : ℕ) (r : Request) (l : List ℕ) (at : ℕ) (again : Bool) → not (eqb client.0 0) ≡ true → request_fits r ≡ true → list_fits l ≡ true → Fit (c + 1) (new_pending client id r (next_ballot c) l at again)
unfolding answers_fit all_listed distinct
new_fit c client id r l at again from-there fits list =
    record {
      client = from-there;
      request = fits;
      value = refl;
      waited = list;
      yeses = refl;
      noes = refl;
      answers = refl;
      promise = refl;
      low = le-leb 1 (c + 1) (omega arith);
      high = le-leb (c + 1) (c + 1) (omega arith);
    }

-- ---- tests

-- a test that is not due, and the ones behind it
pub none_due : (t : Bool) (r : Refusal) (rest : Option Refusal) → pick_first t r rest ≡ None → (t ≡ false) × (rest ≡ None)
none_due true r rest e = let z : ◌≡◌ {A = ℕ} 0 1 = cc in absurd (omega arith)
none_due false r rest e = (refl, e)

-- a refusal leaves the state
unless_next : (s : Proposer) (n : ℕ) (t : Option Refusal) (o : Outcome) → Lendable s n → (t ≡ None → Next s o.state n) → Next s (unless t s o).state n
unless_next s n None o ok h = h refl
unless_next s n (Some r) o ok h = stays s n ok

cond_next : (s : Proposer) (n : ℕ) (t : Bool) (o o' : Outcome) → (t ≡ true → Next s o.state n) → (t ≡ false → Next s o'.state n) → Next s (cond t o o').state n
cond_next s n true o o' h h' = h refl
cond_next s n false o o' h h' = h' refl

-- ---- the works on a pending request

module _ (s : Proposer) (n : ℕ) (ok : Lendable s n) (p : Pending) (lawful : Lawful p) (fit : Fit s.counter p) where
  parts : Parts s
  parts = parts_of s ok.lent

  -- other content of its place: a request with its ballot, nothing, or a request at a new ballot
  replaced_next : (c : ℕ) (q : Option Pending) → s.counter ≤ c → c < 2 ^ 64 → LawfulPlace q → place_fits c q ≡ true → distinct (ballots_of (replace_at p.ballot q s.places)) ≡ true → Next s (moved s c (replace_at p.ballot q s.places)) n
  replaced_next c q up most hq fits apart =
      moved_next s n c (replace_at p.ballot q s.places) ok up most (length_replaced p.ballot q s.places ∙ ok.lawful.full)
      (lawful_replaced p.ballot q s.places hq ok.lawful.each)
      (places_replaced c p.ballot q s.places fits (places_higher s.counter c s.places up parts.places)) apart

  same_next : (c : ℕ) (q : Pending) → s.counter ≤ c → c < 2 ^ 64 → Lawful q → Fit c q → q.ballot ≡ p.ballot → Next s (moved s c (replace_at p.ballot (Some q) s.places)) n
  same_next c q up most hq fits e =
      replaced_next c (Some q) up most hq (fit_is c q fits) (ap distinct (ballots_kept p.ballot q s.places e) ∙ parts.ballots)

  dropped_next : (c : ℕ) → s.counter ≤ c → c < 2 ^ 64 → Next s (moved s c (replace_at p.ballot None s.places)) n
  dropped_next c up most = replaced_next c None up most tt refl (distinct_dropped p.ballot s.places parts.ballots)

  fresh_next : (c : ℕ) (q : Pending) → s.counter ≤ c → c + 1 < 2 ^ 64 → Lawful q → Fit (c + 1) q → q.ballot.0 ≡ c + 1 → Next s (moved s (c + 1) (replace_at p.ballot (Some q) s.places)) n
  fresh_next c q up most hq fits e =
      replaced_next (c + 1) (Some q) (omega (arith, up)) most hq (fit_is (c + 1) q fits)
      (distinct_fresh p.ballot q s.places parts.ballots
      (ap (λ (x : ℕ). listed x (ballots_of s.places)) e ∙ ballots_low c (c + 1) s.places (places_higher s.counter c s.places up parts.places) (omega arith)))

  counter_most_lem : s.counter < 2 ^ 64
  counter_most_lem = ok.lawful.counter_fits

  raised_up : (last : Ballot) → s.counter ≤ raised s.counter last
  raised_up last = omega arith

  raised_most : (last : Ballot) → last.0 < 2 ^ 64 → raised s.counter last < 2 ^ 64
  raised_most last h = omega (arith, h, counter_most_lem)

  module _ (from : Address) (from-fits : from.0 < 2 ^ 16) (may : MayAnswer p from) where
    rooms : (length p.acks_from < list_most) × (length p.nacks_from < list_most)
    rooms = room s.counter s.counter p from (omega arith) fit may

    -- a request with a yes noted, in either phase
    granted_next : (q : Pending) → Lawful q → Fit s.counter q → q.ballot ≡ p.ballot → Next s (granted s q).state n
    granted_next q hq fits e =
        subst (λ (b : Ballot). Next s (cond (reached q.acks_from q.waiting_for) (outcome (moved s s.counter (replace_at b (Some (to_accept s q)) s.places)) (to_each s.accept_acceptors (Message.AcceptReq q.ballot (key_of q.req) (applied q.req q.value).value))) (outcome (moved s s.counter (replace_at b (Some q) s.places)) nothing)).state n) (sym e)
        (cond_next s n (reached q.acks_from q.waiting_for) _ _
        (λ t. same_next s.counter (to_accept s q) (omega arith) counter_most_lem (lawful_second q hq s.accept_acceptors ok.lawful.accept) (second_fit s.counter q s.accept_acceptors fits parts.accept) e)
        (λ t. same_next s.counter q (omega arith) counter_most_lem hq fits e))

    promised_next : (b : Ballot) (v : Option Value) → b.0 < 2 ^ 64 → Short value_most (bytes_of v) → option_fits v ≡ true → Next s (granted s (promised_by p from b v)).state n
    promised_next b v high short fits = go (above b p.promised) (λ h. promise_above_lem b p.promised v h)
      where
        go : (t : Bool) → (t ≡ true → promise_fits b v ≡ true) → Next s (granted s (cond t (with_yes p from b v) (with_yes p from p.promised p.value))).state n
        go true h =
            granted_next (with_yes p from b v) (lawful_yes p lawful from b v from-fits rooms.0 high short)
            (yes_fit s.counter s.counter p from (omega arith) fit may b v fits (h refl)) refl
        go false h =
            granted_next (with_yes p from p.promised p.value) (lawful_yes p lawful from p.promised p.value from-fits rooms.0 lawful.promised_fits lawful.promised)
            (yes_fit s.counter s.counter p from (omega arith) fit may p.promised p.value fit.value fit.promise) refl

    no_next : (c : ℕ) → s.counter ≤ c → c < 2 ^ 64 → Next s (moved s c (replace_at p.ballot (Some (with_no p from)) s.places)) n
    no_next c up most = same_next c (with_no p from) up most (lawful_no p lawful from from-fits rooms.1) (no_fit s.counter c p from up fit may) refl

    rejected_next : (last : Ballot) → last.0 < 2 ^ 64 → (reached (with_no p from).nacks_from p.waiting_for && not p.retried && used_up (raised s.counter last)) ≡ false → Next s (rejected s p from last).state n
    rejected_next last high due =
        let c = raised s.counter last in
        let up = raised_up last in
        let most = raised_most last high in
        cond_next s n (reached (with_no p from).nacks_from p.waiting_for) _ (outcome (moved s c (replace_at p.ballot (Some (with_no p from)) s.places)) nothing)
        (λ t. cond_next s n p.retried (outcome (moved s c (replace_at p.ballot None s.places)) (to_client p (Reply.Failed (Failure.ProposalRejected last))))
        (outcome (moved s (c + 1) (replace_at p.ballot (Some (asked s c p.client p.id p.req p.received_at true)) s.places)) (proposals s c p.req))
        (λ again. dropped_next c up most)
        (λ first.
        let left : used_up c ≡ false = rw (t, first) at due in
        let next : c + 1 < 2 ^ 64 = omega (arith, leb-false counter_most c left) in
        fresh_next c (asked s c p.client p.id p.req p.received_at true) up next
        (lawful_again p lawful (next_ballot c) s.propose_acceptors next ok.lawful.propose)
        (new_fit c p.client p.id p.req s.propose_acceptors p.received_at true fit.client fit.request parts.propose) refl))
        (λ f. no_next c up most)

    taken_next : Next s (taken s (with_yes p from p.promised p.value)).state n
    taken_next =
        let q = with_yes p from p.promised p.value in
        cond_next s n (reached q.acks_from q.waiting_for) (outcome (moved s s.counter (replace_at p.ballot None s.places)) (to_client q (reply_of q.req q.value)))
        (outcome (moved s s.counter (replace_at p.ballot (Some q) s.places)) nothing)
        (λ t. dropped_next s.counter (omega arith) counter_most_lem)
        (λ t. same_next s.counter q (omega arith) counter_most_lem (lawful_yes p lawful from p.promised p.value from-fits rooms.0 lawful.promised_fits lawful.promised)
        (yes_fit s.counter s.counter p from (omega arith) fit may p.promised p.value fit.value fit.promise) refl)

    turned_next : (last : Ballot) → last.0 < 2 ^ 64 → Next s (turned_down s p from last).state n
    turned_next last high =
        let c = raised s.counter last in
        cond_next s n (reached (with_no p from).nacks_from p.waiting_for) (outcome (moved s c (replace_at p.ballot None s.places)) (to_client p (Reply.Failed (Failure.AcceptRejected last))))
        (outcome (moved s c (replace_at p.ballot (Some (with_no p from)) s.places)) nothing)
        (λ t. dropped_next c (raised_up last) (raised_most last high))
        (λ t. no_next c (raised_up last) (raised_most last high))

-- ---- answers

module _ (s : Proposer) (n : ℕ) (ok : Lendable s n) (from : Address) (from-fits : from.0 < 2 ^ 16) where
  pub sender_may : (p : Pending) (rest : Option Refusal) → pick_first (listed from.0 p.acks_from || listed from.0 p.nacks_from) Refusal.Repeated (pick_first (not (listed from.0 p.waiting_for)) Refusal.NotWaitedFor rest) ≡ None → MayAnswer p from × (rest ≡ None)
  sender_may p rest e =
      let first = none_due (listed from.0 p.acks_from || listed from.0 p.nacks_from) Refusal.Repeated _ e in
      let second = none_due (not (listed from.0 p.waiting_for)) Refusal.NotWaitedFor rest first.1 in
      let neither = or_false (listed from.0 p.acks_from) (listed from.0 p.nacks_from) first.0 in
      (record { no_yes = neither.0; no_no = neither.1; there = not-false _ second.0 }, second.1)

  promise_work_next : (p : Pending) (lawful : Lawful p) (fit : Fit s.counter p) (b : Ballot) (v : Option Value) (res : Verdict) → b.0 < 2 ^ 64 → Short value_most (bytes_of v) → option_fits v ≡ true → TypedResult res → first_due (promise_tests s p from res) ≡ None → Next s (promise_work s p from b v res).state n
  promise_work_next p lawful fit b v Verdict.Granted high short fits typed due = promised_next s n ok p lawful fit from from-fits (sender_may p _ due).0 b v high short fits
  promise_work_next p lawful fit b v (Verdict.Denied (Failure.ProposalRejected last)) high short fits typed due =
      let sender = sender_may p _ due in
      rejected_next s n ok p lawful fit from from-fits sender.0 last typed (none_due _ Refusal.CounterUsedUp None sender.1).0
  promise_work_next p lawful fit b v (Verdict.Denied (Failure.AcceptRejected last)) high short fits typed due = stays s n ok
  promise_work_next p lawful fit b v (Verdict.Denied (Failure.CasFailed w)) high short fits typed due = stays s n ok
  promise_work_next p lawful fit b v (Verdict.Denied Failure.Timeout) high short fits typed due = stays s n ok

  acceptance_work_next : (p : Pending) (lawful : Lawful p) (fit : Fit s.counter p) (res : Verdict) → TypedResult res → MayAnswer p from → Next s (acceptance_work s p from res).state n
  acceptance_work_next p lawful fit Verdict.Granted typed may = taken_next s n ok p lawful fit from from-fits may
  acceptance_work_next p lawful fit (Verdict.Denied (Failure.ProposalRejected last)) typed may = stays s n ok
  acceptance_work_next p lawful fit (Verdict.Denied (Failure.AcceptRejected last)) typed may = turned_next s n ok p lawful fit from from-fits may last typed
  acceptance_work_next p lawful fit (Verdict.Denied (Failure.CasFailed w)) typed may = stays s n ok
  acceptance_work_next p lawful fit (Verdict.Denied Failure.Timeout) typed may = stays s n ok

  -- the pending request that an answer is for
  pub pending_holds : (ballot : Ballot) (p : Pending) → pending_at ballot s.places ≡ Some p → Lawful p × Fit s.counter p
  pending_holds ballot p e =
      let found = found_holds s.counter ballot s.places p ok.lawful.each (parts_of s ok.lent).places e in
      (found.0, fit_of s.counter p found.1)

  promise_next : (ballot : Ballot) (o : Option Pending) → pending_at ballot s.places ≡ o → (b : Ballot) (v : Option Value) (res : Verdict) → b.0 < 2 ^ 64 → Short value_most (bytes_of v) → option_fits v ≡ true → TypedResult res → Next s (on_promise s o from b v res).state n
  promise_next ballot None e b v res high short fits typed = stays s n ok
  promise_next ballot (Some p) e b v res high short fits typed = by p.phase
    where
      by : (h : Phase) → Next s (in_first s p h from b v res).state n
      by Accept = stays s n ok
      by Propose =
          let holds = pending_holds ballot p e in
          unless_next s n (first_due (promise_tests s p from res)) (promise_work s p from b v res) ok
          (λ due. promise_work_next p holds.0 holds.1 b v res high short fits typed due)

  acceptance_next : (ballot : Ballot) (o : Option Pending) → pending_at ballot s.places ≡ o → (res : Verdict) → TypedResult res → Next s (on_acceptance s o from res).state n
  acceptance_next ballot None e res typed = stays s n ok
  acceptance_next ballot (Some p) e res typed =
      let holds = pending_holds ballot p e in
      unless_next s n (first_due (acceptance_tests p from res)) (acceptance_work s p from res) ok
      (λ due. acceptance_work_next p holds.0 holds.1 res typed (sender_may p (pick_first (foreign_acceptance res) Refusal.ForeignError None) (none_due (first_phase p.phase) Refusal.FirstPhase _ due).1).0)

-- ---- a message

module _ (s : Proposer) (n : ℕ) (ok : Lendable s n) (from : Address) (at : ℕ) (from-fits : from.0 < 2 ^ 16) (at-fits : at < 2 ^ 64) where
  request_next : (id : ℕ) (r : Request) → TypedMessage (Message.ClientRequest id r) → within_limits from (Message.ClientRequest id r) ≡ true → Next s (on_request s from at id r).state n
  unfolding within_limits
  request_next id r typed limits =
      let c = s.counter in
      let p = asked s c from id r at false in
      let sizes = and_true (not (eqb from.0 0)) (request_fits r) limits in
      let short = short_request r sizes.1 in
      let fits_all = parts_of s ok.lent in
      unless_next s n (first_due (request_tests s)) (outcome (moved s (c + 1) (take_place p s.places)) (proposals s c r)) ok
      (λ due.
      let left = (none_due (used_up c) Refusal.CounterUsedUp _ due).0 in
      let next : c + 1 < 2 ^ 64 = omega (arith, leb-false counter_most c left) in
      let up : c ≤ c + 1 = omega arith in
      let fits : Fit (c + 1) p = new_fit c from id r s.propose_acceptors at false sizes.0 sizes.1 fits_all.propose in
      moved_next s n (c + 1) (take_place p s.places) ok up next (length_taken p s.places ∙ ok.lawful.full)
      (lawful_taken p s.places
      (lawful_new from id r (next_ballot c) s.propose_acceptors at false from-fits typed.0
      (record { key = record { short = short.0; bytes = typed.1 }; first = record { short = short.1; bytes = typed.2 }; second = record { short = short.2; bytes = typed.3 } })
      next ok.lawful.propose at-fits) ok.lawful.each)
      (places_taken (c + 1) p s.places (fit_is (c + 1) p fits) (places_higher c (c + 1) s.places up fits_all.places))
      (distinct_taken p s.places fits_all.ballots (ballots_low c (c + 1) s.places fits_all.places (omega arith))))

  accept_next : (l : List ℕ) → Entries l → list_fits l ≡ true → Next s (with_lists s l s.propose_acceptors) n
  accept_next l typed fits =
      let fits_all = parts_of s ok.lent in
      record {
        lendable = record {
          lawful = record { counter_fits = ok.lawful.counter_fits; timeout_fits = ok.lawful.timeout_fits; accept = record { short = list_short l fits; fit = typed }; propose = ok.lawful.propose; full = ok.lawful.full; each = ok.lawful.each };
          lent = lent_of (with_lists s l s.propose_acceptors) (record { accept = fits; propose = fits_all.propose; places = fits_all.places; ballots = fits_all.ballots });
        };
        counter = omega arith;
      }

  propose_next : (l : List ℕ) → Entries l → list_fits l ≡ true → Next s (with_lists s s.accept_acceptors l) n
  propose_next l typed fits =
      let fits_all = parts_of s ok.lent in
      record {
        lendable = record {
          lawful = record { counter_fits = ok.lawful.counter_fits; timeout_fits = ok.lawful.timeout_fits; accept = ok.lawful.accept; propose = record { short = list_short l fits; fit = typed }; full = ok.lawful.full; each = ok.lawful.each };
          lent = lent_of (with_lists s s.accept_acceptors l) (record { accept = fits_all.accept; propose = fits; places = fits_all.places; ballots = fits_all.ballots });
        };
        counter = omega arith;
      }

  -- what is within the limits, kind by kind
  pub within : (m : Message) → within_limits from m ≡ true → message_fits m ≡ true
  unfolding within_limits
  within m h = (and_true (not (eqb from.0 0)) (message_fits m) h).1

  work_next : (m : Message) → TypedMessage m → within_limits from m ≡ true → Next s (work s from at m).state n
  work_next (Message.ClientRequest id r) typed limits = request_next id r typed limits
  work_next (Message.ClientResponse id r) typed limits = stays s n ok
  work_next (Message.SetAcceptAcceptors l) typed limits = accept_next l typed (within (Message.SetAcceptAcceptors l) limits)
  work_next (Message.SetProposeAcceptors l) typed limits = propose_next l typed (within (Message.SetProposeAcceptors l) limits)
  work_next (Message.ProposeReq b k) typed limits = stays s n ok
  work_next (Message.ProposeRes b a v res) typed limits =
      let fits = (and_true (option_fits v) (result_fits res) (within (Message.ProposeRes b a v res) limits)).0 in
      promise_next s n ok from from-fits b (pending_at b s.places) refl a v res typed.0 (record { short = short_value v fits; bytes = typed.1 }) fits typed.2
  work_next (Message.AcceptReq b k v) typed limits = stays s n ok
  work_next (Message.AcceptRes b res) typed limits = acceptance_next s n ok from from-fits b (pending_at b s.places) refl res typed

  -- every message takes a state that may be lent to one that may be lent, and the counter never falls
  pub message_next : (m : Message) → TypedMessage m → Next s (receive s from at m).state n
  unfolding receive
  message_next m typed =
      unless_next s n (first_due (message_tests from m)) (work s from at m) ok
      (λ due. work_next m typed (not-false _ (none_due (not (within_limits from m)) Refusal.OverLimit None (none_due (foreign m) Refusal.WrongKind _ due).1).0))

-- and so does every tick
pub tick_next : (s : Proposer) (n t : ℕ) → Lendable s n → Next s (tick s t).state n
unfolding tick
tick_next s n t ok =
    let fits_all = parts_of s ok.lent in
    unless_next s n (first_due (test (clock_back t s.places) Refusal.ClockBack ∷ [])) (outcome (moved s s.counter (in_time s t s.places)) (all_timeouts (rows_of (late_ones s t s.places)))) ok
    (λ due. moved_next s n s.counter (in_time s t s.places) ok (omega arith) ok.lawful.counter_fits (length-in_time s t s.places ∙ ok.lawful.full)
    (lawful_in_time s t s.places ok.lawful.each) (places_in_time s t s.counter s.places fits_all.places) (distinct-in_time s t s.places fits_all.ballots))

-- ---- on areas

-- so an area that is an image is one again after a call, and refusal 2 never comes of the proposer's own work
module _ (a w : List ℕ) (n : ℕ) (bytes : Bytes a) (image : is_image a n ≡ true) where
  size : Sized a n
  unfolding is_image
  size = sized_of a n (and_true (sized a n) _ (and_true (sized a n && same a (area_image (read_area a n))) (may_be_lent (read_area a n)) image).0).0

  pub lendable_read : Lendable (read_area a n) n
  lendable_read = record { lawful = lawful_read a n bytes (image_lent a n image); lent = image_lent a n image }

  image_next : (s' : Proposer) → Next (read_area a n) s' n → (t : Told) → is_image (area_after a t s') n ≡ true
  image_next s' next (refused r) = image
  image_next s' next nothing = image_is s' n next.lendable.lawful size.least size.most next.lendable.lent
  image_next s' next (one to m) = image_is s' n next.lendable.lawful size.least size.most next.lendable.lent
  image_next s' next (each l m) = image_is s' n next.lendable.lawful size.least size.most next.lendable.lent
  image_next s' next (timeouts rs) = image_is s' n next.lendable.lawful size.least size.most next.lendable.lent

  pub received_image : (from : Address) (at : ℕ) (m : Message) (r : Answer) (a' w' : List ℕ) → from.0 < 2 ^ 16 → at < 2 ^ 64 → TypedMessage m → Done a w (outcome_on a n w from at m) r a' w' → is_image a' n ≡ true
  unfolding outcome_on
  received_image from at m r a' w' from-fits at-fits typed done =
      ap (λ (u : List ℕ). is_image u n) done.area
      ∙ image_next (outcome_on a n w from at m).state
      (unless_next (read_area a n) n (first_due (area_tests a n w)) (receive (read_area a n) from at m) lendable_read (λ due. message_next (read_area a n) n lendable_read from at from-fits at-fits m typed))
      (outcome_on a n w from at m).told

  pub ticked_image : (t : ℕ) (r : Answer) (a' w' : List ℕ) → Done a w (tick_on a n w t) r a' w' → is_image a' n ≡ true
  unfolding tick_on
  ticked_image t r a' w' done =
      ap (λ (u : List ℕ). is_image u n) done.area
      ∙ image_next (tick_on a n w t).state
      (unless_next (read_area a n) n (first_due (area_tests a n w)) (tick (read_area a n) t) lendable_read (λ due. tick_next (read_area a n) n t lendable_read))
      (tick_on a n w t).told
