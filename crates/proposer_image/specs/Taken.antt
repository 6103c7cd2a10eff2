-- The tests of a pending request by the struct that was taken out of its place.
-- Assumes nothing.
use Rattle.std.specs.Prelude.{◌≡◌, refl, true, false, not, ◌&&◌, ◌||◌, is_some, List, ℕ, ◌≤◌, eqb, leb, length}
use Rattle.std.proofs.Common.{sym, ◌∙◌, leb-true}
use Rattle.std.proofs.Math.Bool as Booleans
use Rattle.std.specs.Prelude.{Option, None, Some}
use Rattle.leaf_fields.specs.Laws.{and_true}
use Rattle.messages.specs.Message.{Value, Request}
use Rattle.messages.specs.Limits.{key_most, value_most, list_most, option_fits, request_fits, none_zero, list_fits}
use Rattle.messages.specs.declared.Ballot.{Ballot}
use Rattle.messages.specs.Answers.{marked, bytes_of, entries}
use Rattle.proposer_rules.specs.State.{Pending, key_of}
use Rattle.proposer_place.specs.declared.front.Front.{Front}
use Rattle.proposer_place.specs.Front.{front_of}
use Rattle.proposer_place.specs.Area.{waited_at, yes_at, no_at, first_value, second_value, read_pending, promise_fits, sizes_fit, answers_fit, distinct}
use Rattle.proposer_place.specs.Rows.{entries-length}
use Rattle.proposer_image.specs.Good.{TakenFrom, each_listed}
use Rattle.proposer_image.specs.Lists.{each_listed_lem, all_listed_append, distinct_append}

-- ---- the lists

module _ (b : List ℕ) (f : Front) (taken : TakenFrom b f) where
  pub waited_taken : (read_pending b).waiting_for ≡ entries b waited_at f.waiting_for
  unfolding read_pending front_of
  waited_taken = rw (taken.front, entries-length)

  pub yes_taken : (read_pending b).acks_from ≡ entries b yes_at f.acks_from
  unfolding read_pending front_of
  yes_taken = rw (taken.front, entries-length)

  pub no_taken : (read_pending b).nacks_from ≡ entries b no_at f.nacks_from
  unfolding read_pending front_of
  no_taken = rw (taken.front, entries-length)

-- ---- the sizes

option_fits_lem : (v : Option Value) → option_fits v ≡ leb (length (bytes_of v)) value_most
option_fits_lem None = refl
option_fits_lem (Some v) = refl

request_fits_lem : (r : Request) → request_fits r ≡ (leb (length (key_of r)) key_most && leb (length (bytes_of (first_value r))) value_most && leb (length (bytes_of (second_value r))) value_most)
request_fits_lem (Request.Get k) = simp Booleans.and-true
request_fits_lem (Request.Del k) = simp Booleans.and-true
request_fits_lem (Request.Set k v) = simp Booleans.and-true
request_fits_lem (Request.Cas k old new) = rw (option_fits_lem old, option_fits_lem new)

sizes_by_front : (p : Pending) (f : Front) → f ≡ front_of p → sizes_fit p ≡ (not (eqb f.client.0 0) && (leb f.key_len key_most && leb f.first_len value_most && leb f.second_len value_most) && leb f.value_len value_most && (leb f.waiting_for list_most && none_zero p.waiting_for) && leb f.acks_from list_most && leb f.nacks_from list_most)
unfolding sizes_fit list_fits front_of
sizes_by_front p f e = rw (e, request_fits_lem p.req, option_fits_lem p.value)

pub sizes_taken : (b : List ℕ) (f : Front) → TakenFrom b f → sizes_fit (read_pending b) ≡ (not (eqb f.client.0 0) && (leb f.key_len key_most && leb f.first_len value_most && leb f.second_len value_most) && leb f.value_len value_most && (leb f.waiting_for list_most && none_zero (entries b waited_at f.waiting_for)) && leb f.acks_from list_most && leb f.nacks_from list_most)
sizes_taken b f taken = sizes_by_front (read_pending b) f taken.front ∙ rw (waited_taken b f taken)

-- ---- the answers

pub answers_taken : (b : List ℕ) (f : Front) → TakenFrom b f → answers_fit (read_pending b) ≡ ((each_listed true (entries b yes_at f.acks_from) (entries b waited_at f.waiting_for) && each_listed true (entries b no_at f.nacks_from) (entries b waited_at f.waiting_for)) && (distinct (entries b yes_at f.acks_from) && distinct (entries b no_at f.nacks_from) && each_listed false (entries b yes_at f.acks_from) (entries b no_at f.nacks_from)))
unfolding answers_fit
answers_taken b f taken = rw (waited_taken b f taken, yes_taken b f taken, no_taken b f taken, all_listed_append, each_listed_lem, each_listed_lem, distinct_append)

-- ---- the promise

by_mark : (p : Ballot) (v : Option Value) → promise_fits p v ≡ (not (is_some (marked v)) || not (eqb p.0 0))
by_mark p None = refl
by_mark p (Some v) = refl

pub promise_taken : (b : List ℕ) (f : Front) → TakenFrom b f → promise_fits (read_pending b).promised (read_pending b).value ≡ (not (is_some f.mark) || not (eqb f.promised.0 0))
unfolding front_of
promise_taken b f taken = by_mark (read_pending b).promised (read_pending b).value ∙ rw taken.front refl

-- what sizes that fit say
pub record ShortFront (f : Front) : Type 0 where
  pub key : f.key_len ≤ key_most
  pub first : f.first_len ≤ value_most
  pub second : f.second_len ≤ value_most
  pub waited : f.waiting_for ≤ list_most
  pub yeses : f.acks_from ≤ list_most
  pub noes : f.nacks_from ≤ list_most

pub short_taken : (b : List ℕ) (f : Front) → TakenFrom b f → sizes_fit (read_pending b) ≡ true → ShortFront f
short_taken b f taken fit =
    let client = not (eqb f.client.0 0) in
    let key = leb f.key_len key_most in
    let first = leb f.first_len value_most in
    let second = leb f.second_len value_most in
    let value = leb f.value_len value_most in
    let few = leb f.waiting_for list_most in
    let waited = few && none_zero (entries b waited_at f.waiting_for) in
    let yes = leb f.acks_from list_most in
    let no = leb f.nacks_from list_most in
    let toNo = and_true (client && (key && first && second) && value && waited && yes) no (sym (sizes_taken b f taken) ∙ fit) in
    let toYes = and_true (client && (key && first && second) && value && waited) yes toNo.0 in
    let toWaited = and_true (client && (key && first && second) && value) waited toYes.0 in
    let toValue = and_true (client && (key && first && second)) value toWaited.0 in
    let toRequest = and_true client (key && first && second) toValue.0 in
    let toSecond = and_true (key && first) second toRequest.1 in
    let toFirst = and_true key first toSecond.0 in
    record {
      key = leb-true f.key_len key_most toFirst.0;
      first = leb-true f.first_len value_most toFirst.1;
      second = leb-true f.second_len value_most toSecond.1;
      waited = leb-true f.waiting_for list_most (and_true few (none_zero (entries b waited_at f.waiting_for)) toWaited.1).0;
      yeses = leb-true f.acks_from list_most toYes.1;
      noes = leb-true f.nacks_from list_most toNo.1;
    }
