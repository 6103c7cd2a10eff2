-- The rows of a pending request, as they are lent out of its place: its key, its values and the promised value, and the new value by them.
-- Assumes nothing.
use Rattle.std.specs.Prelude.{◌≡◌, List, ℕ, ◌+◌, ◌-◌, ◌≤◌, length, take, drop, Some}
use Rattle.std.proofs.Math.Path.{ap}
use Rattle.std.proofs.Common.{◌∙◌, length-append}
use native.Mathlib.Omega.{arith}
use Rattle.leaf_fields.specs.Fields.{part}
use Rattle.messages.specs.Message.{given}
use Rattle.messages.specs.Limits.{value_most}
use Rattle.messages.specs.Answers.{bytes_of, entries}
use Rattle.proposer_rules.specs.State.{Pending, key_of}
use Rattle.proposer_rules.specs.Rules.{applied, request_in}
use Rattle.proposer_place.specs.declared.front.Front.{Front}
use Rattle.proposer_place.specs.Area.{waited_at, yes_at, no_at, key_start, values_at, promised_value_at, first_value, second_value, values_of, place_image, read_pending}
use Rattle.proposer_place.specs.AreaLaws.{Lawful}
use Rattle.proposer_place.specs.Front.{Used, front_of}
use Rattle.proposer_place.specs.Rows.{entries-length}
use Rattle.proposer_place.specs.PlaceLaws.{key_part, values_part, promised_part}
use Rattle.proposer_area.specs.Places.{place_in}
use Rattle.proposer_area.specs.Held.{Held, Pends}
use Rattle.proposer_area.specs.HeldLaws.{lawful_pending}
use Rattle.proposer_works.specs.NewValue.{applied_in, applied_short}

module _ (b : List ℕ) (f : Front) (used : Used b) (ef : f ≡ front_of (read_pending b)) where
  abbrev p : Pending
  p = read_pending b

  image : b ≡ place_image (Some p)
  image = used.image

  lawful : Lawful p
  lawful = used.lawful

  pub key_is : take (144 + f.key_len - 144) (drop 144 b) ≡ key_of p.req
  unfolding front_of
  key_is =
      let e : 144 + f.key_len - 144 ≡ length (key_of p.req) = omega (arith, ap (λ (g : Front). g.key_len) ef) in
      ap (λ (k : ℕ). part b key_start k) e ∙ ap (λ (r : List ℕ). part r key_start (length (key_of p.req))) image ∙ key_part p lawful

  pub values_are : take (208 + f.first_len + f.second_len - 208) (drop 208 b) ≡ values_of p.req
  unfolding front_of
  values_are =
      let e : 208 + f.first_len + f.second_len - 208 ≡ length (values_of p.req) =
      omega (arith, ap (λ (g : Front). g.first_len) ef, ap (λ (g : Front). g.second_len) ef, length-append (bytes_of (first_value p.req)) (bytes_of (second_value p.req))) in
      ap (λ (k : ℕ). part b values_at k) e ∙ ap (λ (r : List ℕ). part r values_at (length (values_of p.req))) image ∙ values_part p lawful

  pub promised_is : take (720 + f.value_len - 720) (drop 720 b) ≡ bytes_of p.value
  unfolding front_of
  promised_is =
      let e : 720 + f.value_len - 720 ≡ length (bytes_of p.value) = omega (arith, ap (λ (g : Front). g.value_len) ef) in
      ap (λ (k : ℕ). part b promised_value_at k) e ∙ ap (λ (r : List ℕ). part r promised_value_at (length (bytes_of p.value))) image ∙ promised_part p lawful

  -- the new value by the bytes is the rules'
  pub applied_is : applied (request_in f.req (take (208 + f.first_len + f.second_len - 208) (drop 208 b)) f.first_len) (given f.mark (take (720 + f.value_len - 720) (drop 720 b))) ≡ applied p.req p.value
  unfolding front_of
  applied_is = rw (values_are, promised_is, ef) (applied_in p.req p.value)

  pub applied_fits : length (bytes_of (applied (request_in f.req (take (208 + f.first_len + f.second_len - 208) (drop 208 b)) f.first_len) (given f.mark (take (720 + f.value_len - 720) (drop 720 b)))).value) ≤ value_most
  applied_fits =
      rw applied_is (applied_short p.req p.value lawful.first.short lawful.second.short lawful.promised.short)

-- the lists of the place that the front has the lengths of
module _ (b : List ℕ) (f : Front) (ef : f ≡ front_of (read_pending b)) where
  pub waited_are : entries b waited_at f.waiting_for ≡ (read_pending b).waiting_for
  unfolding read_pending front_of
  waited_are = rw (ef, entries-length)

  pub yeses_are : entries b yes_at f.acks_from ≡ (read_pending b).acks_from
  unfolding read_pending front_of
  yeses_are = rw (ef, entries-length)

  pub noes_are : entries b no_at f.nacks_from ≡ (read_pending b).nacks_from
  unfolding read_pending front_of
  noes_are = rw (ef, entries-length)

-- the new value is short
pub new_short : (a : List ℕ) (n i : ℕ) → Held a n → Pends a n i → length (bytes_of (applied (read_pending (place_in a i)).req (read_pending (place_in a i)).value).value) ≤ value_most
new_short a n i held pends =
    let p = read_pending (place_in a i) in
    let lawful = lawful_pending a n held i pends in
    applied_short p.req p.value lawful.first.short lawful.second.short lawful.promised.short
