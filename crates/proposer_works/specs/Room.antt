-- Room for what the works lend and store: a place and the lists within the area, the rows within a place, and the sent entries within the
-- answer area.
-- Assumes nothing.
use Rattle.std.specs.Prelude.{◌≡◌, List, ℕ, ◌+◌, ◌-◌, ◌*◌, ◌≤◌, length, take, drop}
use Rattle.std.proofs.Common.{ap, ◌∙◌, arith}
use Rattle.leaf_fields.specs.Laws.{length-part}
use Rattle.messages.specs.Message.{Key, Value}
use Rattle.messages.specs.Limits.{key_most, value_most, list_most}
use Rattle.proposer_place.specs.declared.front.Front.{Front}
use Rattle.proposer_place.specs.Area.{place_bytes, read_pending}
use Rattle.proposer_place.specs.AreaLaws.{Lawful}
use Rattle.proposer_place.specs.Front.{front_of, Used}
use Rattle.proposer_rules.specs.State.{key_of}
use Rattle.proposer_area.specs.Turns.{sized_of}
use Rattle.proposer_area.specs.declared.Header.{Header}
use Rattle.proposer_area.specs.Places.{place_at, place_in, header_in}
use Rattle.proposer_area.specs.Held.{Held, Pends}
use Rattle.proposer_area.specs.HeldLaws.{place_room, used_place, lawful_pending, propose_short}
use Rattle.proposer_works.specs.Works.{answer_bytes}
use Rattle.proposer_works.specs.Sent.{sent_in, sent_length}

-- ---- the area

pub held_header : (a : List ℕ) (n : ℕ) → Held a n → 80 + 976 ≤ length a
held_header a n held = omega (arith, (sized_of a n held.sized).bytes, (sized_of a n held.sized).least)

pub held_room : (a : List ℕ) (n i : ℕ) → Held a n → Pends a n i → place_at i + place_bytes ≤ length a
held_room a n i held pends = place_room a n i held.sized pends.within

pub held_used : (a : List ℕ) (n i : ℕ) → Held a n → Pends a n i → Used (place_in a i)
held_used a n i held pends = used_place a n held i pends

-- ---- the lists

pub propose_few : (a : List ℕ) (n : ℕ) (h : Header) → Held a n → h ≡ header_in a → h.propose ≤ list_most
propose_few a n h held eh = rw eh (propose_short a n held)

-- ---- what a front says of a pending request

module _ (b : List ℕ) (f : Front) (used : Used b) (ef : f ≡ front_of (read_pending b)) where
  lawful : Lawful (read_pending b)
  lawful = used.lawful

  pub key_few : f.key_len ≤ key_most
  unfolding front_of
  key_few = omega (arith, ap (λ (g : Front). g.key_len) ef, lawful.key.short)

  pub first_few : f.first_len ≤ value_most
  unfolding front_of
  first_few = omega (arith, ap (λ (g : Front). g.first_len) ef, lawful.first.short)

  pub second_few : f.second_len ≤ value_most
  unfolding front_of
  second_few = omega (arith, ap (λ (g : Front). g.second_len) ef, lawful.second.short)

  pub promised_few : f.value_len ≤ value_most
  unfolding front_of
  promised_few = omega (arith, ap (λ (g : Front). g.value_len) ef, lawful.promised.short)

  pub waited_few : f.waiting_for ≤ list_most
  unfolding front_of
  waited_few = omega (arith, ap (λ (g : Front). g.waiting_for) ef, lawful.waited.short)

  pub yeses_few : f.acks_from ≤ list_most
  unfolding front_of
  yeses_few = omega (arith, ap (λ (g : Front). g.acks_from) ef, lawful.yeses.short)

  pub noes_few : f.nacks_from ≤ list_most
  unfolding front_of
  noes_few = omega (arith, ap (λ (g : Front). g.nacks_from) ef, lawful.noes.short)

pub key_short : (a : List ℕ) (n i : ℕ) → Held a n → Pends a n i → length (key_of (read_pending (place_in a i)).req) ≤ key_most
key_short a n i held pends = (lawful_pending a n held i pends).key.short

-- ---- the sent entries

pub entries_end : (w w₁ : List ℕ) (v : Value) (k : Key) (l : List ℕ) (n m : ℕ) → length w ≡ answer_bytes n → w₁ ≡ sent_in w v k l → m ≤ list_most → 320 + 2 * m ≤ length w₁
entries_end w w₁ v k l n m size e few = rw (ap length e ∙ sent_length w v k l) (omega (arith, size, few))

pub entries_sent : (w w₁ : List ℕ) (v : Value) (k : Key) (l : List ℕ) (n m : ℕ) → length w ≡ answer_bytes n → w₁ ≡ sent_in w v k l → m ≤ list_most → length (take (320 + 2 * m - 320) (drop 320 w₁)) ≡ 2 * m
entries_sent w w₁ v k l n m size e few =
    let lent : 320 + 2 * m - 320 ≡ 2 * m = omega arith in
    rw lent (length-part w₁ 320 (2 * m) (entries_end w w₁ v k l n m size e few))
