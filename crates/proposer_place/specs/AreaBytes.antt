-- The image of a lawful state is a row of bytes, as an area is.
-- Assumes nothing.
use Rattle.std.specs.Prelude.{Bool, true, false, List, [], ◌∷◌, ◌++◌, ℕ, suc, ◌-◌, ◌<◌, length, replicate}
use Rattle.std.specs.Prelude.{Option, None, Some}
use Rattle.std.proofs.Common.{arith, lit<}
use Rattle.leaf_fields.specs.Fields.{to_le, Bytes, padded}
use Rattle.messages.specs.Message.{Value, Request}
use Rattle.messages.specs.Limits.{key_most, value_most}
use Rattle.messages.specs.Answers.{bytes_of, entry_bytes}
use Rattle.proposer_rules.specs.State.{Phase, Propose, Accept, Pending, Proposer, key_of}
use Rattle.leaf_fields.specs.Rows.{bytes_none, bytes_front, bytes_append, bytes_zeros, bytes_to_le}
use Rattle.proposer_place.specs.Area.{list_bytes, place_bytes, values_bytes, first_value, second_value, kind_byte, phase_byte, flag_byte, mark_byte, list_row, place_front, values_of, place_values, place_rest, place_image, places_image, header_front, area_image}
use Rattle.proposer_place.specs.AreaLaws.{Lawful, LawfulPlace, LawfulPlaces, LawfulState}

-- ---- rows of bytes

pub bytes_padded : (n : ℕ) (l : List ℕ) → Bytes l → Bytes (padded n l)
unfolding padded
bytes_padded n l h = bytes_append l (replicate (n - length l) 0) h (bytes_zeros (n - length l))

pub bytes_entries : (l : List ℕ) → Bytes (entry_bytes l)
unfolding entry_bytes
bytes_entries [] = bytes_none
bytes_entries (x ∷ l) = bytes_append (to_le 2 x) (entry_bytes l) (bytes_to_le 2 x) (bytes_entries l)

pub bytes_list : (l : List ℕ) → Bytes (list_row l)
unfolding list_row
bytes_list l = bytes_padded list_bytes (entry_bytes l) (bytes_entries l)

-- ---- the single bytes of a place

phase_small : (h : Phase) → phase_byte h < 256
phase_small Propose = lit< tt
phase_small Accept = lit< tt

flag_small : (r : Bool) → flag_byte r < 256
flag_small true = lit< tt
flag_small false = lit< tt

mark_small : (v : Option Value) → mark_byte v < 256
mark_small None = lit< tt
mark_small (Some v) = lit< tt

kind_small : (r : Request) → kind_byte r < 256
kind_small (Request.Get k) = lit< tt
kind_small (Request.Del k) = lit< tt
kind_small (Request.Set k v) = lit< tt
kind_small (Request.Cas k old new) = lit< tt

-- a number in its bytes, before a row
bytes_number : (w x : ℕ) (l : List ℕ) → Bytes l → Bytes (to_le w x ++ l)
bytes_number w x l h = bytes_append (to_le w x) l (bytes_to_le w x) h

-- ---- a place

module _ (p : Pending) (ok : Lawful p) where
  bytes_counts : Bytes (length p.waiting_for ∷ length p.acks_from ∷ length p.nacks_from ∷ 0 ∷ [])
  bytes_counts =
      bytes_front _ _ (omega (arith, ok.waited.short)) (bytes_front _ _ (omega (arith, ok.yeses.short)) (bytes_front _ _ (omega (arith, ok.noes.short))
      (bytes_front _ _ (lit< tt) bytes_none)))

  bytes_place_front : Bytes (place_front p)
  unfolding place_front
  bytes_place_front =
      bytes_front _ _ (lit< tt) (bytes_front _ _ (phase_small p.phase) (bytes_front _ _ (flag_small p.retried) (bytes_front _ _ (kind_small p.req)
      (bytes_front _ _ (omega (arith, ok.key.short)) (bytes_front _ _ (mark_small (first_value p.req)) (bytes_front _ _ (mark_small (second_value p.req))
      (bytes_front _ _ (mark_small p.value)
      (bytes_number 2 p.client.0 _ (bytes_number 2 (length (bytes_of (first_value p.req))) _ (bytes_number 2 (length (bytes_of (second_value p.req))) _
      (bytes_number 2 (length (bytes_of p.value)) _ (bytes_number 8 p.id _ (bytes_number 8 p.ballot.0 _ (bytes_number 8 p.promised.0 _
      (bytes_number 8 p.received_at _ bytes_counts)))))))))))))))

  bytes_place_values : Bytes (place_values p)
  unfolding place_values
  bytes_place_values =
      bytes_append _ _ (bytes_padded key_most (key_of p.req) ok.key.bytes)
      (bytes_append _ _ (bytes_padded values_bytes (values_of p.req) (bytes_append _ _ ok.first.bytes ok.second.bytes))
      (bytes_padded value_most (bytes_of p.value) ok.promised.bytes))

  bytes_place_rest : Bytes (place_rest p)
  unfolding place_rest
  bytes_place_rest =
      bytes_append _ _ (bytes_list p.waiting_for) (bytes_append _ _ (bytes_list p.acks_from) (bytes_append _ _ (bytes_list p.nacks_from)
      (bytes_front _ _ (lit< tt) (bytes_front _ _ (lit< tt) bytes_place_values))))

pub bytes_place : (q : Option Pending) → LawfulPlace q → Bytes (place_image q)
unfolding place_image
bytes_place None ok = bytes_zeros place_bytes
bytes_place (Some p) ok = bytes_append (place_front p) (place_rest p) (bytes_place_front p ok) (bytes_place_rest p ok)

pub bytes_places : (l : List (Option Pending)) → LawfulPlaces l → Bytes (places_image l)
unfolding places_image LawfulPlaces
bytes_places [] ok = bytes_none
bytes_places (q ∷ l) ok = bytes_append (place_image q) (places_image l) (bytes_place q (ok 0)) (bytes_places l (λ i. ok (suc i)))

-- ---- the area

pub bytes_area : (s : Proposer) (n : ℕ) → LawfulState s n → Bytes (area_image s)
unfolding area_image header_front
bytes_area s n ok =
    bytes_append (header_front s) _
    (bytes_number 8 s.counter _ (bytes_number 8 s.timeout _ (bytes_front _ _ (omega (arith, ok.accept.short)) (bytes_front _ _ (omega (arith, ok.propose.short))
    (bytes_front _ _ (lit< tt) (bytes_front _ _ (lit< tt) bytes_none))))))
    (bytes_append _ _ (bytes_list s.accept_acceptors) (bytes_append _ _ (bytes_list s.propose_acceptors) (bytes_places s.places ok.each)))
