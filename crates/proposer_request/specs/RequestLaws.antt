-- A client's request: the refused ones, and the place, the counter and the proposals of a taken one.
-- Assumes nothing.
use Rattle.std.specs.Prelude.{◌≡◌, not, ℕ, ◌+◌, ◌-◌, ◌*◌, ◌^◌, ◌≤◌, ◌<◌, eqb, length, drop, set}
use Rattle.std.proofs.Math.Path.{refl, sym, ap}
use Rattle.std.proofs.Common.{◌∙◌, arith, le-leb}
use Rattle.std.proofs.Math.Bool.{true, false}
use mathlib.Core.List.{List, [], ◌++◌}
use Rattle.std.specs.Prelude.{Option, None, Some}
use Rattle.std.proofs.lemmas.Bool.{lt-leb}
use Rattle.std.proofs.Math.ListN.{take}
use Rattle.std.proofs.Math.Seq.{sets}
use Rattle.leaf_fields.specs.Fields.{to_le, byte, Bytes}
use Rattle.leaf_fields.specs.Laws.{and_true}
use Rattle.leaf_fields.specs.Rows.{bytes_none}
use Rattle.messages.specs.declared.Address.{Address}
use Rattle.messages.specs.declared.Req.{Req}
use Rattle.messages.specs.declared.Rpc.{Rpc}
use Rattle.messages.specs.declared.answer.Answer.{Answer}
use Rattle.messages.specs.declared.answer.Refusal.{Refusal}
use Rattle.messages.specs.Message.{Request, Message, request_of}
use Rattle.messages.specs.Limits.{key_most, value_most, request_fits, within_limits}
use Rattle.messages.specs.Refusals.{first_due}
use Rattle.messages.specs.Answers.{bytes_of, entry_bytes, request_rpc, rpc_of, sent_value, sent_key}
use Rattle.messages.specs.Fit.{marked-given}
use Rattle.messages.specs.declared.Ballot.{Ballot}
use Rattle.proposer_rules.specs.State.{Pending, Proposer, key_of, new_pending}
use Rattle.proposer_rules.specs.Rules.{used_up, no_place, counter_most, next_ballot, asked, request_tests, moved, on_request}
use Rattle.proposer_place.specs.declared.front.Phase as Code
use Rattle.proposer_place.specs.declared.front.Front.{Front}
use Rattle.proposer_place.specs.Area.{header_bytes, counter_at, first_value, second_value, list_row, place_values, place_rest, place_image, area_image, read_places, read_area}
use Rattle.proposer_place.specs.AreaLaws.{Lawful}
use Rattle.proposer_place.specs.AreaRows.{length_entries}
use Rattle.proposer_place.specs.AreaRead.{short_request}
use Rattle.proposer_place.specs.Front.{front_of, front_bytes, place_rows, Small}
use Rattle.proposer_place.specs.FrontLaws.{front_bytes_lem}
use Rattle.proposer_place.specs.PlaceLaws.{LawfulRequest, lawful_new, small_front}
use Rattle.proposer_area.specs.declared.Header.{Header}
use Rattle.proposer_area.specs.Places.{place_at, header_in, free_of}
use Rattle.proposer_area.specs.PlacesLaws.{free_some, free_none}
use Rattle.proposer_area.specs.Held.{Held}
use Rattle.proposer_area.specs.HeldLaws.{with_both, propose_count, place_held}
use Rattle.proposer_works.specs.Works.{answer_bytes, Worked}
use Rattle.proposer_works.specs.WorksLaws.{refused_work, due_none}
use Rattle.proposer_works.specs.Sent.{sent_in, told_in, sent_written, sent_told, sent_list}

-- ---- the parts of a request that is given by its enum

request_rpc_lem : (req : Req) (k v w : List ℕ) → request_rpc (request_of req k v w) ≡ req
request_rpc_lem Req.Get k v w = refl
request_rpc_lem Req.Del k v w = refl
request_rpc_lem Req.Set k v w = refl
request_rpc_lem (Req.Cas old new) k v w = rw (marked-given old v, marked-given new w)

request_key : (req : Req) (k v w : List ℕ) → key_of (request_of req k v w) ≡ k
request_key Req.Get k v w = refl
request_key Req.Del k v w = refl
request_key Req.Set k v w = refl
request_key (Req.Cas old new) k v w = refl

-- the front of a new request
pub new_front : (req : Req) (k v w first second : List ℕ) (from : Address) (id at n : ℕ) (b : Ballot) (f : Front) (l : List ℕ) → first ≡ bytes_of (first_value (request_of req k v w)) → second ≡ bytes_of (second_value (request_of req k v w)) → f ≡ record { phase = Code.Phase.Propose; retried = false; req = req; key_len = length k; first_len = length first; second_len = length second; mark = None; value_len = 0; client = from; id = id; ballot = b; promised = record { 0 = 0 }; received_at = at; waiting_for = n; acks_from = 0; nacks_from = 0 } → length l ≡ n → f ≡ front_of (new_pending from id (request_of req k v w) b l at false)
unfolding front_of
new_front req k v w first second from id at n b f l e1 e2 ef el =
    rw (ef, e1, e2, ← el, request_rpc_lem req k v w, request_key req k v w)

-- ---- a new place

-- a place whose rows are those of a request without answers and promises
pub new_image : (f : Front) (p : Pending) (waited key values : List ℕ) → f ≡ front_of p → waited ≡ entry_bytes p.waiting_for → p.acks_from ≡ [] → p.nacks_from ≡ [] → key ≡ key_of p.req → values ≡ bytes_of (first_value p.req) ++ bytes_of (second_value p.req) → p.value ≡ None → place_rows (front_bytes f) waited [] [] key values [] ≡ place_image (Some p)
unfolding place_rows place_image place_rest place_values list_row entry_bytes
new_image f p waited key values ef ew ea en ek ev ep = rw (ef, front_bytes_lem p, ew, ea, en, ek, ev, ep)

-- ---- refused

module _ (a w : List ℕ) (n : ℕ) (h : Header) (from : Address) (at id : ℕ) (rq : Request) (held : Held a n) (eh : h ≡ header_in a) where
  counter_there : h.counter ≡ (read_area a n).counter
  unfolding read_area
  counter_there = ap (λ (g : Header). g.counter) eh

  pub counter_refused : h.counter ≡ 18446744073709551615 → Worked w (on_request (read_area a n) from at id rq) (Answer.Refused Refusal.CounterUsedUp) a w
  counter_refused full =
      let up : used_up (read_area a n).counter ≡ true = le-leb counter_most (read_area a n).counter (omega (arith, full, counter_there)) in
      refused_work a w (read_area a n) (first_due (request_tests (read_area a n))) _ Refusal.CounterUsedUp held.image (rw up)

  not_used_up : h.counter < 2 ^ 64 → (h.counter ≡ 18446744073709551615 → ⊥) → used_up (read_area a n).counter ≡ false
  not_used_up most ne = lt-leb counter_most (read_area a n).counter (omega (arith, most, ne, counter_there))

  pub room_refused : (i : ℕ) → h.counter < 2 ^ 64 → (h.counter ≡ 18446744073709551615 → ⊥) → i ≡ free_of (read_places a header_bytes n) → i ≡ n → Worked w (on_request (read_area a n) from at id rq) (Answer.Refused Refusal.NoRoom) a w
  unfolding read_area
  room_refused i most ne ei en =
      let none_free : no_place (read_places a header_bytes n) ≡ true = free_none (read_places a header_bytes n) (sym ei ∙ en ∙ sym held.lawful.full) in
      refused_work a w (read_area a n) (first_due (request_tests (read_area a n))) _ Refusal.NoRoom held.image (rw (not_used_up most ne, none_free))

-- ---- taken

-- the parts of a request within the limits, as they stand in a place
module _ (from : Address) (id : ℕ) (req : Req) (k v w : List ℕ) (limits : within_limits from (Message.ClientRequest id (request_of req k v w)) ≡ true) where
  request_fits_lem : request_fits (request_of req k v w) ≡ true
  unfolding within_limits
  request_fits_lem = (and_true (not (eqb from.0 0)) (request_fits (request_of req k v w)) limits).1

  pub request_sizes : (length k ≤ key_most) × (length (bytes_of (first_value (request_of req k v w))) ≤ value_most) × (length (bytes_of (second_value (request_of req k v w))) ≤ value_most)
  request_sizes =
      let sizes = short_request (request_of req k v w) request_fits_lem in
      (rw (request_key req k v w) at sizes.0, sizes.1, sizes.2)

  bytes_first : (req : Req) → Bytes v → Bytes (bytes_of (first_value (request_of req k v w)))
  bytes_first Req.Get h = bytes_none
  bytes_first Req.Del h = bytes_none
  bytes_first Req.Set h = h
  bytes_first (Req.Cas None new) h = bytes_none
  bytes_first (Req.Cas (Some mark) new) h = h

  bytes_second : (req : Req) → Bytes w → Bytes (bytes_of (second_value (request_of req k v w)))
  bytes_second Req.Get h = bytes_none
  bytes_second Req.Del h = bytes_none
  bytes_second Req.Set h = bytes_none
  bytes_second (Req.Cas old None) h = bytes_none
  bytes_second (Req.Cas old (Some mark)) h = h

  lawful_request : Bytes k → Bytes v → Bytes w → LawfulRequest (request_of req k v w)
  lawful_request hk hv hw =
      record {
        key = record { short = rw (request_key req k v w) request_sizes.0; bytes = rw (request_key req k v w) hk };
        first = record { short = request_sizes.1; bytes = bytes_first req hv };
        second = record { short = request_sizes.2; bytes = bytes_second req hw };
      }

-- the place of a taken request, the counter and the proposals
module _ (a w : List ℕ) (n : ℕ) (h : Header) (from : Address) (at id : ℕ) (req : Req) (key value other : List ℕ) (held : Held a n) (size : length w ≡ answer_bytes n) (limits : within_limits from (Message.ClientRequest id (request_of req key value other)) ≡ true) (eh : h ≡ header_in a) where
  abbrev s : Proposer
  s = read_area a n

  abbrev rq : Request
  rq = request_of req key value other

  abbrev pending : Pending
  pending = asked s s.counter from id rq at false

  abbrev list : List ℕ
  list = entry_bytes s.propose_acceptors

  counter_here : h.counter ≡ s.counter
  counter_here = counter_there a w n h from at id rq held eh

  propose_here : h.propose ≡ length s.propose_acceptors
  propose_here = ap (λ (g : Header). g.propose) eh ∙ propose_count a n held

  -- the entries that were just sent are the waited-for list
  waited_here : take (320 + 2 * h.propose - 320) (drop 320 (sent_in w [] key list)) ≡ entry_bytes s.propose_acceptors
  waited_here =
      sent_list w [] key list h.propose (length_entries s.propose_acceptors ∙ ap (λ (k : ℕ). 2 * k) (sym propose_here))
      (omega (arith, propose_here, held.lawful.propose.short)) (omega (arith, size))

  lawful_here : ((j : ℕ) → byte key j < 256) → ((j : ℕ) → byte value j < 256) → ((j : ℕ) → byte other j < 256) → from.0 < 2 ^ 16 → id < 2 ^ 64 → at < 2 ^ 64 → s.counter + 1 < 2 ^ 64 → Lawful pending
  unfolding Bytes
  lawful_here hk hv ho hf hi ha hc =
      lawful_new from id rq (next_ballot s.counter) s.propose_acceptors at false hf hi (lawful_request from id req key value other limits hk hv ho) hc held.lawful.propose ha

  -- the counts of the new front fit a byte
  pub request_small : (f : Front) → ((j : ℕ) → byte key j < 256) → ((j : ℕ) → byte value j < 256) → ((j : ℕ) → byte other j < 256) → from.0 < 2 ^ 16 → id < 2 ^ 64 → at < 2 ^ 64 → h.counter < 2 ^ 64 → (h.counter ≡ 18446744073709551615 → ⊥) → ((l : List ℕ) → length l ≡ h.propose → f ≡ front_of (new_pending from id rq (record { 0 = h.counter + 1 }) l at false)) → Small f
  request_small f hk hv ho hf hi ha most ne ef =
      let front : f ≡ front_of pending = rw counter_here at (ef s.propose_acceptors (sym propose_here)) in
      rw front (small_front pending (lawful_here hk hv ho hf hi ha (omega (arith, most, ne, counter_here))))

  -- the area with the place taken may be held
  pub request_held : (i : ℕ) (first second : List ℕ) (f : Front) (w₁ a₁ : List ℕ) → ((j : ℕ) → byte key j < 256) → ((j : ℕ) → byte value j < 256) → ((j : ℕ) → byte other j < 256) → from.0 < 2 ^ 16 → id < 2 ^ 64 → at < 2 ^ 64 → h.counter < 2 ^ 64 → (h.counter ≡ 18446744073709551615 → ⊥) → i < n → first ≡ bytes_of (first_value rq) → second ≡ bytes_of (second_value rq) → ((l : List ℕ) → length l ≡ h.propose → f ≡ front_of (new_pending from id rq (record { 0 = h.counter + 1 }) l at false)) → w₁ ≡ sent_in w [] key list → a₁ ≡ sets a (place_at i) (place_rows (front_bytes f) (take (320 + 2 * h.propose - 320) (drop 320 w₁)) [] [] key (first ++ second) []) → Held a₁ n
  request_held i first second f w₁ a₁ hk hv ho hf hi ha most ne within e1 e2 ef ew ea₁ =
      let lawful : Lawful pending = lawful_here hk hv ho hf hi ha (omega (arith, most, ne, counter_here)) in
      let front : f ≡ front_of pending = rw counter_here at (ef s.propose_acceptors (sym propose_here)) in
      let image : place_rows (front_bytes f) (take (320 + 2 * h.propose - 320) (drop 320 w₁)) [] [] key (first ++ second) [] ≡ place_image (Some pending) =
      new_image f pending _ key (first ++ second) front (ap (λ (u : List ℕ). take (320 + 2 * h.propose - 320) (drop 320 u)) ew ∙ waited_here) refl refl (sym (request_key req key value other)) (rw (e1, e2)) refl in
      place_held a n i (Some pending) a₁ held within lawful (ea₁ ∙ ap (λ (u : List ℕ). sets a (place_at i) u) image)

  pub request_taken : (i : ℕ) (first second : List ℕ) (f : Front) (w₁ a₁ a₂ : List ℕ) (r : Answer) → ((j : ℕ) → byte key j < 256) → ((j : ℕ) → byte value j < 256) → ((j : ℕ) → byte other j < 256) → from.0 < 2 ^ 16 → id < 2 ^ 64 → at < 2 ^ 64 → h.counter < 2 ^ 64 → (h.counter ≡ 18446744073709551615 → ⊥) → i ≡ free_of (read_places a header_bytes n) → i ≤ n → (i ≡ n → ⊥) → first ≡ bytes_of (first_value rq) → second ≡ bytes_of (second_value rq) → ((l : List ℕ) → length l ≡ h.propose → f ≡ front_of (new_pending from id rq (record { 0 = h.counter + 1 }) l at false)) → w₁ ≡ sent_in w [] key list → a₁ ≡ sets a (place_at i) (place_rows (front_bytes f) (take (320 + 2 * h.propose - 320) (drop 320 w₁)) [] [] key (first ++ second) []) → a₂ ≡ sets a₁ counter_at (to_le 8 (h.counter + 1)) → r ≡ told_in (Rpc.ProposeReq (record { 0 = h.counter + 1 })) [] key list → Worked w (on_request s from at id rq) r a₂ w₁
  unfolding read_area
  request_taken i first second f w₁ a₁ a₂ r hk hv ho hf hi ha most ne ei small ni e1 e2 ef ew ea₁ ea₂ er =
      let within : i < n = omega (arith, small, ni) in
      let free = free_some s.places i (sym ei) (omega (arith, within, held.lawful.full)) in
      let up : used_up s.counter ≡ false = not_used_up a w n h from at id rq held eh most ne in
      let lawful : Lawful pending = lawful_here hk hv ho hf hi ha (omega (arith, most, ne, counter_here)) in
      let front : f ≡ front_of pending = rw counter_here at (ef s.propose_acceptors (sym propose_here)) in
      let image : place_rows (front_bytes f) (take (320 + 2 * h.propose - 320) (drop 320 w₁)) [] [] key (first ++ second) [] ≡ place_image (Some pending) =
      new_image f pending _ key (first ++ second) front (ap (λ (u : List ℕ). take (320 + 2 * h.propose - 320) (drop 320 u)) ew ∙ waited_here) refl refl (sym (request_key req key value other)) (rw (e1, e2)) refl in
      let asking : Message = Message.ProposeReq (next_ballot s.counter) (key_of rq) in
      let next : h.counter + 1 ≡ s.counter + 1 = ap (λ (c : ℕ). c + 1) counter_here in
      let sent : told_in (Rpc.ProposeReq (record { 0 = h.counter + 1 })) [] key list ≡ told_in (rpc_of asking) (sent_value asking) (sent_key asking) (entry_bytes s.propose_acceptors) =
      rw (counter_here, request_key req key value other) in
      due_none w s (first_due (request_tests s)) _ r a₂ w₁ (rw (up, free.room))
      record {
        answer = er ∙ sent ∙ sent_told s.propose_acceptors asking;
        area =
            ea₂
            ∙ ap (λ (u : List ℕ). sets u counter_at (to_le 8 (h.counter + 1))) (ea₁ ∙ ap (λ (u : List ℕ). sets a (place_at i) u) image)
            ∙ with_both a n held i (h.counter + 1) (Some pending) within lawful
            ∙ ap (λ (c : ℕ). area_image (moved s c (set s.places i (Some pending)))) next
            ∙ ap (λ (l : List (Option Pending)). area_image (moved s (s.counter + 1) l)) (sym (free.taken pending));
        written =
            ew
            ∙ ap (λ (k : List ℕ). sent_in w [] k (entry_bytes s.propose_acceptors)) (sym (request_key req key value other))
            ∙ sent_written w s.propose_acceptors asking;
      }
