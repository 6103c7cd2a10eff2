-- The rounds of a request that are sent after an answer: the second phase begins, and the request is proposed anew.
-- Assumes nothing.
use Rattle.std.specs.Prelude.{◌≡◌, ℕ, ◌+◌, ◌-◌, ◌*◌, ◌^◌, ◌<◌, length, take, drop}
use Rattle.std.proofs.Common.{sym, ◌∙◌, arith}
use Rattle.std.proofs.Math.Path.{ap}
use mathlib.Core.List.{List, []}
use Rattle.std.specs.Prelude.{Option, Some}
use Rattle.std.proofs.Math.Seq.{sets}
use Rattle.leaf_fields.specs.Fields.{to_le}
use Rattle.messages.specs.declared.Ballot.{Ballot}
use Rattle.messages.specs.declared.Lent.{Lent}
use Rattle.messages.specs.declared.Rpc.{Rpc}
use Rattle.messages.specs.declared.answer.Answer.{Answer}
use Rattle.messages.specs.Message.{Key, Value, Message}
use Rattle.messages.specs.Answers.{bytes_of, entries, entry_bytes, marked, rpc_of, sent_value, sent_key}
use Rattle.proposer_rules.specs.State.{Pending, Proposer, key_of, second_phase, asked_again}
use Rattle.proposer_rules.specs.Rules.{applied, next_ballot}
use Rattle.proposer_place.specs.declared.front.Front.{Front}
use Rattle.proposer_place.specs.Area.{counter_at, place_image, read_pending, read_area}
use Rattle.proposer_place.specs.AreaRows.{length_entries}
use Rattle.proposer_place.specs.AreaLaws.{Lawful}
use Rattle.proposer_place.specs.Front.{front_of}
use Rattle.proposer_place.specs.PlaceLaws.{lawful_second, lawful_again}
use Rattle.proposer_area.specs.Places.{place_at, place_in}
use Rattle.proposer_area.specs.Entries.{entries_lent}
use Rattle.proposer_area.specs.Held.{Held, Pends}
use Rattle.proposer_area.specs.HeldLaws.{with_place, with_both, lawful_pending, entries_back, place_held}
use Rattle.proposer_works.specs.Works.{answer_bytes, Worked, accepting, retrying}
use Rattle.proposer_works.specs.Sent.{sent_in, told_in, sent_written, sent_told, sent_list}

module _ (a : List ℕ) (n i : ℕ) (f : Front) (held : Held a n) (pends : Pends a n i) (ef : f ≡ front_of (read_pending (place_in a i))) (w : List ℕ) (size : length w ≡ answer_bytes n) where
  abbrev s : Proposer
  s = read_area a n

  abbrev p : Pending
  p = read_pending (place_in a i)

  lawful : Lawful p
  lawful = lawful_pending a n held i pends

  -- ---- the second phase

  abbrev accept_list : List ℕ
  accept_list = entry_bytes s.accept_acceptors

  -- the entries that were just sent are waited for
  accept_waited : (m : ℕ) → m ≡ length s.accept_acceptors → (v : Value) (k : Key) → entries (sent_in w v k accept_list) 320 m ≡ s.accept_acceptors
  accept_waited m em v k =
      let there : take (320 + 2 * m - 320) (drop 320 (sent_in w v k accept_list)) ≡ accept_list =
      sent_list w v k accept_list m (length_entries s.accept_acceptors ∙ ap (λ (j : ℕ). 2 * j) (sym em))
      (omega (arith, em, held.lawful.accept.short)) (omega (arith, size)) in
      sym (entries_lent (sent_in w v k accept_list) 320 m)
      ∙ ap (λ (u : List ℕ). entries u 0 m) there
      ∙ ap (λ (j : ℕ). entries (entry_bytes s.accept_acceptors) 0 j) em
      ∙ entries_back s.accept_acceptors held.lawful.accept

  pub second_begun : (m : ℕ) → m ≡ length s.accept_acceptors → (new : Option Lent) (ballot : Ballot) (value : Value) (key : Key) (w₁ a₁ : List ℕ) (r : Answer) → ballot ≡ f.ballot → new ≡ marked (applied p.req p.value).value → value ≡ bytes_of (applied p.req p.value).value → key ≡ key_of p.req → w₁ ≡ sent_in w value key accept_list → a₁ ≡ sets a (place_at i) (place_image (Some (second_phase (entries w₁ 320 m) p))) → r ≡ told_in (Rpc.AcceptReq ballot new) value key accept_list → Worked w (accepting s i p) r a₁ w₁
  unfolding front_of
  second_begun m em new ballot value key w₁ a₁ r eballot enew evalue ekey ew ea er =
      let v : Option Value = (applied p.req p.value).value in
      let asking : Message = Message.AcceptReq p.ballot (key_of p.req) v in
      let at_ballot : ballot ≡ p.ballot = eballot ∙ ap (λ (g : Front). g.ballot) ef in
      let sent : told_in (Rpc.AcceptReq ballot new) value key accept_list ≡ told_in (rpc_of asking) (sent_value asking) (sent_key asking) (entry_bytes s.accept_acceptors) =
      rw (enew, evalue, at_ballot, ekey) in
      let written : w₁ ≡ sent_in w (bytes_of v) (key_of p.req) accept_list = ew ∙ rw (evalue, ekey) in
      let waited : entries w₁ 320 m ≡ s.accept_acceptors =
      ap (λ (u : List ℕ). entries u 320 m) written ∙ accept_waited m em (bytes_of v) (key_of p.req) in
      record {
        answer = er ∙ sent ∙ sent_told s.accept_acceptors asking;
        area =
            ea
            ∙ ap (λ (l : List ℕ). sets a (place_at i) (place_image (Some (second_phase l p)))) waited
            ∙ with_place a n held i (Some (second_phase s.accept_acceptors p)) pends.within (lawful_second p lawful s.accept_acceptors held.lawful.accept);
        written =
            written
            ∙ sent_written w s.accept_acceptors asking;
      }

  -- the area with the second phase may be held
  pub second_held : (m : ℕ) → m ≡ length s.accept_acceptors → (value : Value) (key : Key) (w₁ a₁ : List ℕ) → w₁ ≡ sent_in w value key accept_list → a₁ ≡ sets a (place_at i) (place_image (Some (second_phase (entries w₁ 320 m) p))) → Held a₁ n
  second_held m em value key w₁ a₁ ew ea =
      let waited : entries w₁ 320 m ≡ s.accept_acceptors =
      ap (λ (u : List ℕ). entries u 320 m) ew
      ∙ accept_waited m em value key in
      place_held a n i (Some (second_phase s.accept_acceptors p)) a₁ held pends.within (lawful_second p lawful s.accept_acceptors held.lawful.accept)
      (ea ∙ ap (λ (l : List ℕ). sets a (place_at i) (place_image (Some (second_phase l p)))) waited)

  -- ---- the request anew

  abbrev propose_list : List ℕ
  propose_list = entry_bytes s.propose_acceptors

  propose_waited : (m : ℕ) → m ≡ length s.propose_acceptors → (k : Key) → entries (sent_in w [] k propose_list) 320 m ≡ s.propose_acceptors
  propose_waited m em k =
      let there : take (320 + 2 * m - 320) (drop 320 (sent_in w [] k propose_list)) ≡ propose_list =
      sent_list w [] k propose_list m (length_entries s.propose_acceptors ∙ ap (λ (j : ℕ). 2 * j) (sym em))
      (omega (arith, em, held.lawful.propose.short)) (omega (arith, size)) in
      sym (entries_lent (sent_in w [] k propose_list) 320 m)
      ∙ ap (λ (u : List ℕ). entries u 0 m) there
      ∙ ap (λ (j : ℕ). entries (entry_bytes s.propose_acceptors) 0 j) em
      ∙ entries_back s.propose_acceptors held.lawful.propose

  proposed_again_at : (m : ℕ) → m ≡ length s.propose_acceptors → (counter : ℕ) (key : Key) (w₁ a₁ a₂ : List ℕ) (r : Answer) → counter < 2 ^ 64 - 1 → key ≡ key_of p.req → w₁ ≡ sent_in w [] key propose_list → a₁ ≡ sets a (place_at i) (place_image (Some (asked_again (record { 0 = counter + 1 }) (entries w₁ 320 m) p))) → a₂ ≡ sets a₁ counter_at (to_le 8 (counter + 1)) → r ≡ told_in (Rpc.ProposeReq (record { 0 = counter + 1 })) [] key propose_list → Worked w (retrying s counter i p) r a₂ w₁
  proposed_again_at m em counter key w₁ a₁ a₂ r most ekey ew ea₁ ea₂ er =
      let asking : Message = Message.ProposeReq (next_ballot counter) (key_of p.req) in
      let sent : told_in (Rpc.ProposeReq (record { 0 = counter + 1 })) [] key propose_list ≡ told_in (rpc_of asking) (sent_value asking) (sent_key asking) (entry_bytes s.propose_acceptors) =
      rw ekey in
      let written : w₁ ≡ sent_in w [] (key_of p.req) propose_list = ew ∙ rw ekey in
      let waited : entries w₁ 320 m ≡ s.propose_acceptors =
      ap (λ (u : List ℕ). entries u 320 m) written ∙ propose_waited m em (key_of p.req) in
      record {
        answer = er ∙ sent ∙ sent_told s.propose_acceptors asking;
        area =
            ea₂
            ∙ ap (λ (u : List ℕ). sets u counter_at (to_le 8 (counter + 1)))
            (ea₁ ∙ ap (λ (l : List ℕ). sets a (place_at i) (place_image (Some (asked_again (next_ballot counter) l p)))) waited)
            ∙ with_both a n held i (counter + 1) (Some (asked_again (next_ballot counter) s.propose_acceptors p)) pends.within
            (lawful_again p lawful (next_ballot counter) s.propose_acceptors (omega (arith, most)) held.lawful.propose);
        written =
            written
            ∙ sent_written w s.propose_acceptors asking;
      }

  -- the area with the request anew may be held
  pub proposed_again : (m : ℕ) → m ≡ length s.propose_acceptors → (ballot : Ballot) (counter : ℕ) (key : Key) (w₁ a₁ a₂ : List ℕ) (r : Answer) → ballot ≡ next_ballot counter → ballot.0 < 2 ^ 64 → key ≡ key_of p.req → w₁ ≡ sent_in w [] key propose_list → a₁ ≡ sets a (place_at i) (place_image (Some (asked_again ballot (entries w₁ 320 m) p))) → a₂ ≡ sets a₁ counter_at (to_le 8 ballot.0) → r ≡ told_in (Rpc.ProposeReq ballot) [] key propose_list → Worked w (retrying s counter i p) r a₂ w₁
  proposed_again m em ballot counter key w₁ a₁ a₂ r eb most ekey ew ea₁ ea₂ er =
      let low : counter + 1 < 2 ^ 64 = rw eb at most in
      proposed_again_at m em counter key w₁ a₁ a₂ r (omega (arith, low)) ekey ew (rw eb at ea₁) (rw eb at ea₂) (rw eb at er)

  pub again_held : (m : ℕ) → m ≡ length s.propose_acceptors → (ballot : Ballot) (key : Key) (w₁ a₁ : List ℕ) → ballot.0 < 2 ^ 64 → w₁ ≡ sent_in w [] key propose_list → a₁ ≡ sets a (place_at i) (place_image (Some (asked_again ballot (entries w₁ 320 m) p))) → Held a₁ n
  again_held m em ballot key w₁ a₁ most ew ea =
      let waited : entries w₁ 320 m ≡ s.propose_acceptors =
      ap (λ (u : List ℕ). entries u 320 m) ew ∙ propose_waited m em key in
      place_held a n i (Some (asked_again ballot s.propose_acceptors p)) a₁ held pends.within
      (lawful_again p lawful ballot s.propose_acceptors (omega (arith, most)) held.lawful.propose)
      (ea ∙ ap (λ (l : List ℕ). sets a (place_at i) (place_image (Some (asked_again ballot l p)))) waited)
