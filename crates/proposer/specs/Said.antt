-- Nothing of an answer is lost: the enum and the answer area that a call leaves say 01's answer again.
-- Assumes nothing.
use Rattle.std.specs.Prelude.{◌≡◌, refl, List, [], ◌∷◌, ◌++◌, ℕ, suc, ◌+◌, ◌^◌, ◌≤◌, ◌<◌, length, get_or, take, drop}
use Rattle.std.proofs.Common.{sym, ap, ◌∙◌, append_assoc, arith, length-take, drop_at}
use Rattle.std.specs.Prelude.{Option}
use Rattle.std.proofs.lemmas.List.Edits.{sets, sets-eq}
use Rattle.std.proofs.Math.Seq.{length-sets}
use Rattle.leaf_fields.specs.Fields.{to_le, part}
use Rattle.leaf_fields.specs.Laws.{length-to_le, from_le-to_le, part_same, part_before}
use Rattle.messages.specs.declared.Address.{Address}
use Rattle.messages.specs.declared.Ballot.{Ballot}
use Rattle.messages.specs.Message.{Key, Value, Failure, Reply, Message}
use Rattle.messages.specs.Limits.{key_most, value_most}
use Rattle.messages.specs.Answers.{Row, one, key_at, entries_at, rows_at, row_bytes, entries, rows, said, bytes_of, reply_value, answer_of, entry_bytes, rows_bytes, written_in}
use Rattle.proposer_rules.specs.Rules.{to_each}
use Rattle.proposer_works.specs.NewValue.{given_back}
use Rattle.proposer_place.specs.AreaRows.{row_there, row_behind, length_entries, entries_there}
use Rattle.proposer_place.specs.AreaLaws.{ShortList}

-- the first bytes of an area, after its value is stored
front_back : (w v : List ℕ) → length v ≤ length w → take (length v) (sets w 0 v) ≡ v
front_back w v room = part_same w 0 v (omega (arith, room))

-- what stands from a store's place on
pub drop_stored : (l : List ℕ) (at : ℕ) (vs : List ℕ) → at + length vs ≤ length l → drop at (sets l at vs) ≡ vs ++ drop (at + length vs) l
drop_stored l at vs room =
    ap (drop at) (sets-eq vs l at room ∙ append_assoc (take at l) vs (drop (at + length vs) l))
    ∙ drop_at (take at l) (vs ++ drop (at + length vs) l) at (simp length-take (omega (arith, room)))

-- ---- one message to a client

pub said-one : (w : List ℕ) (to : Address) (id : ℕ) (r : Reply) → length (reply_value r) ≤ length w → said (answer_of (one to (Message.ClientResponse id r))) (written_in w (one to (Message.ClientResponse id r))) ≡ one to (Message.ClientResponse id r)
said-one w to id (Reply.Done v) room = rw (front_back w (bytes_of v) room, given_back v)
said-one w to id (Reply.Failed (Failure.ProposalRejected b)) room = refl
said-one w to id (Reply.Failed (Failure.AcceptRejected b)) room = refl
said-one w to id (Reply.Failed (Failure.CasFailed v)) room = rw (front_back w (bytes_of v) room, given_back v)
said-one w to id (Reply.Failed Failure.Timeout) room = refl

-- ---- one message to each entry of a list

module _ (w : List ℕ) (v : Value) (k : Key) (l : List ℕ) (value : length v ≤ value_most) (key : length k ≤ key_most) (short : ShortList l) (room : rows_at ≤ length w) where
  abbrev sent : List ℕ
  sent = sets (sets (sets w 0 v) key_at k) entries_at (entry_bytes l)

  value_back : take (length v) sent ≡ v
  value_back =
      part_before (sets (sets w 0 v) key_at k) entries_at (entry_bytes l) 0 (length v) (omega (arith, value))
      ∙ part_before (sets w 0 v) key_at k 0 (length v) (omega (arith, value))
      ∙ front_back w v (omega (arith, value, room))

  key_back : part sent key_at (length k) ≡ k
  key_back =
      part_before (sets (sets w 0 v) key_at k) entries_at (entry_bytes l) key_at (length k) (omega (arith, key))
      ∙ part_same (sets w 0 v) key_at k (omega (arith, key, room, length-sets w 0 v))

  list_back : entries sent entries_at (length l) ≡ l
  list_back =
      entries_there l (drop (entries_at + length (entry_bytes l)) (sets (sets w 0 v) key_at k)) sent entries_at
      (drop_stored (sets (sets w 0 v) key_at k) entries_at (entry_bytes l) (omega (arith, room, short.short, length_entries l, length-sets (sets w 0 v) key_at k, length-sets w 0 v)))
      short.fit

-- proposals, and accept requests
pub said_proposals : (w : List ℕ) (b : Ballot) (k : Key) (l : List ℕ) → length k ≤ key_most → ShortList l → rows_at ≤ length w → said (answer_of (to_each l (Message.ProposeReq b k))) (written_in w (to_each l (Message.ProposeReq b k))) ≡ to_each l (Message.ProposeReq b k)
said_proposals w b k [] key short room = refl
said_proposals w b k (x ∷ l) key short room =
    rw (list_back w [] k (x ∷ l) (omega arith) key short room, key_back w [] k (x ∷ l) (omega arith) key short room)

pub said_accepts : (w : List ℕ) (b : Ballot) (k : Key) (v : Option Value) (l : List ℕ) → length (bytes_of v) ≤ value_most → length k ≤ key_most → ShortList l → rows_at ≤ length w → said (answer_of (to_each l (Message.AcceptReq b k v))) (written_in w (to_each l (Message.AcceptReq b k v))) ≡ to_each l (Message.AcceptReq b k v)
said_accepts w b k v [] value key short room = refl
said_accepts w b k v (x ∷ l) value key short room =
    rw (
      list_back w (bytes_of v) k (x ∷ l) value key short room,
      key_back w (bytes_of v) k (x ∷ l) value key short room,
      value_back w (bytes_of v) k (x ∷ l) value key short room,
      given_back v,
    )

-- ---- rows of timeouts

-- a row that its bytes hold
abbrev pub RowFits : Row → Type 0
RowFits r = (r.client.0 < 256 ^ 2) × (r.id < 256 ^ 8)

unfoldable pub RowsFit : List Row → Type 0
RowsFit l = (i : ℕ) → RowFits (get_or l i (record { client = record { 0 = 0 }; id = 0 }))

pub rows_there : (l : List Row) (rest b : List ℕ) (at : ℕ) → drop at b ≡ rows_bytes l ++ rest → RowsFit l → rows b at (length l) ≡ l
unfolding rows rows_bytes RowsFit
rows_there [] rest b at found fits = refl
rows_there (r ∷ l) rest b at found fits =
    let client : List ℕ = to_le 2 r.client.0 in
    let id : List ℕ = to_le 8 r.id in
    let whole : drop at b ≡ client ++ (id ++ (rows_bytes l ++ rest)) = found ∙ append_assoc client (id ++ rows_bytes l) rest ∙ ap (λ (u : List ℕ). client ++ u) (append_assoc id (rows_bytes l) rest) in
    let client_there = row_there b at client (id ++ (rows_bytes l ++ rest)) 2 whole (length-to_le 2 r.client.0) in
    let behind-client = row_behind b at client (id ++ (rows_bytes l ++ rest)) 2 whole (length-to_le 2 r.client.0) in
    let id-there = row_there b (at + 2) id (rows_bytes l ++ rest) 8 behind-client (length-to_le 8 r.id) in
    let behind-id = row_behind b (at + 2) id (rows_bytes l ++ rest) 8 behind-client (length-to_le 8 r.id) in
    let next : at + 2 + 8 ≡ at + row_bytes = omega arith in
    rw (client_there, id-there, from_le-to_le 2 r.client.0 (fits 0).0, from_le-to_le 8 r.id (fits 0).1)
    (ap (λ (u : List Row). r ∷ u) (rows_there l rest b (at + row_bytes) (ap (λ (j : ℕ). drop j b) (sym next) ∙ behind-id) (λ i. fits (suc i))))
