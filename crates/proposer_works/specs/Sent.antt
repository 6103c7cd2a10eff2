-- A message to each entry of a list: what `send` leaves in the answer area, and the enum beside it, are 01's answer.
-- Assumes nothing.
use Rattle.std.specs.Prelude.{◌≡◌, refl, Bool, true, false, cond, List, [], ◌∷◌, ℕ, ◌+◌, ◌-◌, ◌*◌, ◌/◌, ◌≤◌, eqb, length, take, drop}
use Rattle.std.proofs.Common.{ap, ◌∙◌, arith, eqb-true, ne_eqb}
use Rattle.std.proofs.lemmas.List.Edits.{sets}
use Rattle.std.proofs.Math.Seq.{length-sets}
use Rattle.leaf_fields.specs.Fields.{part}
use Rattle.leaf_fields.specs.Laws.{part_same}
use Rattle.messages.specs.declared.Rpc.{Rpc}
use Rattle.messages.specs.declared.answer.Answer.{Answer}
use Rattle.messages.specs.Message.{Key, Value, Message}
use Rattle.messages.specs.Limits.{list_most}
use Rattle.messages.specs.Answers.{key_at, entries_at, rows_at, entry_bytes, rpc_of, sent_value, sent_key, answer_of, written_in}
use Rattle.proposer_place.specs.AreaRows.{length_entries}
use Rattle.proposer_rules.specs.Rules.{to_each}

-- the answer area after `send`
abbrev pub sent_in : List ℕ → Value → Key → List ℕ → List ℕ
sent_in w v k l = cond (eqb (length l) 0) w (sets (sets (sets w 0 v) key_at k) entries_at l)

-- the enum beside it
abbrev pub told_in : Rpc → Value → Key → List ℕ → Answer
told_in rpc v k l = cond (eqb (length l) 0) Answer.Nothing (Answer.Broadcast rpc (length l / 2) (length k) (length v))

pub sent_written : (w l : List ℕ) (m : Message) → sent_in w (sent_value m) (sent_key m) (entry_bytes l) ≡ written_in w (to_each l m)
unfolding entry_bytes
sent_written w [] m = refl
sent_written w (x ∷ l) m = rw (ne_eqb (length (entry_bytes (x ∷ l))) 0 (λ h. omega (arith, h, length_entries (x ∷ l))))

pub sent_told : (l : List ℕ) (m : Message) → told_in (rpc_of m) (sent_value m) (sent_key m) (entry_bytes l) ≡ answer_of (to_each l m)
unfolding entry_bytes
sent_told [] m = refl
sent_told (x ∷ l) m =
    let many : length (entry_bytes (x ∷ l)) / 2 ≡ length (x ∷ l) = omega (arith, length_entries (x ∷ l)) in
    rw (ne_eqb (length (entry_bytes (x ∷ l))) 0 (λ h. omega (arith, h, length_entries (x ∷ l))), many)

pub sent_length : (w : List ℕ) (v : Value) (k : Key) (l : List ℕ) → length (sent_in w v k l) ≡ length w
sent_length w v k l = go (eqb (length l) 0)
  where
    go : (z : Bool) → length (cond z w (sets (sets (sets w 0 v) key_at k) entries_at l)) ≡ length w
    go true = refl
    go false = length-sets (sets (sets w 0 v) key_at k) entries_at l ∙ length-sets (sets w 0 v) key_at k ∙ length-sets w 0 v

-- the entries as they are lent from it
pub sent_list : (w : List ℕ) (v : Value) (k : Key) (l : List ℕ) (m : ℕ) → length l ≡ 2 * m → m ≤ list_most → rows_at ≤ length w → take (entries_at + 2 * m - entries_at) (drop entries_at (sent_in w v k l)) ≡ l
sent_list w v k l m size few room =
    let e : entries_at + 2 * m - entries_at ≡ length l = omega (arith, size) in
    ap (λ (j : ℕ). part (sent_in w v k l) entries_at j) e ∙ go (eqb (length l) 0) (eqb-true (length l) 0)
  where
    none_there : (l : List ℕ) → length l ≡ 0 → [] ≡ l
    none_there [] h = refl
    none_there (x ∷ l) h = absurd (omega (arith, h))

    go : (z : Bool) → (z ≡ true → length l ≡ 0) → part (cond z w (sets (sets (sets w 0 v) key_at k) entries_at l)) entries_at (length l) ≡ l
    go true h = ap (λ (j : ℕ). part w entries_at j) (h refl) ∙ none_there l (h refl)
    go false h = part_same (sets (sets w 0 v) key_at k) entries_at l (omega (arith, size, few, room, length-sets (sets w 0 v) key_at k, length-sets w 0 v))
