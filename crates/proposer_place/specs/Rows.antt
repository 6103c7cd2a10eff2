-- The entries of a list, in their row of bytes.
-- Assumes nothing.
use Rattle.std.specs.Prelude.{◌≡◌, refl, List, [], ◌∷◌, ◌++◌, ℕ, zero, suc, ◌+◌, ◌*◌, ◌≤◌, ◌<◌, length, map, get_or, take, drop}
use Rattle.std.proofs.Common.{sym, ap, ◌∙◌, append_assoc, append-nil, arith, drop-drop, drop_at, take_at}
use Rattle.std.proofs.lemmas.List.Edits.{sets}
use Rattle.std.specs.List.{flat_map}
use Rattle.leaf_fields.specs.Stores.{padded_more}
use Rattle.leaf_fields.specs.Fields.{from_le, to_le, part, Bytes, padded}
use Rattle.leaf_fields.specs.Laws.{length-to_le, to_le-from_le, length-part, bytes_part}
use Rattle.leaf_fields.specs.Rows.{part_join}
use Rattle.messages.specs.Limits.{list_most}
use Rattle.messages.specs.Answers.{entries, entry_bytes}
use Rattle.proposer_place.specs.Area.{list_bytes, list_row}
use Rattle.proposer_place.specs.AreaRows.{length_entries}

-- ---- the entries of a list

pub entries-length : (b : List ℕ) (at n : ℕ) → length (entries b at n) ≡ n
unfolding entries
entries-length b at zero = refl
entries-length b at (suc n) = ap suc (entries-length b (at + 2) n)

-- two lists, one behind the other
pub entries_append : (l m : List ℕ) → entry_bytes (l ++ m) ≡ entry_bytes l ++ entry_bytes m
unfolding entry_bytes
entries_append [] m = refl
entries_append (x ∷ l) m =
    ap (λ (r : List ℕ). to_le 2 x ++ r) (entries_append l m) ∙ sym (append_assoc (to_le 2 x) (entry_bytes l) (entry_bytes m))

pub entries_one : (x : ℕ) → entry_bytes (x ∷ []) ≡ to_le 2 x
unfolding entry_bytes
entries_one x = append-nil (to_le 2 x)

-- one more entry in the row of a list
pub list_more : (l : List ℕ) (x i : ℕ) → i ≡ 2 * length l → length l < list_most → sets (list_row l) i (to_le 2 x) ≡ list_row (l ++ (x ∷ []))
unfolding list_row
list_more l x i e room =
    padded_more list_bytes (entry_bytes l) (to_le 2 x) i (omega (arith, length_entries l)) (omega (arith, length_entries l, length-to_le 2 x))
    ∙ ap (padded list_bytes) (sym (entries_append l (x ∷ []) ∙ ap (λ (r : List ℕ). entry_bytes l ++ r) (entries_one x)))

-- the entries that bytes are read as have these bytes
pub entries_bytes : (b : List ℕ) (at n : ℕ) → at + 2 * n ≤ length b → Bytes b → entry_bytes (entries b at n) ≡ part b at (2 * n)
unfolding entries entry_bytes
entries_bytes b at zero room h = refl
entries_bytes b at (suc n) room h =
    let first : to_le 2 (from_le (part b at 2)) ≡ part b at 2 = ap (λ (k : ℕ). to_le k (from_le (part b at 2))) (sym (length-part b at 2 (omega arith))) ∙ to_le-from_le (part b at 2) (bytes_part b at 2 h) in
    let twice : 2 + 2 * n ≡ 2 * suc n = omega arith in
    rw (first, entries_bytes b (at + 2) n (omega arith) h) (part_join b at 2 (2 * n) ∙ ap (part b at) twice)

pub entries_whole : (b : List ℕ) (n : ℕ) → length b ≡ 2 * n → Bytes b → entry_bytes (entries b 0 n) ≡ b
entries_whole b n e h = entries_bytes b 0 n (omega arith) h ∙ ap (λ (k : ℕ). take k b) (sym e) ∙ whole b
  where
    whole : (l : List ℕ) → take (length l) l ≡ l
    whole [] = refl
    whole (x ∷ l) = ap (λ (r : List ℕ). x ∷ r) (whole l)

-- ---- entries as arrays of two bytes

abbrev pub numbers : List (List ℕ) → List ℕ
numbers l = map (λ e. from_le (part e 0 2)) l

-- entries behind a row
entries_behind : (x l : List ℕ) (at n : ℕ) → entries (x ++ l) (length x + at) n ≡ entries l at n
unfolding entries
entries_behind x l at zero = refl
entries_behind x l at (suc n) =
    let here : drop (length x + at) (x ++ l) ≡ drop at l = sym (drop-drop at (length x) (x ++ l)) ∙ ap (drop at) (drop_at x l (length x) refl) in
    let next : length x + at + 2 ≡ length x + (at + 2) = omega arith in
    rw (here, next, entries_behind x l (at + 2) n)

-- arrays one behind the other, read as a list
pub entries_flat : (l : List (List ℕ)) → ((i : ℕ) → i < length l → length (get_or l i []) ≡ 2) → entries (flat_map (λ e. e) l) 0 (length l) ≡ numbers l
unfolding entries
entries_flat [] h = refl
entries_flat (e ∷ l) h =
    let r = flat_map (λ (x : List ℕ). x) l in
    let size : length e ≡ 2 = h 0 (omega arith) in
    let first : take 2 (e ++ r) ≡ take 2 e = take_at e r 2 size ∙ sym (take_at e [] 2 size) ∙ ap (take 2) (append-nil e) in
    let at : 2 ≡ length e + 0 = omega arith in
    let behind : entries (e ++ r) 2 (length l) ≡ numbers l = ap (λ (k : ℕ). entries (e ++ r) k (length l)) at ∙ entries_behind e r 0 (length l) ∙ entries_flat l (λ i lt. h (suc i) (omega (arith, lt))) in
    rw (first, behind)
