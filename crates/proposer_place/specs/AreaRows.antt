-- Rows that stand one behind the other in an area: each is found at its place, and a padded value and the entries of a list are read back.
-- Assumes nothing.
use Rattle.std.specs.Prelude.{◌≡◌, refl, List, [], ◌∷◌, ◌++◌, ℕ, suc, ◌+◌, ◌-◌, ◌*◌, ◌^◌, ◌≤◌, ◌<◌, length, get_or, take, drop, replicate}
use Rattle.std.proofs.Common.{sym, ap, ◌∙◌, append_assoc, arith, length-append, take_at, drop_at, drop-drop}
use Rattle.std.proofs.lemmas.List.{length-replicate}
use Rattle.leaf_fields.specs.Fields.{from_le, to_le, part, padded}
use Rattle.leaf_fields.specs.Laws.{length-to_le, from_le-to_le}
use Rattle.messages.specs.Limits.{list_most}
use Rattle.messages.specs.Answers.{entries, entry_bytes}
use Rattle.proposer_place.specs.Area.{list_bytes, list_row}

-- ---- lengths

pub length-padded : (n : ℕ) (l : List ℕ) → length l ≤ n → length (padded n l) ≡ n
unfolding padded
length-padded n l h = simp (length-append, length-replicate) (omega arith)

pub length_entries : (l : List ℕ) → length (entry_bytes l) ≡ 2 * length l
unfolding entry_bytes
length_entries [] = refl
length_entries (x ∷ l) = simp (length-append, length-to_le, length_entries l) (omega arith)

pub length_list : (l : List ℕ) → length l ≤ list_most → length (list_row l) ≡ list_bytes
unfolding list_row
length_list l h = length-padded list_bytes (entry_bytes l) (omega (arith, length_entries l))

-- ---- a row at its place

module _ (b : List ℕ) (at : ℕ) (row rest : List ℕ) (n : ℕ) (found : drop at b ≡ row ++ rest) (size : length row ≡ n) where
  pub row_there : part b at n ≡ row
  row_there = ap (take n) found ∙ take_at row rest n size

  pub row_behind : drop (at + n) b ≡ rest
  row_behind = sym (drop-drop n at b) ∙ ap (drop n) found ∙ drop_at row rest n size

-- the zeros of a padded row belong to what is behind its content
pub behind_content : (n : ℕ) (l rest : List ℕ) → padded n l ++ rest ≡ l ++ (replicate (n - length l) 0 ++ rest)
unfolding padded
behind_content n l rest = append_assoc l (replicate (n - length l) 0) rest

-- what was padded is read back by its length
pub content_there : (b : List ℕ) (at n : ℕ) (l rest : List ℕ) → drop at b ≡ padded n l ++ rest → part b at (length l) ≡ l
content_there b at n l rest found =
    row_there b at l (replicate (n - length l) 0 ++ rest) (length l) (found ∙ behind_content n l rest) refl

-- two contents, one behind the other
module _ (b : List ℕ) (at n : ℕ) (l m rest : List ℕ) (found : drop at b ≡ padded n (l ++ m) ++ rest) where
  abbrev behind : List ℕ
  behind = replicate (n - length (l ++ m)) 0 ++ rest

  both : drop at b ≡ l ++ (m ++ behind)
  both = found ∙ behind_content n (l ++ m) rest ∙ append_assoc l m behind

  pub first_there : part b at (length l) ≡ l
  first_there = row_there b at l (m ++ behind) (length l) both refl

  pub second_there : part b (at + length l) (length m) ≡ m
  second_there = row_there b (at + length l) m behind (length m) (row_behind b at l (m ++ behind) (length l) both refl) refl

-- ---- the entries of a list

-- every entry fits two bytes
unfoldable pub Entries : List ℕ → Type 0
Entries l = (i : ℕ) → get_or l i 0 < 256 ^ 2

pub entries_there : (l rest b : List ℕ) (at : ℕ) → drop at b ≡ entry_bytes l ++ rest → Entries l → entries b at (length l) ≡ l
unfolding entries entry_bytes Entries
entries_there [] rest b at found h = refl
entries_there (x ∷ l) rest b at found h =
    let found' : drop at b ≡ to_le 2 x ++ (entry_bytes l ++ rest) = found ∙ append_assoc (to_le 2 x) (entry_bytes l) rest in
    let first : from_le (part b at 2) ≡ x = ap from_le (row_there b at (to_le 2 x) (entry_bytes l ++ rest) 2 found' (length-to_le 2 x)) ∙ from_le-to_le 2 x (h 0) in
    let others : entries b (at + 2) (length l) ≡ l =
    entries_there l rest b (at + 2) (row_behind b at (to_le 2 x) (entry_bytes l ++ rest) 2 found' (length-to_le 2 x)) (λ i. h (suc i)) in
    rw (first, others)

-- a list of any length is read back from its row
pub list_there : (l rest b : List ℕ) (at : ℕ) → drop at b ≡ list_row l ++ rest → Entries l → entries b at (length l) ≡ l
unfolding list_row
list_there l rest b at found h =
    entries_there l (replicate (list_bytes - length (entry_bytes l)) 0 ++ rest) b at (found ∙ behind_content list_bytes (entry_bytes l) rest) h
