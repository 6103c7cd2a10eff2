-- The entries and the rows of an area, cut off its front one by one.
-- Assumes nothing.
use Rattle.std.proofs.Common.{◌≡◌, refl, Bool, true, false, List, [], ◌∷◌, ◌++◌, ℕ, zero, suc, ◌+◌, ◌-◌, ◌≤◌, ◌<◌, length, drop, arith, length-drop, length-append, le-leb}
use Rattle.std.proofs.Math.Dec.{leb}
use Rattle.std.proofs.Math.Seq.{drop-drop, drop-append_seam}
use Rattle.std.proofs.lemmas.Bool.{leb-false, leb-true, lt-leb}
use Rattle.std.proofs.lemmas.List.{take-append-le}
use Rattle.leaf_fields.specs.Fields.{from_le, part}
use Rattle.script_words.specs.Letters.{letters}
use Rattle.script_words.specs.Written.{decimal}
use Rattle.script_answer.specs.Lines.{entries_text, row_text, row_in, rows_text, entries_in, rows_in}

-- m bytes that have room behind k bytes
room : (a : List ℕ) (k m : ℕ) → 0 < m → leb m (length (drop k a)) ≡ leb (k + m) (length a)
room a k m h = rw (length-drop k a) (by_test (leb (k + m) (length a)) refl)
  where
    by_test : (t : Bool) → leb (k + m) (length a) ≡ t → leb m (length a - k) ≡ t
    by_test true e = let l : k + m ≤ length a = leb-true (k + m) (length a) e in le-leb m (length a - k) (omega arith)
    by_test false e = let l : length a < k + m = leb-false (k + m) (length a) e in lt-leb m (length a - k) (omega arith)

part_behind : (a : List ℕ) (k j n : ℕ) → part (drop k a) j n ≡ part a (k + j) n
part_behind a k j n = rw drop-drop

part_front : (p l : List ℕ) (a n : ℕ) → a + n ≤ length p → part (p ++ l) a n ≡ part p a n
part_front p l zero n h = let k : n ≤ length p = omega arith in take-append-le n p l k
part_front [] l (suc a) n h = absurd (omega arith)
part_front (x ∷ p) l (suc a) n h = part_front p l a n (omega arith)

behind : (p l : List ℕ) (n : ℕ) → length p ≡ n → drop n (p ++ l) ≡ l
behind p l n h = rw (← h) (drop-append_seam p l)

-- ---- entries

pub entries_behind : (a : List ℕ) (k j n : ℕ) → entries_in (drop k a) j n ≡ entries_in a (k + j) n
unfolding entries_in
entries_behind a k j zero = refl
entries_behind a k j (suc n) =
    let e : k + (j + 2) ≡ k + j + 2 = omega arith in
    rw (room a k (j + 2) (omega arith), part_behind a k j 2, entries_behind a k (j + 2) n, e)

first_entry : (row rest : List ℕ) (n : ℕ) → length row ≡ 2 → entries_in (row ++ rest) 0 (suc n) ≡ from_le (part row 0 2) ∷ entries_in rest 0 n
unfolding entries_in
first_entry row rest n h =
    let fits : 2 ≤ length (row ++ rest) = rw (length-append row rest) (omega arith) in
    rw (le-leb 2 (length (row ++ rest)) fits, part_front row rest 0 2 (omega arith), ← entries_behind (row ++ rest) 2 0 n, behind row rest 2 h)

pub entries_turn : (row rest rest' : List ℕ) (m m' : ℕ) → rest ≡ row ++ rest' → length row ≡ 2 → m' + 1 ≡ m → entries_text (entries_in rest 0 m) ≡ (letters "," ++ decimal (from_le (part row 0 2))) ++ entries_text (entries_in rest' 0 m')
unfolding entries_text
entries_turn row rest rest' m m' cut size less =
    let k : m ≡ suc m' = omega arith in
    let f : entries_in rest 0 m ≡ from_le (part row 0 2) ∷ entries_in rest' 0 m' = rw (cut, k) (first_entry row rest' m' size) in
    rw f

pub entries_end : (rest : List ℕ) (m : ℕ) → (0 < m → length rest < 2) → entries_text (entries_in rest 0 m) ≡ []
unfolding entries_in entries_text
entries_end rest zero h = refl
entries_end rest (suc m) h = rw (lt-leb 2 (length rest) (h (omega arith)))

-- ---- rows

pub rows_behind : (a : List ℕ) (k j n : ℕ) → rows_in (drop k a) j n ≡ rows_in a (k + j) n
unfolding rows_in
rows_behind a k j zero = refl
rows_behind a k j (suc n) =
    let e : k + (j + 10) ≡ k + j + 10 = omega arith in
    let f : k + (j + 2) ≡ k + j + 2 = omega arith in
    rw (room a k (j + 10) (omega arith), part_behind a k j 2, part_behind a k (j + 2) 8, rows_behind a k (j + 10) n, e, f)

first_row : (row rest : List ℕ) (n : ℕ) → length row ≡ 10 → rows_in (row ++ rest) 0 (suc n) ≡ row_in row 0 ∷ rows_in rest 0 n
unfolding rows_in
first_row row rest n h =
    let fits : 10 ≤ length (row ++ rest) = rw (length-append row rest) (omega arith) in
    rw (le-leb 10 (length (row ++ rest)) fits, part_front row rest 0 2 (omega arith), part_front row rest 2 8 (omega arith), ← rows_behind (row ++ rest) 10 0 n, behind row rest 10 h)

pub rows_turn : (row rest rest' : List ℕ) (m m' : ℕ) → rest ≡ row ++ rest' → length row ≡ 10 → m' + 1 ≡ m → rows_text (rows_in rest 0 m) ≡ row_text (row_in row 0) ++ rows_text (rows_in rest' 0 m')
unfolding rows_text
rows_turn row rest rest' m m' cut size less =
    let k : m ≡ suc m' = omega arith in
    let f : rows_in rest 0 m ≡ row_in row 0 ∷ rows_in rest' 0 m' = rw (cut, k) (first_row row rest' m' size) in
    rw f

pub rows_end : (rest : List ℕ) (m : ℕ) → (0 < m → length rest < 10) → rows_text (rows_in rest 0 m) ≡ []
unfolding rows_in rows_text
rows_end rest zero h = refl
rows_end rest (suc m) h = rw (lt-leb 10 (length rest) (h (omega arith)))
