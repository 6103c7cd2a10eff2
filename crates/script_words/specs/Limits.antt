-- The most that a line and a word give: eight words, 600 bytes, 32 numbers.
-- Assumes nothing.
use Rattle.std.specs.Prelude.{◌≡◌, refl, Bool, true, false, cond, List, [], ◌∷◌, ◌++◌, ℕ, zero, suc, ◌+◌, ◌*◌, ◌≤◌, eqb, ltb, leb, length, take, drop, Option, Some, None}
use Rattle.std.proofs.Common.{arith, length-append, length-drop, ltb-false}
use Rattle.messages.specs.declared.Address.{Address}
use Rattle.script_words.specs.Text.{up_to, address_of, unhexed, bytes_of, entry_before, numbers_from, list_of}
use Rattle.script_words.specs.Split.{words_behind, words_of}

either : {A : Type 0} (b : Bool) (x y : List A) (n : ℕ) → length x ≤ n → length y ≤ n → length (cond b x y) ≤ n
either true x y n hx hy = hx
either false x y n hx hy = hy

words_behind_lem : (n : ℕ) (passed : List (List ℕ)) (l : List ℕ) → length (words_behind n passed l) ≤ length passed + n
unfolding words_behind
words_behind_lem zero passed l = omega arith
words_behind_lem (suc n) passed l =
    let more : List (List ℕ) = passed ++ (take (up_to 32 l) l ∷ []) in
    let one : length more ≡ length passed + 1 = length-append passed (take (up_to 32 l) l ∷ []) in
    let rest : List (List ℕ) = words_behind n more (drop (suc (up_to 32 l)) l) in
    let h : length rest ≤ length more + n = words_behind_lem n more (drop (suc (up_to 32 l)) l) in
    either (eqb (up_to 32 l) 0) [] (cond (leb (length l) (up_to 32 l)) more rest) (length passed + suc n) (omega arith)
    (either (leb (length l) (up_to 32 l)) more rest (length passed + suc n) (omega arith) (omega arith))

pub words_most : (line : List ℕ) → length (words_of line) ≤ 8
unfolding words_of
words_most line = words_behind_lem 8 [] line

unhexed_half : (l : List ℕ) → 2 * length (unhexed l) ≤ length l
unfolding unhexed
unhexed_half [] = omega arith
unhexed_half (a ∷ []) = omega arith
unhexed_half (a ∷ b ∷ l) = omega (arith, unhexed_half l)

pub bytes_most : (w : List ℕ) → length (bytes_of w) ≤ 600
unfolding bytes_of
bytes_most w = go (ltb 1201 (length w)) refl
  where
    go : (t : Bool) → ltb 1201 (length w) ≡ t → length (cond t [] (unhexed (drop 1 w))) ≤ 600
    go true h = omega arith
    go false h = omega (arith, ltb-false 1201 (length w) h, unhexed_half (drop 1 w), length-drop 1 w)

numbers_most : (n : ℕ) (w : List ℕ) → length (numbers_from n w) ≤ n
unfolding numbers_from
numbers_most zero w = omega arith
numbers_most (suc n) w =
    let rest : List ℕ = numbers_from n (drop (suc (up_to 44 w)) w) in
    entry
    (address_of (take (up_to 44 w) w))
    (cond (leb (length w) (up_to 44 w)) [] rest)
    (either (leb (length w) (up_to 44 w)) [] rest n (omega arith) (numbers_most n (drop (suc (up_to 44 w)) w)))
  where
    entry : (s : Option Address) (l : List ℕ) → length l ≤ n → length (entry_before s l) ≤ suc n
    entry None l h = omega arith
    entry (Some a) l h = omega arith

pub list_most_lem : (w : List ℕ) → length (list_of w) ≤ 32
unfolding list_of
list_most_lem w = numbers_most 32 w
