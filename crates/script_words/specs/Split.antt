-- The words of a line: its parts between single spaces, and where each of them stands.
-- Assumes nothing.
use Rattle.std.specs.Prelude.{◌≡◌, cond, List, [], ◌∷◌, ◌++◌, ℕ, zero, suc, eqb, leb, length, get_or, take, drop, map}
use Rattle.script_words.specs.Text.{up_to}
use Rattle.script_words.specs.declared.words.Words.{Words}

-- word i of a row of words; past the last each is empty
abbrev pub nth : List (List ℕ) → ℕ → List ℕ
nth l i = get_or l i []

-- the words passed already, and those from here on, at most n; none at all where one of them is empty or there are more
unfoldable pub words_behind : ℕ → List (List ℕ) → List ℕ → List (List ℕ)
words_behind zero passed l = []
words_behind (suc n) passed l =
    cond (eqb (up_to 32 l) 0) []
    (cond (leb (length l) (up_to 32 l)) (passed ++ (take (up_to 32 l) l ∷ []))
    (words_behind n (passed ++ (take (up_to 32 l) l ∷ [])) (drop (suc (up_to 32 l)) l)))

-- the words of a line, at most eight
unfoldable pub words_of : List ℕ → List (List ℕ)
words_of line = words_behind 8 [] line

-- word i of the eight that are held; past them each is empty
abbrev pub word_at : Words → ℕ → List ℕ
word_at r i = nth (map (λ w. w.now) r.words) i

-- what `split` says of a line: how many words it has, and each of them
pub record Split (line : List ℕ) (r : Words) : Type 0 where
  pub count : r.n ≡ length (words_of line)
  pub each : (i : ℕ) → word_at r i ≡ nth (words_of line) i
