-- `script_words::words::split` meets its contract. The loop's invariant: the first n words are the line's first pieces, none of them empty, and the others are empty.
-- Assumes nothing.
use Rattle.std.proofs.Common.{◌≡◌, ℕ, ◌≤◌, Bool, true, not, eqb, List, length, take, map}
use Rattle.std.specs.List.{list_all}
use Rattle.script_words.specs.Split.{nth}
use Rattle.script_words.proofs.Pieces.{pieces}
use Rattle.script_words.proofs.words.split.Given as goal

-- a piece that can be a word
abbrev pub full : List ℕ → Bool
full p = not (eqb (length p) 0)

abbrev pub invariant-loop-word : goal.invariant-loop-word
invariant-loop-word l = record {
  size : length l.words ≡ 8;
  most : l.n ≤ 8;
  count : l.n ≡ length l.yielded;
  passed : list_all full (take l.n (pieces 32 l.line)) ≡ true;
  each : (i : ℕ) → nth (map (λ w. w.now) l.words) i ≡ nth (take l.n (pieces 32 l.line)) i;
}
