-- What `read` makes of a line: its step, and the step's bytes and numbers in the lent buffers. With room for all of them each is read back.
-- Assumes nothing.
use Rattle.std.specs.Prelude.{◌≡◌, Bool, true, cond, ℕ, ◌+◌, ◌-◌, ◌≤◌, eqb, length, take, unwrap_or}
use Rattle.std.proofs.Math.Path.{ap}
use Rattle.std.proofs.Common.{◌∙◌, arith}
use mathlib.Core.List.{List, [], ◌∷◌}
use Rattle.std.proofs.lemmas.List.Edits.{sets}
use Rattle.std.proofs.Math.Seq.{length-sets}
use Rattle.leaf_fields.specs.Fields.{part, span}
use Rattle.leaf_fields.specs.Laws.{part_same, part_before}
use Rattle.script_words.specs.Text.{bytes_of, list_of}
use Rattle.script_words.specs.Split.{nth, words_of}
use Rattle.script_words.specs.Limits.{bytes_most, list_most_lem}
use Rattle.script_words.specs.Written.{written, behind}
use Rattle.script.specs.declared.step.Step.{Step}
use Rattle.script.specs.declared.step.Line.{Line}
use Rattle.script.specs.Steps.{step_in, step_words, word_in}

-- an empty line, or a remark, which begins with `#`
unfoldable pub is_passed : List ℕ → Bool
is_passed [] = true
is_passed (b ∷ l) = eqb b 35

unfoldable pub step_of : List ℕ → Step
step_of line = cond (is_passed line) Step.Pass (unwrap_or (step_in (nth (words_of line)) (length (words_of line))) Step.Unreadable)

-- the bytes of a line's key, value and other value, and the numbers of its list
unfoldable pub key_of : List ℕ → List ℕ
key_of line = bytes_of (word_in (nth (words_of line)) (step_words (step_of line)).key)

unfoldable pub value_of : List ℕ → List ℕ
value_of line = bytes_of (word_in (nth (words_of line)) (step_words (step_of line)).value)

unfoldable pub other_of : List ℕ → List ℕ
other_of line = bytes_of (word_in (nth (words_of line)) (step_words (step_of line)).other)

unfoldable pub numbers_of : List ℕ → List ℕ
numbers_of line = list_of (word_in (nth (words_of line)) (step_words (step_of line)).list)

-- a line read into lent buffers: the key, the value and the other value one behind the other, and the list's numbers. `order` follows from the rest, for callers
pub record Read (line bytes list : List ℕ) (r : Line) (bytes' list' : List ℕ) : Type 0 where
  pub step : r.step ≡ step_of line
  pub key_end : r.key ≡ behind bytes 0 (length (key_of line))
  pub value_end : r.value ≡ behind bytes r.key (length (value_of line))
  pub other_end : r.other ≡ behind bytes r.value (length (other_of line))
  pub list_end : r.list ≡ behind list 0 (length (numbers_of line))
  pub stored : bytes' ≡ written (written (written bytes 0 (key_of line)) r.key (value_of line)) r.value (other_of line)
  pub numbers : list' ≡ sets list 0 (numbers_of line)
  pub order : (r.key ≤ r.value) × (r.value ≤ r.other) × (r.other ≤ length bytes') × (r.list ≤ length list')

-- ---- in buffers with room for all of them, the bytes and the numbers stand where the ends say

-- three runs, one behind the other
key_stored : (b key value other : List ℕ) (k v : ℕ) → k ≡ length key → v ≡ k + length value → v + length other ≤ length b → part (sets (sets (sets b 0 key) k value) v other) 0 k ≡ key
key_stored b key value other k v ek ev room =
    part_before (sets (sets b 0 key) k value) v other 0 k (omega arith)
    ∙ part_before (sets b 0 key) k value 0 k (omega arith)
    ∙ ap (λ (n : ℕ). part (sets b 0 key) 0 n) ek
    ∙ part_same b 0 key (omega arith)

value_stored : (b key value other : List ℕ) (k v : ℕ) → k ≡ length key → v ≡ k + length value → v + length other ≤ length b → part (sets (sets (sets b 0 key) k value) v other) k (v - k) ≡ value
value_stored b key value other k v ek ev room =
    let size : v - k ≡ length value = omega arith in
    let fits : k + length value ≤ length (sets b 0 key) = omega (arith, length-sets b 0 key) in
    part_before (sets (sets b 0 key) k value) v other k (v - k) (omega arith)
    ∙ ap (λ (n : ℕ). part (sets (sets b 0 key) k value) k n) size
    ∙ part_same (sets b 0 key) k value fits

other_stored : (b key value other : List ℕ) (k v o : ℕ) → k ≡ length key → v ≡ k + length value → o ≡ v + length other → o ≤ length b → part (sets (sets (sets b 0 key) k value) v other) v (o - v) ≡ other
other_stored b key value other k v o ek ev eo room =
    let size : o - v ≡ length other = omega arith in
    let fits : v + length other ≤ length (sets (sets b 0 key) k value) = omega (arith, length-sets (sets b 0 key) k value, length-sets b 0 key) in
    ap (λ (n : ℕ). part (sets (sets (sets b 0 key) k value) v other) v n) size
    ∙ part_same (sets (sets b 0 key) k value) v other fits

-- each has at most 600 bytes
key_most_lem : (line : List ℕ) → length (key_of line) ≤ 600
unfolding key_of
key_most_lem line = bytes_most (word_in (nth (words_of line)) (step_words (step_of line)).key)

value_most_lem : (line : List ℕ) → length (value_of line) ≤ 600
unfolding value_of
value_most_lem line = bytes_most (word_in (nth (words_of line)) (step_words (step_of line)).value)

other_most : (line : List ℕ) → length (other_of line) ≤ 600
unfolding other_of
other_most line = bytes_most (word_in (nth (words_of line)) (step_words (step_of line)).other)

numbers_most : (line : List ℕ) → length (numbers_of line) ≤ 32
unfolding numbers_of
numbers_most line = list_most_lem (word_in (nth (words_of line)) (step_words (step_of line)).list)

module _ (line bytes list : List ℕ) (r : Line) (bytes' list' : List ℕ) (h : Read line bytes list r bytes' list') where
  key_at_lem : 1800 ≤ length bytes → r.key ≡ length (key_of line)
  key_at_lem room = omega (arith, key_most_lem line)

  value_at : 1800 ≤ length bytes → r.value ≡ r.key + length (value_of line)
  value_at room = omega (arith, key_most_lem line, value_most_lem line)

  other_at : 1800 ≤ length bytes → r.other ≡ r.value + length (other_of line)
  other_at room = omega (arith, key_most_lem line, value_most_lem line, other_most line)

  pub key_there : 1800 ≤ length bytes → take r.key bytes' ≡ key_of line
  unfolding written
  key_there room =
      ap (take r.key) h.stored
      ∙ key_stored bytes (key_of line) (value_of line) (other_of line) r.key r.value (key_at_lem room) (value_at room) (omega (arith, key_most_lem line, value_most_lem line, other_most line))

  pub value_there : 1800 ≤ length bytes → span bytes' r.key r.value ≡ value_of line
  unfolding written
  value_there room =
      ap (λ (b : List ℕ). span b r.key r.value) h.stored
      ∙ value_stored bytes (key_of line) (value_of line) (other_of line) r.key r.value (key_at_lem room) (value_at room) (omega (arith, key_most_lem line, value_most_lem line, other_most line))

  pub other_there : 1800 ≤ length bytes → span bytes' r.value r.other ≡ other_of line
  unfolding written
  other_there room =
      ap (λ (b : List ℕ). span b r.value r.other) h.stored
      ∙ other_stored bytes (key_of line) (value_of line) (other_of line) r.key r.value r.other (key_at_lem room) (value_at room) (other_at room) (omega (arith, key_most_lem line, value_most_lem line, other_most line))

  pub list_there : 32 ≤ length list → take r.list list' ≡ numbers_of line
  list_there room =
      let n : r.list ≡ length (numbers_of line) = omega (arith, numbers_most line) in
      ap (take r.list) h.numbers
      ∙ ap (λ (k : ℕ). take k (sets list 0 (numbers_of line))) n
      ∙ part_same list 0 (numbers_of line) (omega (arith, numbers_most line))
