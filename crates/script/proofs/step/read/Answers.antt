-- `script::step::read` meets its contract: the words that were split off are the line's words, and their bytes and numbers are stored one behind the other.
-- Assumes nothing.
use Rattle.std.proofs.Common.{arith, ◌≡◌, refl, sym, ap, ◌∙◌, ℕ, Bool, true, false, List, [], length, Option, unwrap_or}
use mathlib.Core.Path.{fun_ext}
use Rattle.std.proofs.Math.Seq.{sets, length-sets}
use Rattle.script_words.specs.declared.words.Words.{Words}
use Rattle.script_words.specs.Text.{up_to, number_of, unhexed, bytes_of, numbers_from, list_of}
use Rattle.script_words.specs.Split.{nth, words_of, word_at, Split}
use Rattle.script_words.specs.Written.{written, behind}
use Rattle.script_words.specs.LentLaws.{length-written}
use Rattle.script_message.specs.declared.places.Places.{Places}
use Rattle.script.specs.declared.step.Step.{Step}
use Rattle.script.specs.Steps.{step_in, step_words, word_in}
use Rattle.script.specs.Read.{is_passed, step_of, key_of, value_of, other_of, numbers_of, Read}
use Rattle.script.proofs.step.read.Goals as goal

-- ---- a line that is passed over

pass : (line : List ℕ) (t : Bool) → t ≡ is_passed line → t ≡ true → step_of line ≡ Step.Pass
unfolding step_of
pass line t e h = rw (← e, h)

no_bytes : bytes_of [] ≡ []
unfolding bytes_of unhexed
no_bytes = refl

no_numbers : list_of [] ≡ []
unfolding list_of numbers_from number_of up_to
no_numbers = refl

passed_over : (line bytes list : List ℕ) (t : Bool) → t ≡ is_passed line → t ≡ true → Read line bytes list (record { step = Step.Pass; key = 0; value = 0; other = 0; list = 0 }) bytes list
unfolding key_of value_of other_of numbers_of written
passed_over line bytes list t e h =
    let p : step_of line ≡ Step.Pass = pass line t e h in
    let k : key_of line ≡ [] = rw p no_bytes in
    let v : value_of line ≡ [] = rw p no_bytes in
    let o : other_of line ≡ [] = rw p no_bytes in
    let n : numbers_of line ≡ [] = rw p no_numbers in
    record {
      step = sym p;
      key_end = omega (arith, ap length k);
      value_end = omega (arith, ap length v);
      other_end = omega (arith, ap length o);
      list_end = omega (arith, ap length n);
      stored = rw (k, v, o);
      numbers = rw n;
      order = (omega arith, omega arith, omega arith, omega arith);
    }

-- ---- any other line

step_read : (line : List ℕ) (words : Words) (t : Bool) (o : Option Step) (s : Step) → t ≡ is_passed line → t ≡ false → Split line words → o ≡ step_in (word_at words) words.n → s ≡ unwrap_or o Step.Unreadable → s ≡ step_of line
unfolding step_of
step_read line words t o s e h parts f g =
    let w : word_at words ≡ nth (words_of line) = fun_ext parts.each in
    let k : o ≡ step_in (nth (words_of line)) (length (words_of line)) = f ∙ ap (λ (ws : ℕ → List ℕ). step_in ws words.n) w ∙ ap (step_in (nth (words_of line))) parts.count in
    rw (← e, h) (g ∙ ap (λ (x : Option Step). unwrap_or x Step.Unreadable) k)

read_in : (line bytes first second stored list numbers key value other entries : List ℕ) (words : Words) (t : Bool) (u : Option Step) (s : Step) (p : Places) (k v o n : ℕ)
    → t ≡ is_passed line → t ≡ false → Split line words → u ≡ step_in (word_at words) words.n → s ≡ unwrap_or u Step.Unreadable → p ≡ step_words s
    → key ≡ word_in (word_at words) p.key → k ≡ behind bytes 0 (length (bytes_of key)) → first ≡ written bytes 0 (bytes_of key)
    → value ≡ word_in (word_at words) p.value → v ≡ behind first k (length (bytes_of value)) → second ≡ written first k (bytes_of value)
    → other ≡ word_in (word_at words) p.other → o ≡ behind second v (length (bytes_of other)) → stored ≡ written second v (bytes_of other)
    → entries ≡ word_in (word_at words) p.list → n ≡ behind list 0 (length (list_of entries)) → numbers ≡ sets list 0 (list_of entries)
    → Read line bytes list (record { step = s; key = k; value = v; other = o; list = n }) stored numbers
unfolding key_of value_of other_of numbers_of
read_in line bytes first second stored list numbers key value other entries words t u s p k v o n e h parts f g q wk ke kb wv ve vb wo oe ob wl le lb =
    let is : s ≡ step_of line = step_read line words t u s e h parts f g in
    let w : word_at words ≡ nth (words_of line) = fun_ext parts.each in
    let place : p ≡ step_words (step_of line) = q ∙ ap step_words is in
    let hk : bytes_of key ≡ key_of line = ap bytes_of (wk ∙ rw (w, place) refl) in
    let hv : bytes_of value ≡ value_of line = ap bytes_of (wv ∙ rw (w, place) refl) in
    let ho : bytes_of other ≡ other_of line = ap bytes_of (wo ∙ rw (w, place) refl) in
    let hl : list_of entries ≡ numbers_of line = ap list_of (wl ∙ rw (w, place) refl) in
    let lk : length (bytes_of key) ≡ length (key_of line) = ap length hk in
    let lv : length (bytes_of value) ≡ length (value_of line) = ap length hv in
    let lo : length (bytes_of other) ≡ length (other_of line) = ap length ho in
    let ll : length (list_of entries) ≡ length (numbers_of line) = ap length hl in
    let one : length first ≡ length bytes = ap length kb ∙ length-written bytes (bytes_of key) 0 in
    let two : length second ≡ length first = ap length vb ∙ length-written first (bytes_of value) k in
    let three : length stored ≡ length second = ap length ob ∙ length-written second (bytes_of other) v in
    let four : length numbers ≡ length list = ap length lb ∙ length-sets list 0 (list_of entries) in
    record {
      step = is;
      key_end = omega arith;
      value_end = omega arith;
      other_end = omega arith;
      list_end = omega arith;
      stored = ob ∙ rw (vb, kb, hk, hv, ho);
      numbers = lb ∙ rw hl;
      order = (omega arith, omega arith, omega arith, omega arith);
    }

pub returns-then-is_passed : goal.returns-then-is_passed
returns-then-is_passed c = search passed_over depth 9

pub returns : goal.returns
returns c =
    read_in _ _ _ _ _ _ _ _ _ _ _ _ _ _ _ _ _ _ _ _
    c.is_passed.ensures
    c.if-is_passed.false
    c.split-words.ensures
    c.read_step.ensures
    c.unwrap_or-step.ensures
    c.step_places-places.ensures
    c.word_in.ensures
    c.unhex-key.ensures.1
    c.unhex-key.ensures.2
    c.word_in-2.ensures
    c.unhex-value.ensures.1
    c.unhex-value.ensures.2
    c.word_in-3.ensures
    c.unhex-other.ensures.1
    c.unhex-other.ensures.2
    c.word_in-4.ensures
    c.read_list-n.ensures.0
    c.read_list-n.ensures.1
