-- The laws of a text that is put into a lent buffer from a place on: two texts behind each other are one, and what is left to put in a loop; also where the place is past the end. `put_stored` (WrittenLaws) says what of it stands before the place behind.
-- Assumes nothing.
use Rattle.std.specs.Prelude.{◌≡◌, refl, Bool, true, false, List, [], ◌∷◌, ◌++◌, ℕ, suc, ◌+◌, ◌-◌, ◌≤◌, ◌<◌, min, ltb, length, take, set}
use Rattle.std.proofs.Common.{sym, ap, ◌∙◌, le_refl, add-zero, arith, ltb-true, ltb-false, length-set, length-append}
use Rattle.std.proofs.lemmas.List.Edits.{sets}
use Rattle.std.proofs.Math.Seq.{length-sets}
use Rattle.script_words.specs.Written.{written, behind, put}
use Rattle.script_words.specs.WrittenLaws.{sets_past, cut, put_stored}

-- a text was put at a place: the place behind it, and every byte of the buffer afterwards
pub record Put (out : List ℕ) (at : ℕ) (text : List ℕ) (r : ℕ) (after : List ℕ) : Type 0 where
  pub within : r ≤ length after
  pub place : r ≡ behind out at (length text)
  pub bytes : after ≡ written out at text

-- ---- at a place past the end nothing is put, as at the end

from_inside : (out t : List ℕ) (at : ℕ) (b : Bool) → ltb at (length out) ≡ b → sets out (min at (length out)) t ≡ sets out at t
from_inside out t at true h =
    let k : at < length out = ltb-true at (length out) h in
    let e : min at (length out) ≡ at = omega arith in
    rw e
from_inside out t at false h =
    let k : length out ≤ at = ltb-false at (length out) h in
    let e : min at (length out) ≡ length out = omega arith in
    rw (e, sets_past out t (length out) (le_refl (length out)), sets_past out t at k)

-- what fits of a text, stored at a place or at the end
pub placed : (out text after : List ℕ) (at k n : ℕ) → k ≡ min at (length out) → n ≡ min (length text) (length out - k) → after ≡ sets out k (take n text) → Put out at text (k + n) after
unfolding written
placed out text after at k n ek en e =
    let l : length after ≡ length out = rw e (length-sets out k (take n text)) in
    record {
      within = omega arith;
      place = omega arith;
      bytes = e ∙ cut out text k n (omega arith) en ∙ rw ek (from_inside out text at (ltb at (length out)) refl);
    }

-- ---- a text, and another behind it, is both as one text

sets-behind : (out s t : List ℕ) (at : ℕ) → sets (sets out at s) (behind out at (length s)) t ≡ sets out at (s ++ t)
sets-behind out [] t at = rw (add-zero at) (from_inside out t at (ltb at (length out)) refl)
sets-behind out (a ∷ s) t at =
    let e : behind (set out at a) (suc at) (length s) ≡ behind out at (length (a ∷ s)) = rw (length-set out at a) (omega arith) in
    rw (← e) (sets-behind (set out at a) s t (suc at))

pub length-written : (out s : List ℕ) (at : ℕ) → length (written out at s) ≡ length out
unfolding written
length-written out s at = length-sets out at s

written-behind : (out s t : List ℕ) (at : ℕ) → written (written out at s) (behind out at (length s)) t ≡ written out at (s ++ t)
unfolding written
written-behind out s t at = sets-behind out s t at

-- a buffer keeps its length
same-length : {out s mid : List ℕ} {at p : ℕ} → Put out at s p mid → length mid ≡ length out
same-length {out} {s} {mid} {at} h = rw h.bytes (length-written out s at)

pub joined : {out s t mid after : List ℕ} {at p r : ℕ} → Put out at s p mid → Put mid p t r after → Put out at (s ++ t) r after
joined {out} {s} {t} {mid} {after} {at} {p} {r} f g =
    let l : length mid ≡ length out = same-length f in
    let e : r ≡ behind out at (length (s ++ t)) = rw (length-append s t) (omega (arith, f.place, g.place)) in
    let b : after ≡ written out at (s ++ t) = g.bytes ∙ rw (f.bytes, f.place) (written-behind out s t at) in
    record { within = g.within; place = e; bytes = b }

-- the same of a text that the two are
pub both : {out s t u mid after : List ℕ} {at p r : ℕ} → Put out at s p mid → Put mid p t r after → u ≡ s ++ t → Put out at u r after
both f g e = rw e (joined f g)

-- ---- in a loop

-- what is left to put at p gives the whole
pub record Left (out₀ : List ℕ) (at : ℕ) (whole out : List ℕ) (p : ℕ) (left : List ℕ) : Type 0 where
  pub size : length out ≡ length out₀
  pub place : behind out p (length left) ≡ behind out₀ at (length whole)
  pub bytes : written out p left ≡ written out₀ at whole

pub all_left : {out whole : List ℕ} {at : ℕ} → Left out at whole out at whole
all_left = record { size = refl; place = refl; bytes = refl }

pub less_left : {out₀ whole out left s rest next : List ℕ} {at p q : ℕ} → Left out₀ at whole out p left → Put out p s q next → left ≡ s ++ rest → Left out₀ at whole next q rest
less_left {out₀} {whole} {out} {left} {s} {rest} {next} {at} {p} {q} h f e =
    let l : length next ≡ length out = same-length f in
    let n : length left ≡ length s + length rest = rw e (length-append s rest) in
    let b : written next q rest ≡ written out p left = rw (f.bytes, f.place, e) (written-behind out s rest p) in
    record { size = l ∙ h.size; place = omega (arith, h.place, f.place); bytes = b ∙ h.bytes }

nothing_more : {out₀ whole out left : List ℕ} {at p : ℕ} → Left out₀ at whole out p left → left ≡ [] → out ≡ written out₀ at whole
unfolding written
nothing_more {out₀} {whole} {out} {left} {at} {p} h e =
    let b : written out p left ≡ out = rw e in
    sym b ∙ h.bytes

-- nothing is left
pub none_left : {out₀ whole out left : List ℕ} {at p : ℕ} → Left out₀ at whole out p left → left ≡ [] → p ≤ length out → Put out₀ at whole p out
none_left h e k =
    record { within = k; place = omega (arith, h.place, ap length e); bytes = nothing_more h e }

-- nothing is left, and the place is past the end
pub none_fits : {out₀ whole out left : List ℕ} {at p : ℕ} → Left out₀ at whole out p left → left ≡ [] → length out < p → Put out₀ at whole (length out) out
none_fits {out₀} {whole} {out} h e k =
    record { within = le_refl (length out); place = omega (arith, h.place, ap length e); bytes = nothing_more h e }

-- nothing is left, wherever the place is
pub all_put : {out₀ whole out left : List ℕ} {at p r : ℕ} → Left out₀ at whole out p left → left ≡ [] → r ≡ min p (length out) → Put out₀ at whole r out
all_put {out₀} {whole} {out} {left} {at} {p} {r} h nothing e = by_test (ltb (length out) p) refl
  where
    by_test : (t : Bool) → ltb (length out) p ≡ t → Put out₀ at whole r out
    by_test true k = let f : r ≡ length out = omega (arith, ltb-true _ _ k) in rw f (none_fits h nothing (ltb-true _ _ k))
    by_test false k = let f : r ≡ p = omega (arith, ltb-false _ _ k) in rw f (none_left h nothing (ltb-false _ _ k))

-- ---- in a buffer with what is put out at its front

pub put_in : (n : ℕ) (buf out text after : List ℕ) (at r : ℕ) → length buf ≡ n → at ≤ n → take at buf ≡ out → Put buf at text r after → take r after ≡ put n out text
put_in n buf out text after at r size within was p =
    rw (p.bytes, p.place, ← was, ← size) (put_stored text buf at (omega arith))
