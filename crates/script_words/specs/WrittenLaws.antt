-- The laws of what is put out: two texts behind each other are one, no text changes nothing, and what is left to put in a loop. Nothing is stored past a lent buffer's end.
-- Assumes nothing.
use Rattle.std.specs.Prelude.{◌≡◌, refl, Bool, true, false, List, [], ◌∷◌, ◌++◌, ℕ, zero, suc, ◌+◌, ◌-◌, ◌≤◌, ◌<◌, min, ltb, length, take, drop, set}
use Rattle.std.proofs.Common.{ap, sym, ◌∙◌, arith, append_assoc, add-one, length-append, length-set, length-take-le, ltb-true, ltb-false}
use Rattle.std.proofs.lemmas.List.Edits.{sets}
use Rattle.std.proofs.lemmas.List.{append-nil, take_more_set, length-take, take-append-drop}
use Rattle.std.proofs.Math.Nat.{sub-zero}
use Rattle.std.proofs.Math.Seq.{set_out, take-length, length-sets}
use Rattle.leaf_fields.specs.Stores.{sets_join}
use Rattle.script_words.specs.Written.{put, written, behind}

-- nothing is stored past the end
pub sets_past : (l vs : List ℕ) (i : ℕ) → length l ≤ i → sets l i vs ≡ l
sets_past l [] i h = refl
sets_past l (a ∷ vs) i h = rw (set_out l i a h) (sets_past l vs (suc i) (omega arith))

-- as many bytes as fit are all that can be stored
pub cut : (out vs : List ℕ) (at n : ℕ) → at ≤ length out → n ≡ min (length vs) (length out - at) → sets out at (take n vs) ≡ sets out at vs
cut out vs at n h e = go (ltb (length vs) (length out - at)) refl
  where
    go : (t : Bool) → ltb (length vs) (length out - at) ≡ t → sets out at (take n vs) ≡ sets out at vs
    go true k =
        let l : n ≡ length vs = omega (arith, ltb-true _ _ k) in
        rw (l, take-length vs) refl
    go false k =
        let m : at + length (take n vs) ≡ at + n = omega (arith, length-take n vs, ltb-false _ _ k) in
        let past : length (sets out at (take n vs)) ≤ at + n = omega (arith, length-sets out at (take n vs), ltb-false _ _ k) in
        sym (sets_past (sets out at (take n vs)) (drop n vs) (at + n) past)
        ∙ sets_join out (take n vs) (drop n vs) at (at + n) m
        ∙ ap (sets out at) (take-append-drop n vs)

-- what fits of a text, and of another in the room that it leaves, is what fits of both
taken : (m : ℕ) (s t : List ℕ) → take m s ++ take (m - length (take m s)) t ≡ take m (s ++ t)
taken zero s t = refl
taken (suc m) [] t = rw (sub-zero (suc m))
taken (suc m) (a ∷ s) t =
    let e : suc m - suc (length (take m s)) ≡ m - length (take m s) = omega arith in
    rw e (ap (λ (l : List ℕ). a ∷ l) (taken m s t))

none_taken : (m : ℕ) → take {A = ℕ} m [] ≡ []
none_taken zero = refl
none_taken (suc m) = refl

pub put_nothing : (n : ℕ) (out : List ℕ) → put n out [] ≡ out
unfolding put
put_nothing n out = rw (none_taken (n - length out)) (append-nil out)

-- a text, and another behind it, is both as one text
pub joined : (n : ℕ) (out s t : List ℕ) → put n (put n out s) t ≡ put n out (s ++ t)
unfolding put
joined n out s t =
    let m : ℕ = n - length out in
    let e : n - length (out ++ take m s) ≡ m - length (take m s) = rw (length-append out (take m s)) (omega arith) in
    rw e (append_assoc out (take m s) (take (m - length (take m s)) t) ∙ ap (λ (l : List ℕ). out ++ l) (taken m s t))

-- ---- in a loop, where what is left to put gives the whole

pub less_left : (n : ℕ) (out next left s rest whole : List ℕ) → next ≡ put n out s → left ≡ s ++ rest → put n out left ≡ whole → put n next rest ≡ whole
less_left n out next left s rest whole e f g = rw (e, joined n out s rest) (rw f at g)

-- nothing is left
pub none_left : (n : ℕ) (out left whole : List ℕ) → left ≡ [] → put n out left ≡ whole → out ≡ whole
none_left n out left whole e g = sym (put_nothing n out) ∙ rw e at g

-- ---- the same in a lent buffer: what then stands before the place behind is what was there, and the text behind it

stored : (text buf : List ℕ) (at : ℕ) → at ≤ length buf → take (min (at + length text) (length buf)) (sets buf at text) ≡ take at buf ++ take (length buf - at) text
stored [] buf at h =
    let e : min (at + 0) (length buf) ≡ at = omega arith in
    rw (e, none_taken (length buf - at), append-nil (take at buf))
stored (a ∷ text) buf at h = by_room (ltb at (length buf)) refl (λ k. stored text (set buf at a) (suc at) k)
  where
    by_room : (t : Bool) → ltb at (length buf) ≡ t → (suc at ≤ length (set buf at a) → take (min (suc at + length text) (length (set buf at a))) (sets (set buf at a) (suc at) text) ≡ take (suc at) (set buf at a) ++ take (length (set buf at a) - suc at) text) → take (min (at + suc (length text)) (length buf)) (sets buf at (a ∷ text)) ≡ take at buf ++ take (length buf - at) (a ∷ text)
    by_room true e next =
        let more : at < length buf = ltb-true at (length buf) e in
        let l : length (set buf at a) ≡ length buf = length-set buf at a in
        let m : at + suc (length text) ≡ suc at + length text = omega arith in
        let n : length buf - at ≡ suc (length buf - suc at) = omega arith in
        let front : take (suc at) (set buf at a) ≡ take at buf ++ a ∷ [] = rw (← add-one) (take_more_set buf at a more) in
        rw (m, n) (rw (l, front) at (next (omega arith)) ∙ append_assoc (take at buf) (a ∷ []) (take (length buf - suc at) text))
    by_room false e next =
        let all : length buf ≤ at = ltb-false at (length buf) e in
        let k : min (at + suc (length text)) (length buf) ≡ at = omega arith in
        let z : length buf - at ≡ 0 = omega arith in
        rw (k, z, sets_past buf (a ∷ text) at all, append-nil (take at buf))

pub put_stored : (text buf : List ℕ) (at : ℕ) → at ≤ length buf → take (behind buf at (length text)) (written buf at text) ≡ put (length buf) (take at buf) text
unfolding put written
put_stored text buf at h = rw (length-take-le at buf h) (stored text buf at h)
