-- Stores into rows of bytes: into joined rows, one run behind another, into zeros; padded rows; a part that is lent and comes back.
-- Assumes nothing.
use Rattle.std.specs.Prelude.{◌≡◌, refl, List, [], ◌∷◌, ◌++◌, ℕ, zero, suc, ◌+◌, ◌-◌, ◌≤◌, length, take, drop, set, replicate}
use Rattle.std.proofs.Common.{sym, ap, ◌∙◌, append_assoc, append-nil, zero-add, suc-add, arith, length-set, length-append, take_at, drop_at, drop-drop}
use borrow.Rule.Slice.PartMut.{put_mid}
use Rattle.std.proofs.lemmas.List.{length-replicate, set-append_left}
use Rattle.std.proofs.lemmas.List.Edits.{sets, sets-eq}
use Rattle.leaf_fields.specs.Fields.{padded}

-- ---- stores

pub sets_left : (a b vs : List ℕ) (i : ℕ) → i + length vs ≤ length a → sets (a ++ b) i vs ≡ sets a i vs ++ b
sets_left a b [] i h = refl
sets_left a b (v ∷ vs) i h =
    ap (λ (r : List ℕ). sets r (suc i) vs) (set-append_left a b i v (omega arith))
    ∙ sets_left (set a i v) b vs (suc i) (simp length-set (omega arith))

set_right : (a b : List ℕ) (i v : ℕ) → set (a ++ b) (length a + i) v ≡ a ++ set b i v
set_right [] b i v = rw zero-add
set_right (x ∷ a) b i v = rw suc-add (ap (λ (r : List ℕ). x ∷ r) (set_right a b i v))

pub sets_right : (a b vs : List ℕ) (n i : ℕ) → length a + i ≡ n → sets (a ++ b) n vs ≡ a ++ sets b i vs
sets_right a b [] n i e = refl
sets_right a b (v ∷ vs) n i e =
    ap (λ (r : List ℕ). sets r (suc n) vs) (ap (λ (k : ℕ). set (a ++ b) k v) (sym e) ∙ set_right a b i v)
    ∙ sets_right a (set b i v) vs (suc n) (suc i) (omega arith)

-- into the middle one of three rows
pub sets_middle : (p q s vs : List ℕ) (n i : ℕ) → length p + i ≡ n → i + length vs ≤ length q → sets (p ++ (q ++ s)) n vs ≡ p ++ (sets q i vs ++ s)
sets_middle p q s vs n i e room = sets_right p (q ++ s) vs n i e ∙ ap (λ (r : List ℕ). p ++ r) (sets_left q s vs i room)

-- two runs, one behind the other, are one
pub sets_join : (l vs ws : List ℕ) (i n : ℕ) → i + length vs ≡ n → sets (sets l i vs) n ws ≡ sets l i (vs ++ ws)
sets_join l [] ws i n e =
    let same : n ≡ i = omega arith in
    ap (λ (k : ℕ). sets l k ws) same
sets_join l (v ∷ vs) ws i n e = sets_join (set l i v) vs ws (suc i) n (omega arith)

-- a whole row
pub sets_whole : (q vs : List ℕ) → length q ≡ length vs → sets q 0 vs ≡ vs
sets_whole q vs e =
    let room : 0 + length vs ≤ length q = omega arith in
    let full : 0 + length vs ≡ length q = omega arith in
    sets-eq vs q 0 room ∙ ap (λ (k : ℕ). vs ++ drop k q) full ∙ ap (λ (r : List ℕ). vs ++ r) (nothing_behind q) ∙ append-nil vs
  where
    nothing_behind : (l : List ℕ) → drop (length l) l ≡ []
    nothing_behind [] = refl
    nothing_behind (x ∷ l) = nothing_behind l

drop_zeros : (k n : ℕ) → drop k (replicate {A = ℕ} n 0) ≡ replicate {A = ℕ} (n - k) 0
drop_zeros zero n =
    let e : n - 0 ≡ n = omega arith in
    rw e
drop_zeros (suc k) zero =
    let e : 0 - suc k ≡ 0 = omega arith in
    rw e
drop_zeros (suc k) (suc n) =
    let e : suc n - suc k ≡ n - k = omega arith in
    rw e (drop_zeros k n)

-- into zeros
pub sets_zeros : (n : ℕ) (vs : List ℕ) → length vs ≤ n → sets (replicate n 0) 0 vs ≡ padded n vs
unfolding padded
sets_zeros n vs h =
    let z : List ℕ = replicate n 0 in
    let room : 0 + length vs ≤ length z = omega (arith, length-replicate {A = ℕ} n 0) in
    let e : 0 + length vs ≡ length vs = omega arith in
    sets-eq vs z 0 room ∙ ap (λ (k : ℕ). vs ++ drop k z) e ∙ ap (λ (r : List ℕ). vs ++ r) (drop_zeros (length vs) n)

-- ---- padded rows

pub padded_nothing : (n : ℕ) → padded n [] ≡ replicate n 0
unfolding padded
padded_nothing n =
    let e : n - 0 ≡ n = omega arith in
    rw e

-- more behind what a padded row holds
pub padded_more : (n : ℕ) (l vs : List ℕ) (i : ℕ) → i ≡ length l → length l + length vs ≤ n → sets (padded n l) i vs ≡ padded n (l ++ vs)
unfolding padded
padded_more n l vs i e room =
    let left : n - length l - length vs ≡ n - length (l ++ vs) = omega (arith, length-append l vs) in
    sets_right l (replicate (n - length l) 0) vs i 0 (omega arith)
    ∙ ap (λ (r : List ℕ). l ++ r) (sets_zeros (n - length l) vs (omega arith))
    ∙ ap (λ (k : ℕ). l ++ (vs ++ replicate k 0)) left
    ∙ sym (append_assoc l vs (replicate (n - length (l ++ vs)) 0))

-- ---- a part that is lent and comes back

pub put_middle : (p q s ys : List ℕ) (a k : ℕ) → length p ≡ a → length q ≡ k → put_mid a k (p ++ (q ++ s)) ys ≡ p ++ (ys ++ s)
put_middle p q s ys a k hp hq =
    let front : take a (p ++ (q ++ s)) ≡ p = take_at p (q ++ s) a hp in
    let behind : drop k (drop a (p ++ (q ++ s))) ≡ s = ap (drop k) (drop_at p (q ++ s) a hp) ∙ drop_at q s k hq in
    rw (front, behind)

-- what comes back, as long as what went out, stands where the part was
pub put_part : (d ys : List ℕ) (a k : ℕ) → k ≡ length ys → a + length ys ≤ length d → put_mid a k d ys ≡ sets d a ys
put_part d ys a k e room =
    ap (λ (j : ℕ). put_mid a j d ys) e
    ∙ ap (λ (r : List ℕ). take a d ++ (ys ++ r)) (drop-drop (length ys) a d)
    ∙ sym (append_assoc (take a d) ys (drop (a + length ys) d))
    ∙ sym (sets-eq ys d a room)
