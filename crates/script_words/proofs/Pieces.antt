-- How far a byte is in a list, and the pieces between such bytes: the one piece, or the first and the pieces behind it.
-- Assumes nothing.
use Rattle.std.proofs.Common.{arith, ◌≡◌, refl, ap, ◌∙◌, Bor, ℕ, zero, suc, ◌+◌, ◌≤◌, ◌<◌, Bool, true, false, ◌&&◌, ◌||◌, cond, eqb, lt-ltb, ltb, leb, leb-false, leb-true, List, [], ◌∷◌, length, take, drop, is_some}
use Rattle.std.proofs.Math.Seq.{take-length}
use Rattle.std.specs.List.{position_or_len, slice_split, onto_first, list_all, enumerate_from}
use Rattle.std.proofs.lemmas.List.Recursion.{is_position_or_len}
use denote.Param.Members.{Mut}
use Rattle.std.specs.Fn.{CalledAt}
use Rattle.std.specs.Slice.Iter.{split_rest, split_done, split_callee, split_steps}
use Rattle.std.specs.declared.slice.Split.{Split}
use Rattle.std.proofs.lemmas.Iterator.{YieldsList}
use Rattle.std.proofs.lemmas.Iterator.Splits.{YieldsList-from_slice_split}
use Rattle.script_words.specs.Text.{up_to, address_of, entry_before, numbers_from, list_from}

suc_is : (n : ℕ) → suc n ≡ 1 + n
suc_is n = omega arith

pub place_is : (b : ℕ) (l : List ℕ) → up_to b l ≡ position_or_len (λ x. eqb x b) l
unfolding up_to
place_is b l = is_position_or_len (up_to b) (λ x. eqb x b) refl (λ x xs. rw (← suc_is (up_to b xs)) refl) l

pub up_to_most : (b : ℕ) (l : List ℕ) → up_to b l ≤ length l
unfolding up_to
up_to_most b [] = omega arith
up_to_most b (x ∷ l) = go (eqb x b) (up_to_most b l)
  where
    go : (t : Bool) → up_to b l ≤ length l → cond t 0 (suc (up_to b l)) ≤ suc (length l)
    go true h = omega arith
    go false h = omega arith

abbrev pub pieces : ℕ → List ℕ → List (List ℕ)
pieces b l = slice_split (λ x. eqb x b) l

pub one_piece : (b : ℕ) (l : List ℕ) → length l ≤ up_to b l → pieces b l ≡ l ∷ []
unfolding up_to
one_piece b [] h = refl
one_piece b (x ∷ l) h = go (eqb x b) h (λ k. one_piece b l k)
  where
    go : (t : Bool) → suc (length l) ≤ cond t 0 (suc (up_to b l)) → (length l ≤ up_to b l → pieces b l ≡ l ∷ []) → cond t ([] ∷ pieces b l) (onto_first x (pieces b l)) ≡ (x ∷ l) ∷ []
    go true k f = absurd (omega arith)
    go false k f = rw (f (omega arith)) refl

pub first_piece : (b : ℕ) (l : List ℕ) → up_to b l < length l → pieces b l ≡ take (up_to b l) l ∷ pieces b (drop (suc (up_to b l)) l)
unfolding up_to
first_piece b [] h = absurd (omega arith)
first_piece b (x ∷ l) h = go (eqb x b) h (λ k. first_piece b l k)
  where
    go : (t : Bool) → cond t 0 (suc (up_to b l)) < suc (length l) → (up_to b l < length l → pieces b l ≡ take (up_to b l) l ∷ pieces b (drop (suc (up_to b l)) l)) → cond t ([] ∷ pieces b l) (onto_first x (pieces b l)) ≡ take (cond t 0 (suc (up_to b l))) (x ∷ l) ∷ pieces b (drop (suc (cond t 0 (suc (up_to b l)))) (x ∷ l))
    go true k f = refl
    go false k f = rw (f (omega arith)) refl

-- an iterator over the pieces, which is what a `split` gave
pub yields_pieces : {F : Type 0} {s t : Split ℕ F} (g : Mut F (Bor ℕ × Unit {0}) Bool) (b : ℕ) (l : List ℕ) {f : F} → s ≡ t → split_rest t ≡ l → split_done t ≡ false → split_callee t ≡ f → ((x : ℕ) (r : Bool) (q : F) → CalledAt g f x r q → (q ≡ f) × (r ≡ eqb x b)) → YieldsList (split_steps g) (λ x. x.now) s (pieces b l)
yields_pieces g b l e rest done callee computes =
    YieldsList-from_slice_split g (λ x. eqb x b) l (ap split_rest e ∙ rest) (ap split_done e ∙ done) (ap split_callee e ∙ callee) computes

-- ---- a list's word is read by its pieces

-- the first n numbers; what is no number ends them
unfoldable pub numbers : ℕ → List (List ℕ) → List ℕ
numbers zero ps = []
numbers (suc n) [] = []
numbers (suc n) (p ∷ ps) = entry_before (address_of p) (numbers n ps)

pub nothing : (n : ℕ) → numbers n [] ≡ []
unfolding numbers
nothing zero = refl
nothing (suc n) = refl

pub numbers_are : (n : ℕ) (w : List ℕ) → numbers_from n w ≡ numbers n (pieces 44 w)
unfolding numbers_from numbers
numbers_are zero w = refl
numbers_are (suc n) w = go (leb (length w) (up_to 44 w)) refl (numbers_are n (drop (suc (up_to 44 w)) w))
  where
    go : (t : Bool) → leb (length w) (up_to 44 w) ≡ t → numbers_from n (drop (suc (up_to 44 w)) w) ≡ numbers n (pieces 44 (drop (suc (up_to 44 w)) w)) → entry_before (address_of (take (up_to 44 w) w)) (cond t [] (numbers_from n (drop (suc (up_to 44 w)) w))) ≡ numbers (suc n) (pieces 44 w)
    go true h e =
        let u : up_to 44 w ≡ length w = omega (arith, up_to_most 44 w, leb-true _ _ h) in
        rw (one_piece 44 w (leb-true _ _ h), u, take-length w, nothing n) refl
    go false h e = rw (first_piece 44 w (leb-false _ _ h), e) refl

-- an entry of a list, with its place
abbrev pub is_entry : ℕ × List ℕ → Bool
is_entry p = ltb p.0 32 && is_some (address_of p.1)

pub entries_are : (n k : ℕ) (w : List ℕ) → n + k ≡ 32 → list_from n w ≡ list_all is_entry (enumerate_from k (pieces 44 w))
unfolding list_from
entries_are zero k w r =
    let e : k ≡ 32 = omega arith in
    rw e (go (leb (length w) (up_to 44 w)) refl)
  where
    go : (t : Bool) → leb (length w) (up_to 44 w) ≡ t → false ≡ list_all is_entry (enumerate_from 32 (pieces 44 w))
    go true h = rw (one_piece 44 w (leb-true _ _ h)) refl
    go false h = rw (first_piece 44 w (leb-false _ _ h)) refl
entries_are (suc n) k w r =
    go (leb (length w) (up_to 44 w)) refl (entries_are n (k + 1) (drop (suc (up_to 44 w)) w) (omega arith)) (lt-ltb k 32 (omega arith))
  where
    go : (t : Bool) → leb (length w) (up_to 44 w) ≡ t → list_from n (drop (suc (up_to 44 w)) w) ≡ list_all is_entry (enumerate_from (k + 1) (pieces 44 (drop (suc (up_to 44 w)) w))) → ltb k 32 ≡ true → is_some (address_of (take (up_to 44 w) w)) && (t || list_from n (drop (suc (up_to 44 w)) w)) ≡ list_all is_entry (enumerate_from k (pieces 44 w))
    go true h e l =
        let u : up_to 44 w ≡ length w = omega (arith, up_to_most 44 w, leb-true _ _ h) in
        rw (one_piece 44 w (leb-true _ _ h), u, take-length w, l) refl
    go false h e l = rw (first_piece 44 w (leb-false _ _ h), e, l) refl
