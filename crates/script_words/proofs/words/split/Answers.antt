-- `script_words::words::split` meets its contract: the pieces between the spaces, where none is empty and there are eight at most.
-- Assumes nothing.
use Rattle.std.proofs.Common.{rules, tests, arith, ◌≡◌, refl, sym, ◌∙◌, ℕ, zero, suc, ◌+◌, ◌≤◌, ◌<◌, Bool, true, false, not, ◌&&◌, cond, eqb, ltb, leb, ltb-true, ltb-false, le-leb, leb-true, leb-false, Bor, List, [], ◌∷◌, ◌++◌, append_assoc, length, get_or, set, map, take, drop, get_or-set_same, get_or-set_other, length-set, inl, inr}
use native.Mathlib.Decide.{ℕ_discrete}
use Rattle.std.proofs.Math.Dec.{leb-suc-suc}
use Rattle.std.proofs.Math.ListN.{get_or-eq_default}
use Rattle.std.proofs.Math.Seq.{take-length}
use Rattle.std.proofs.lemmas.Bool.{lt-leb}
use Rattle.std.proofs.lemmas.List.{get_or_read, length-map, length_push, length-take, length-take-le, take_more, get_or-take, map-set}
use Rattle.std.proofs.lemmas.List.Folds.{list_all-append}
use Rattle.std.proofs.lemmas.List.Recursion.{and_fails_at}
use Rattle.std.proofs.lemmas.List.Splits.{length-slice_split}
use Rattle.std.proofs.lemmas.Iterator.Consumers.{YieldsList-turn, YieldsList-end}
use Rattle.std.specs.List.{list_all}
use Rattle.script_words.specs.Text.{up_to}
use Rattle.script_words.specs.Split.{nth, words_behind, words_of, word_at, Split}
use Rattle.script_words.specs.declared.words.Words.{Words}
use Rattle.script_words.proofs.Pieces.{pieces, yields_pieces, one_piece, first_piece, up_to_most}
use Rattle.script_words.proofs.words.split.Invariants.{full}
use Rattle.script_words.proofs.words.split.Goals as goal

-- ---- the words are the pieces, where they are no more than n and none is empty

one : (n : ℕ) (passed : List (List ℕ)) (l : List ℕ) → length l ≤ up_to 32 l → cond (eqb (up_to 32 l) 0) [] (passed ++ (take (up_to 32 l) l ∷ [])) ≡ cond (leb (length (pieces 32 l)) (suc n) && list_all full (pieces 32 l)) (passed ++ pieces 32 l) []
one n passed l h =
    let u : up_to 32 l ≡ length l = omega (arith, up_to_most 32 l) in
    rw (one_piece 32 l h, u, take-length l, le-leb 1 (suc n) (omega arith)) (go (eqb (length l) 0))
  where
    go : (t : Bool) → cond t [] (passed ++ (l ∷ [])) ≡ cond (not t && true) (passed ++ (l ∷ [])) []
    go true = refl
    go false = refl

more : (n : ℕ) (passed : List (List ℕ)) (l : List ℕ) (rest : List (List ℕ)) → up_to 32 l < length l → rest ≡ cond (leb (length (pieces 32 (drop (suc (up_to 32 l)) l))) n && list_all full (pieces 32 (drop (suc (up_to 32 l)) l))) ((passed ++ (take (up_to 32 l) l ∷ [])) ++ pieces 32 (drop (suc (up_to 32 l)) l)) [] → cond (eqb (up_to 32 l) 0) [] rest ≡ cond (leb (length (pieces 32 l)) (suc n) && list_all full (pieces 32 l)) (passed ++ pieces 32 l) []
more n passed l rest h e =
    let u : length (take (up_to 32 l) l) ≡ up_to 32 l = length-take-le (up_to 32 l) l (omega arith) in
    rw (first_piece 32 l h, leb-suc-suc, u, e, append_assoc) (go (eqb (up_to 32 l) 0) (leb (length (pieces 32 (drop (suc (up_to 32 l)) l))) n))
  where
    go : (t b : Bool) → cond t [] (cond (b && list_all full (pieces 32 (drop (suc (up_to 32 l)) l))) (passed ++ (take (up_to 32 l) l ∷ pieces 32 (drop (suc (up_to 32 l)) l))) []) ≡ cond (b && (not t && list_all full (pieces 32 (drop (suc (up_to 32 l)) l)))) (passed ++ (take (up_to 32 l) l ∷ pieces 32 (drop (suc (up_to 32 l)) l))) []
    go true true = refl
    go true false = refl
    go false b = refl

behind_is : (n : ℕ) (passed : List (List ℕ)) (l : List ℕ) → words_behind n passed l ≡ cond (leb (length (pieces 32 l)) n && list_all full (pieces 32 l)) (passed ++ pieces 32 l) []
unfolding words_behind
behind_is zero passed l =
    let k : 0 < length (pieces 32 l) = omega (arith, length-slice_split (λ x. eqb x 32) l) in
    rw (lt-leb _ _ k) refl
behind_is (suc n) passed l =
    go (leb (length l) (up_to 32 l)) refl (behind_is n (passed ++ (take (up_to 32 l) l ∷ [])) (drop (suc (up_to 32 l)) l))
  where
    go : (t : Bool) → leb (length l) (up_to 32 l) ≡ t → words_behind n (passed ++ (take (up_to 32 l) l ∷ [])) (drop (suc (up_to 32 l)) l) ≡ cond (leb (length (pieces 32 (drop (suc (up_to 32 l)) l))) n && list_all full (pieces 32 (drop (suc (up_to 32 l)) l))) ((passed ++ (take (up_to 32 l) l ∷ [])) ++ pieces 32 (drop (suc (up_to 32 l)) l)) [] → cond (eqb (up_to 32 l) 0) [] (cond t (passed ++ (take (up_to 32 l) l ∷ [])) (words_behind n (passed ++ (take (up_to 32 l) l ∷ [])) (drop (suc (up_to 32 l)) l))) ≡ cond (leb (length (pieces 32 l)) (suc n) && list_all full (pieces 32 l)) (passed ++ pieces 32 l) []
    go true k e = one n passed l (leb-true _ _ k)
    go false k e = more n passed l _ (leb-false _ _ k) e

-- ---- a turn

still : (n : ℕ) (ps : List (List ℕ)) → n < length ps → list_all full (take n ps) ≡ true → full (nth ps n) ≡ true → list_all full (take (n + 1) ps) ≡ true
still n ps h e f =
    rw (take_more ps n [] h, list_all-append full (take n ps) (nth ps n ∷ []), e, f) refl

step : (ws ps : List (List ℕ)) (n : ℕ) (p : List ℕ) → n < length ws → n < length ps → p ≡ nth ps n → ((i : ℕ) → nth ws i ≡ nth (take n ps) i) → (i : ℕ) → nth (set ws n p) i ≡ nth (take (n + 1) ps) i
step ws ps n p room within e each i =
    elim (ℕ_discrete i n) [
      | yes q ↦
          let k : n < n + 1 = omega arith in
          rw (q, get_or-set_same ws n p [] room, get_or-take (n + 1) ps n [] k) e
      | no ne ↦ get_or-set_other ws n i p [] ne ∙ each i ∙ go (ltb i n) refl ne
    ]
  where
    go : (t : Bool) → ltb i n ≡ t → (i ≡ n → ⊥) → nth (take n ps) i ≡ nth (take (n + 1) ps) i
    go true h ne =
        get_or-take n ps i [] (ltb-true i n h)
        ∙ sym (get_or-take (n + 1) ps i [] (omega (arith, ltb-true i n h)))
    go false h ne =
        get_or-eq_default (take n ps) [] (omega (arith, length-take n ps, ltb-false i n h))
        ∙ sym (get_or-eq_default (take (n + 1) ps) [] (omega (arith, length-take (n + 1) ps, ltb-false i n h)))

step_words : (words : List (Bor (List ℕ))) (ps : List (List ℕ)) (n : ℕ) (p : Bor (List ℕ)) → n < length words → n < length ps → p.now ≡ nth ps n → ((i : ℕ) → nth (map (λ w. w.now) words) i ≡ nth (take n ps) i) → (i : ℕ) → nth (map (λ w. w.now) (set words n p)) i ≡ nth (take (n + 1) ps) i
step_words words ps n p room within e each i =
    rw (map-set (λ w. w.now) words n p) (step (map (λ w. w.now) words) ps n p.now (omega (arith, length-map words (λ (w : Bor (List ℕ)). w.now))) within e each i)

-- ---- the end

none_of : (line : List ℕ) (r : Words) → r.n ≡ 0 → ((i : ℕ) → word_at r i ≡ []) → leb (length (pieces 32 line)) 8 && list_all full (pieces 32 line) ≡ false → Split line r
unfolding words_of
none_of line r z each e =
    let w : words_of line ≡ [] = behind_is 8 [] line ∙ rw e refl in
    record { count = rw w z; each = λ i. rw w (each i) }

-- eight words, each of them empty
all_empty : (l : List (Bor (List ℕ))) → ((i : ℕ) (d : Bor (List ℕ)) → i < length l → (get_or l i d).now ≡ []) → (i : ℕ) → nth (map (λ w. w.now) l) i ≡ []
all_empty [] h i = refl
all_empty (w ∷ l) h zero = h 0 w (omega arith)
all_empty (w ∷ l) h (suc i) = all_empty l (λ j d k. h (suc j) d (omega (arith, k))) i

too_many : (line : List ℕ) → 8 < length (pieces 32 line) → leb (length (pieces 32 line)) 8 && list_all full (pieces 32 line) ≡ false
too_many line h = rw (lt-leb _ _ h) refl

has_empty : (line : List ℕ) (n : ℕ) → n < length (pieces 32 line) → full (nth (pieces 32 line) n) ≡ false → leb (length (pieces 32 line)) 8 && list_all full (pieces 32 line) ≡ false
has_empty line n h f =
    rw (and_fails_at (list_all full) full refl (λ _ _. refl) (pieces 32 line) n [] h f) (either (leb (length (pieces 32 line)) 8))
  where
    either : (t : Bool) → t && false ≡ false
    either true = refl
    either false = refl

all_of : (line : List ℕ) (r : Words) → r.n ≤ 8 → r.n ≡ length (pieces 32 line) → list_all full (take r.n (pieces 32 line)) ≡ true → ((i : ℕ) → word_at r i ≡ nth (take r.n (pieces 32 line)) i) → Split line r
unfolding words_of
all_of line r most n passed each =
    let all : take r.n (pieces 32 line) ≡ pieces 32 line = rw (n, take-length (pieces 32 line)) refl in
    let few : length (pieces 32 line) ≤ 8 = omega arith in
    let w : words_of line ≡ pieces 32 line = behind_is 8 [] line ∙ rw (le-leb _ _ few, rw all at passed) refl in
    record { count = rw (w, n) refl; each = λ i. each i ∙ rw (all, w) refl }

-- ---- where a turn is

here : (ps : List (List ℕ)) (k n : ℕ) (w : List ℕ) → (k < length ps) × (w ≡ get_or ps k w) → n ≡ k → (n < length ps) × (w ≡ nth ps n)
here ps k n w t e = rw e (t.0, get_or_read ps k w t.0 t.1 [])

pub returns-then-is_empty : goal.returns-then-is_empty
returns-then-is_empty c =
    let e = c.into_iter-word-iterator.ensures.into_iter_gives in
    let t = YieldsList-turn (yields_pieces _ 32 c.args.line.now e c.split-word-items.ensures.rest c.split-word-items.ensures.done c.split-word-items.ensures.closure (λ x b q k. search (rules, tests))) c.loop-word.yielded _ c.loop-word.yielded_by _ _ c.in-Some.word c.in-Some.is c.next.ensures.steps in
    let h = here _ _ _ _ t c.loop-word.invariant.count in
    none_of _ _ c.default.ensures.0 (all_empty _ (λ i d k. c.default.ensures.1.at i d (omega (arith, k, c.default.ensures.1.long)))) (
    elim c.then-is_empty.either [
      | inl e ↦ has_empty c.args.line.now c.loop-word.n h.0 (rw (← h.1, ← c.is_empty.ensures, e) refl)
      | inr e ↦ too_many c.args.line.now (rw e.1 at h.0)
    ]
    )

pub loop-word-preserved : goal.loop-word-preserved
loop-word-preserved c =
    let e = c.into_iter-word-iterator.ensures.into_iter_gives in
    let t = YieldsList-turn (yields_pieces _ 32 c.args.line.now e c.split-word-items.ensures.rest c.split-word-items.ensures.done c.split-word-items.ensures.closure (λ x b q k. search (rules, tests))) c.loop-word.yielded _ c.loop-word.yielded_by _ _ c.in-Some.word c.in-Some.is c.next.ensures.steps in
    let h = here _ _ _ _ t c.loop-word.invariant.count in
    record {
      size = simp length-set c.loop-word.invariant.size;
      most = omega arith;
      count = omega (arith, length_push c.loop-word.yielded c.in-Some.word);
      passed = still _ _ h.0 c.loop-word.invariant.passed (rw (← h.1, ← c.is_empty.ensures, c.if-is_empty.false) refl);
      each = step_words _ _ _ _ (omega arith) h.0 h.1 c.loop-word.invariant.each;
    }

pub returns : goal.returns
returns c =
    let e = c.into_iter-word-iterator.ensures.into_iter_gives in
    let t = YieldsList-end (yields_pieces _ 32 c.args.line.now e c.split-word-items.ensures.rest c.split-word-items.ensures.done c.split-word-items.ensures.closure (λ x b q k. search (rules, tests))) c.loop-word.yielded _ c.loop-word.yielded_by _ _ c.in-None.is c.next.ensures.steps in
    all_of _ _ c.loop-word.invariant.most (c.loop-word.invariant.count ∙ t.1) c.loop-word.invariant.passed c.loop-word.invariant.each
