-- `script_words::list::read_list` meets its contract: a number a turn, as many as there are and as fit.
-- Assumes nothing.
use Rattle.std.proofs.Common.{rules, tests, arith, ◌≡◌, ◌∙◌, sym, refl, ap, ℕ, suc, ◌+◌, ◌-◌, ◌≤◌, ◌<◌, min, Bool, true, false, ltb, ltb-true, ltb-false, List, [], ◌∷◌, length, length-set, get_or, take, drop, drop-cons, set, add-one, Some, None}
use Rattle.std.proofs.Math.Seq.{sets}
use Rattle.std.proofs.Math.ListN.{drop_of_length-le}
use Rattle.std.proofs.lemmas.List.{get_or_read, get_or-take, length_push, length-take}
use Rattle.std.proofs.lemmas.Iterator.{YieldsList-from_take}
use Rattle.std.proofs.lemmas.Iterator.Consumers.{YieldsList-turn, YieldsList-end}
use Rattle.std.specs.Iterator.Adapters.{take_source, take_count}
use Rattle.messages.specs.declared.Address.{Address}
use Rattle.script_words.specs.Text.{address_of, list_of}
use Rattle.script_words.specs.Written.{behind}
use Rattle.script_words.specs.WrittenLaws.{sets_past}
use Rattle.script_words.proofs.Pieces.{yields_pieces, pieces, numbers, numbers_are, nothing}
use Rattle.script_words.proofs.list.read_list.Goals as goal

all : (w : List ℕ) → numbers 32 (pieces 44 w) ≡ list_of w
unfolding list_of
all w = sym (numbers_are 32 w)

-- ---- the next piece, and what it gives

here : (ps : List (List ℕ)) (k n room : ℕ) (w : List ℕ) → (k < length (take room ps)) × (w ≡ get_or (take room ps) k w) → n ≡ k → (n < length ps) × (w ≡ get_or ps n []) × (n < room)
here ps k n room w t e =
    let l : length (take room ps) ≡ min room (length ps) = length-take room ps in
    let r : k < room = omega arith in
    rw e (omega arith, get_or_read (take room ps) k w t.0 t.1 [] ∙ get_or-take room ps k [] r, r)

one_more : (ps : List (List ℕ)) (n : ℕ) (w : List ℕ) (a : Address) → n < 32 → n < length ps → w ≡ get_or ps n [] → address_of w ≡ Some a → numbers (32 - n) (drop n ps) ≡ a.0 ∷ numbers (32 - (n + 1)) (drop (n + 1) ps)
unfolding numbers
one_more ps n w a few h e f =
    let m : 32 - n ≡ suc (31 - n) = omega arith in
    let k : 32 - (n + 1) ≡ 31 - n = omega arith in
    rw (m, k, drop-cons ps n [] h, ← e, f, add-one) refl

no_more : (ps : List (List ℕ)) (n : ℕ) (w : List ℕ) → n < 32 → n < length ps → w ≡ get_or ps n [] → address_of w ≡ None → numbers (32 - n) (drop n ps) ≡ []
unfolding numbers
no_more ps n w few h e f =
    let m : 32 - n ≡ suc (31 - n) = omega arith in
    rw (m, drop-cons ps n [] h, ← e, f) refl

-- ---- the end

count_none : (out list left : List ℕ) (n : ℕ) → n ≤ length out → left ≡ [] → n + length left ≡ length list → n ≡ behind out 0 (length list)
count_none out list left n h e k = omega (arith, ap length e)

stored_none : (out r left : List ℕ) (n : ℕ) → left ≡ [] → sets out n left ≡ r → out ≡ r
stored_none out r left n e h = rw e at h

count_full : (out list left : List ℕ) (n : ℕ) → n ≡ length out → n + length left ≡ length list → n ≡ behind out 0 (length list)
count_full out list left n h k = omega arith

stored_full : (out r left : List ℕ) (n : ℕ) → length out ≤ n → sets out n left ≡ r → out ≡ r
stored_full out r left n h e = sym (sets_past out left n h) ∙ e

finish : (out₀ out list r : List ℕ) (ps : List (List ℕ)) (n k room : ℕ) → room ≡ min (length out₀) 32 → n ≡ k → k ≡ length (take room ps) → length out ≡ length out₀ → n + length (numbers (32 - n) (drop n ps)) ≡ length list → sets out n (numbers (32 - n) (drop n ps)) ≡ r → (n ≡ behind out₀ 0 (length list)) × (out ≡ r)
unfolding numbers
finish out₀ out list r ps n k room m e l size count stored =
    go (ltb n (length ps)) refl (ltb n 32) refl
  where
    at : n ≡ min room (length ps)
    at = e ∙ l ∙ length-take room ps

    empty : numbers (32 - n) (drop n ps) ≡ [] → (n ≡ behind out₀ 0 (length list)) × (out ≡ r)
    empty h = (count_none out₀ list (numbers (32 - n) (drop n ps)) n (omega (arith, at)) h count, stored_none out r (numbers (32 - n) (drop n ps)) n h stored)

    go : (t : Bool) → ltb n (length ps) ≡ t → (u : Bool) → ltb n 32 ≡ u → (n ≡ behind out₀ 0 (length list)) × (out ≡ r)
    go false h u f = empty (rw (drop_of_length-le ps (ltb-false n (length ps) h)) (nothing (32 - n)))
    go true h false f =
        let z : 32 - n ≡ 0 = omega (arith, ltb-false n 32 f) in
        empty (rw z refl)
    go true h true f =
        let full : n ≡ length out₀ = omega (arith, at, ltb-true n (length ps) h, ltb-true n 32 f) in
        (count_full out₀ list (numbers (32 - n) (drop n ps)) n full count, stored_full out r (numbers (32 - n) (drop n ps)) n (omega arith) stored)

turn_stored : (out r left rest : List ℕ) (n a : ℕ) → left ≡ a ∷ rest → sets out n left ≡ r → sets (set out n a) (n + 1) rest ≡ r
turn_stored out r left rest n a e h = rw add-one (rw e at h)

pub loop-entry-init : goal.loop-entry-init
loop-entry-init c =
    record {
      size = refl;
      most = omega arith;
      turns = refl;
      count = omega (arith, ap length (all c.args.word.now));
      stored = ap (sets c.args.out.now 0) (all c.args.word.now);
    }

pub returns-in_default : goal.returns-in_default
returns-in_default c =
    let e = c.into_iter-entry-iterator.ensures.into_iter_gives in
    let f = ap take_source e ∙ c.take-entry-items.ensures.source in
    let t = YieldsList-turn (YieldsList-from_take c.min-room.result (yields_pieces _ 44 c.args.word.now f c.split.ensures.rest c.split.ensures.done c.split.ensures.closure (λ x b q k. search (rules, tests))) (ap take_count e ∙ c.take-entry-items.ensures.count)) c.loop-entry.yielded _ c.loop-entry.yielded_by _ _ c.in-Some.entry c.in-Some.is c.next.ensures.steps in
    let h = here _ _ _ _ _ t c.loop-entry.invariant.turns in
    let few : c.loop-entry.n < 32 = omega (arith, c.min-room.ensures) in
    let left = no_more _ _ _ few h.0 h.1 (sym c.in_default.ensures) in
    (count_none c.args.out.now _ _ _ (omega (arith, c.min-room.ensures)) left c.loop-entry.invariant.count, stored_none _ _ _ _ left c.loop-entry.invariant.stored)

pub loop-entry-preserved : goal.loop-entry-preserved
loop-entry-preserved c =
    let e = c.into_iter-entry-iterator.ensures.into_iter_gives in
    let f = ap take_source e ∙ c.take-entry-items.ensures.source in
    let t = YieldsList-turn (YieldsList-from_take c.min-room.result (yields_pieces _ 44 c.args.word.now f c.split.ensures.rest c.split.ensures.done c.split.ensures.closure (λ x b q k. search (rules, tests))) (ap take_count e ∙ c.take-entry-items.ensures.count)) c.loop-entry.yielded _ c.loop-entry.yielded_by _ _ c.in-Some.entry c.in-Some.is c.next.ensures.steps in
    let h = here _ _ _ _ _ t c.loop-entry.invariant.turns in
    let few : c.loop-entry.n < 32 = omega (arith, c.min-room.ensures) in
    let left = one_more _ _ _ _ few h.0 h.1 (sym c.in-Some-read_address.ensures) in
    record {
      size = simp length-set c.loop-entry.invariant.size;
      most = omega arith;
      turns = omega (arith, length_push c.loop-entry.yielded c.in-Some.entry);
      count = omega (arith, ap length left, c.loop-entry.invariant.count);
      stored = turn_stored _ _ _ _ _ _ left c.loop-entry.invariant.stored;
    }

pub returns : goal.returns
returns c =
    let e = c.into_iter-entry-iterator.ensures.into_iter_gives in
    let f = ap take_source e ∙ c.take-entry-items.ensures.source in
    let t = YieldsList-end (YieldsList-from_take c.min-room.result (yields_pieces _ 44 c.args.word.now f c.split.ensures.rest c.split.ensures.done c.split.ensures.closure (λ x b q k. search (rules, tests))) (ap take_count e ∙ c.take-entry-items.ensures.count)) c.loop-entry.yielded _ c.loop-entry.yielded_by _ _ c.in-None.is c.next.ensures.steps in
    finish _ _ _ _ _ _ _ _ c.min-room.ensures c.loop-entry.invariant.turns t.1 c.loop-entry.invariant.size c.loop-entry.invariant.count c.loop-entry.invariant.stored
