-- `script_words::bytes::unhex` meets its contract: a byte a turn, as many as there are and as fit.
-- Assumes nothing.
use Rattle.std.proofs.Common.{arith, ◌≡◌, refl, sym, ap, ◌∙◌, ℕ, suc, ◌+◌, ◌*◌, ◌/◌, ◌≤◌, ◌<◌, List, [], ◌∷◌, ◌++◌, length, get_or, drop, map, drop-cons, add-one}
use Rattle.std.proofs.lemmas.List.{drop_all}
use Rattle.std.specs.Simd.{first_chunks}
use Rattle.script_words.specs.Text.{hex_value, unhexed, bytes_of}
use Rattle.script_words.specs.LentLaws.{Put, less_left, all_put}
use Rattle.script_words.proofs.bytes.unhex.Invariants.{byte_of}
use Rattle.script_words.proofs.bytes.unhex.Goals as goal

half : (n : ℕ) → suc (suc n) / 2 ≡ suc (n / 2)
half n = omega arith

-- the bytes of the pairs are those of the digits
pairs_are : (l : List ℕ) → map byte_of (first_chunks 2 (length l / 2) l) ≡ unhexed l
unfolding unhexed
pairs_are [] = refl
pairs_are (a ∷ []) = refl
pairs_are (a ∷ b ∷ l) = rw half (ap (λ r. (hex_value a * 16 + hex_value b) ∷ r) (pairs_are l))

next : (ps : List (List ℕ)) (i a b : ℕ) → i < length ps → a ≡ hex_value (get_or (get_or ps i []) 0 0) → b ≡ hex_value (get_or (get_or ps i []) 1 0) → map byte_of (drop i ps) ≡ ((a * 16 + b) ∷ []) ++ map byte_of (drop (i + 1) ps)
next ps i a b more ea eb = rw (drop-cons ps i [] more, add-one, ea, eb) refl

none_behind : (ps : List (List ℕ)) (i : ℕ) → length ps ≤ i → map byte_of (drop i ps) ≡ []
none_behind ps i h = rw (drop_all i ps h) refl

pub loop-pair-preserved : goal.loop-pair-preserved
loop-pair-preserved c = less_left c.loop-pair.invariant c.put_byte-end.ensures (next _ _ _ _ c.loop-pair-test.true c.hex_value.ensures.0 c.hex_value-in-loop-pair.ensures.0)

pub returns : goal.returns
returns c =
    let whole = ap (map byte_of) c.as_chunks.ensures.front ∙ pairs_are c.digits.result.now ∙ sym c.digits.ensures in
    let all : Put c.args.out.now c.args.at (bytes_of c.args.word.now) c.min.result c.loop-pair.out = rw whole at (all_put c.loop-pair.invariant (none_behind _ _ c.loop-pair-test.false) c.min.ensures) in
    (all.within, all.place, all.bytes)
