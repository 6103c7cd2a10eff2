-- `storage_write::write` meets its contract: the front, the key and the value, stored into zeros one after the other, are the body, which is then sealed.
-- Assumes nothing.
use Rattle.std.specs.Prelude.{Option, None, Some, option_map, unwrap_or}
use denote.Ref.{Bor}
use mathlib.Core.Path.{◌≡◌, refl, ap, ◌∙◌}
use mathlib.Core.List.{List, [], ◌++◌, append_assoc, append-nil}
use Prim.Native.Nat.{ℕ, ◌≤◌}
use lib.ListN.{length, take, replicate, length-append, length-replicate}
use lib.Seq.{sets, take_at}
use Rattle.leaf_fields.specs.Stores.{sets_left, sets_right, sets_zeros}
use Rattle.messages.specs.Answers.{marked, bytes_of}
use Rattle.messages.specs.declared.Ballot.{Ballot}
use Rattle.messages.specs.declared.Lent.{Lent}
use Rattle.leaf_fields.specs.Fields.{to_le, padded}
use Rattle.storage_block.specs.Block.{front, body, sealed, image, register}
use native.Mathlib.Omega.{arith}
use Rattle.storage_write.proofs.write.Goals as goal

short : (s t : List ℕ) → s ≡ t → length t ≤ 256 → length s ≤ 256
short s t e h = rw e h

-- the key and the value, stored behind a front of 24 bytes into zeros
filled : (f key v : List ℕ) → length f ≡ 24 → length key ≤ 64 → length v ≤ 256 → take 504 (sets (sets (f ++ replicate 488 0) 24 key) 88 v) ≡ f ++ (padded 64 key ++ padded 416 v)
unfolding padded
filled f key v lf hk hv =
    let key-room : List ℕ = replicate 64 0 in
    let value_room : List ℕ = replicate 416 0 in
    let tail : List ℕ = replicate 8 0 in
    let pk = padded 64 key in
    let pv = padded 416 v in
    let lpk : length pk ≡ 64 = simp (length-append, length-replicate) (omega arith) in
    let lpv : length pv ≡ 416 = simp (length-append, length-replicate) (omega arith) in
    let keyed : sets (f ++ replicate 488 0) 24 key ≡ f ++ (pk ++ (value_room ++ tail)) =
    sets_right f (key-room ++ (value_room ++ tail)) key 24 0 (omega arith)
    ∙ ap (λ (r : List ℕ). f ++ r) (sets_left key-room (value_room ++ tail) key 0 (omega arith) ∙ ap (λ (r : List ℕ). r ++ (value_room ++ tail)) (sets_zeros 64 key hk)) in
    let valued : sets (f ++ (pk ++ (value_room ++ tail))) 88 v ≡ f ++ (pk ++ (pv ++ tail)) =
    sets_right f (pk ++ (value_room ++ tail)) v 88 64 (omega arith)
    ∙ ap (λ (r : List ℕ). f ++ r) (sets_right pk (value_room ++ tail) v 64 0 (omega arith)
    ∙ ap (λ (r : List ℕ). pk ++ r) (sets_left value_room tail v 0 (omega arith) ∙ ap (λ (r : List ℕ). r ++ tail) (sets_zeros 416 v (omega arith)))) in
    let shape : f ++ (pk ++ (pv ++ tail)) ≡ (f ++ (pk ++ pv)) ++ tail = simp append_assoc in
    let long : length (f ++ (pk ++ pv)) ≡ 504 = omega (arith, length-append f (pk ++ pv), length-append pk pv) in
    ap (λ (r : List ℕ). take 504 (sets r 88 v)) keyed ∙ ap (take 504) (valued ∙ shape) ∙ take_at (f ++ (pk ++ pv)) tail 504 long

length_front : (k len : ℕ) (seen accepted : Ballot) (value : Option Lent) → length (front k seen accepted value len) ≡ 24
unfolding front to_le
length_front k len seen accepted value = refl

-- the front alone, stored into zeros
fronted : (f : List ℕ) → length f ≡ 24 → sets (replicate 512 0) 0 f ≡ f ++ replicate 488 0
unfolding padded
fronted f lf =
    let zeros : List ℕ = replicate 24 0 in
    let whole : padded 24 f ≡ f = rw lf (append-nil f) in
    sets_left zeros (replicate 488 0) f 0 (omega (arith, length-replicate {A = ℕ} 24 0)) ∙ ap (λ (r : List ℕ). r ++ replicate 488 0) (sets_zeros 24 f (omega arith) ∙ whole)

written : (b n₀ f n₂ n₃ n₄ n₅ key s : List ℕ) (seen accepted : Ballot) (value : Option (List ℕ)) → length b ≡ 512 → n₀ ≡ replicate (length b) 0 → s ≡ bytes_of value → f ≡ front (length key) seen accepted (marked value) (length s) → n₂ ≡ sets n₀ 0 f → n₃ ≡ sets n₂ 24 key → n₄ ≡ sets n₃ 88 s → n₅ ≡ sealed (take 504 n₄) → length key ≤ 64 → length (bytes_of value) ≤ 256 → n₅ ≡ image (register key seen accepted value)
unfolding image body
written b n₀ f n₂ n₃ n₄ n₅ key s seen accepted value l e₀ es ef e₂ e₃ e₄ e₅ hk hv =
    let lf : length f ≡ 24 = ap length ef ∙ length_front (length key) (length s) seen accepted (marked value) in
    let zeros : n₀ ≡ replicate 512 0 = e₀ ∙ ap (λ (n : ℕ). replicate n 0) l in
    let placed : n₂ ≡ f ++ replicate 488 0 = e₂ ∙ ap (λ (r : List ℕ). sets r 0 f) zeros ∙ fronted f lf in
    let whole : take 504 n₄ ≡ f ++ (padded 64 key ++ padded 416 s) =
    ap (take 504) (e₄ ∙ ap (λ (r : List ℕ). sets r 88 s) (e₃ ∙ ap (λ (r : List ℕ). sets r 24 key) placed)) ∙ filled f key s lf hk (short s (bytes_of value) es hv) in
    e₅ ∙ ap sealed (whole ∙ rw (ef, es))

-- the bytes of a value that is lent, or none
stored : (value : Option (Bor (List ℕ))) (n s : Bor (List ℕ)) → n.now ≡ [] → s ≡ unwrap_or value n → s.now ≡ bytes_of (option_map (λ v. v.now) value)
stored None n s en e = rw e en
stored (Some v) n s en e = rw e

pub returns : goal.returns
returns c = written _ _ _ _ _ _ _ _ _ _ _ _ c.told-b c.clear.ensures (stored c.args.r.value _ _ refl c.unwrap_or-stored.ensures) c.front.ensures c.copy.ensures c.copy-2.ensures c.copy-3.ensures c.seal.ensures c.requires.0 c.requires.1
