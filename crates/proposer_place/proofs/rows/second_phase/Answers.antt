-- `proposer_place::rows::second_phase` meets its contract: the lists are cleared, the list is written, and the front says the rest.
-- Assumes nothing.
use mathlib.Core.Path.{◌≡◌, ap, ◌∙◌}
use mathlib.Core.List.{List}
use Rattle.std.specs.Prelude.{Some}
use Prim.Native.Nat.{ℕ, ◌-◌, ◌≤◌}
use borrow.Rule.Slice.PartMut.{put_mid}
use lib.ListN.{length, take, drop, replicate}
use lib.Seq.{sets}
use Rattle.leaf_fields.specs.Fields.{from_le, part}
use Rattle.leaf_fields.specs.Laws.{length-part}
use Rattle.messages.specs.Answers.{entry_bytes}
use Rattle.proposer_place.specs.declared.front.Front.{Front}
use Rattle.proposer_rules.specs.State.{second_phase}
use Rattle.proposer_place.specs.Area.{place_front, place_image, read_pending}
use Rattle.proposer_place.specs.Front.{front_of, front_bytes, in_second, Used}
use Rattle.proposer_place.specs.Rows.{numbers}
use Rattle.proposer_place.specs.PlaceRows.{front_second, second_entered, used_length}
use Rattle.std.proofs.lemmas.List.{length-map}
use native.Mathlib.Omega.{arith}
use Rattle.proposer_place.proofs.rows.second_phase.Goals as goal

entered : (b l z n₂ n₃ : List ℕ) (f r : Front) → Used b → length l ≤ 15 → f ≡ front_of (read_pending b) → z ≡ replicate (length (take (142 - 52) (drop 52 b))) 0 → n₂ ≡ sets (put_mid 52 (142 - 52) b z) 52 (entry_bytes l) → r ≡ in_second f (length l) → n₃ ≡ sets n₂ 0 (front_bytes r) → n₃ ≡ place_image (Some (second_phase l (read_pending b)))
entered b l z n₂ n₃ f r u few ef ez e₂ er e₃ =
    let p = read_pending b in
    let cleared : z ≡ replicate 90 0 = ez ∙ ap (λ (k : ℕ). replicate k 0) (length-part b 52 90 (omega (arith, used_length b u))) in
    let front : front_bytes r ≡ place_front (second_phase l p) =
    ap front_bytes (er ∙ ap (λ (g : Front). in_second g (length l)) ef) ∙ front_second p l in
    e₃ ∙ ap (sets n₂ 0) front
    ∙ ap (λ (m : List ℕ). sets m 0 (place_front (second_phase l p)))
    (e₂ ∙ ap (λ (m : List ℕ). sets (put_mid 52 90 b m) 52 (entry_bytes l)) cleared ∙ ap (λ (m : List ℕ). sets (put_mid 52 90 m (replicate 90 0)) 52 (entry_bytes l)) u.image)
    ∙ second_entered p u.lawful l few

pub returns : goal.returns
returns c =
    let n = length-map c.args.list.now (λ e. from_le (part e 0 2)) in
    entered _ (numbers c.args.list.now) _ _ _ _ _ c.requires.0 (rw n c.requires.1) c.take-f.ensures.0 c.clear.ensures c.wait_for.ensures (rw n c.second_phase.ensures) c.put.ensures
