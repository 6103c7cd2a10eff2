-- `proposer_place::rows::again` meets its contract: the lists and the promised value are cleared, the list is written, and the front says the rest.
-- Assumes nothing.
use mathlib.Core.Path.{◌≡◌, ap, ◌∙◌}
use mathlib.Core.List.{List}
use Rattle.std.specs.Prelude.{Some}
use Prim.Native.Nat.{ℕ, ◌-◌, ◌≤◌}
use borrow.Rule.Slice.PartMut.{put_mid, same_len_mid}
use lib.ListN.{length, take, drop, replicate, length-replicate}
use lib.Seq.{sets}
use Rattle.leaf_fields.specs.Fields.{from_le, part}
use Rattle.leaf_fields.specs.Laws.{length-part}
use Rattle.messages.specs.Answers.{entry_bytes}
use Rattle.messages.specs.declared.Ballot.{Ballot}
use Rattle.proposer_place.specs.declared.front.Front.{Front}
use Rattle.proposer_rules.specs.State.{asked_again}
use Rattle.proposer_place.specs.Area.{place_front, place_image, read_pending}
use Rattle.proposer_place.specs.Front.{front_of, front_bytes, anew, Used}
use Rattle.proposer_place.specs.Rows.{numbers}
use Rattle.proposer_place.specs.PlaceRows.{front_again, again_entered, used_length}
use Rattle.std.proofs.lemmas.List.{length-map}
use native.Mathlib.Omega.{arith}
use Rattle.proposer_place.proofs.rows.again.Goals as goal

entered : (b l z z' n₂ n₃ : List ℕ) (ballot : Ballot) (f r : Front) → Used b → length l ≤ 15 → f ≡ front_of (read_pending b) → z ≡ replicate (length (take (142 - 52) (drop 52 b))) 0 → z' ≡ replicate (length (take (976 - 720) (drop 720 (put_mid 52 (142 - 52) b z)))) 0 → n₂ ≡ sets (put_mid 720 (976 - 720) (put_mid 52 (142 - 52) b z) z') 52 (entry_bytes l) → r ≡ anew f ballot (length l) → n₃ ≡ sets n₂ 0 (front_bytes r) → n₃ ≡ place_image (Some (asked_again ballot l (read_pending b)))
entered b l z z' n₂ n₃ ballot f r u few ef ez ez' e₂ er e₃ =
    let p = read_pending b in
    let m = put_mid 52 90 b z in
    let long : length m ≡ length b = same_len_mid 52 90 b z (ap length ez ∙ length-replicate _ 0) in
    let cleared : z ≡ replicate 90 0 = ez ∙ ap (λ (k : ℕ). replicate k 0) (length-part b 52 90 (omega (arith, used_length b u))) in
    let cleared' : z' ≡ replicate 256 0 = ez' ∙ ap (λ (k : ℕ). replicate k 0) (length-part m 720 256 (omega (arith, used_length b u))) in
    let lists : m ≡ put_mid 52 90 (place_image (Some p)) (replicate 90 0) =
    ap (put_mid 52 90 b) cleared ∙ ap (λ (x : List ℕ). put_mid 52 90 x (replicate 90 0)) u.image in
    let front : front_bytes r ≡ place_front (asked_again ballot l p) =
    ap front_bytes (er ∙ ap (λ (g : Front). anew g ballot (length l)) ef) ∙ front_again p ballot l in
    e₃ ∙ ap (sets n₂ 0) front
    ∙ ap (λ (x : List ℕ). sets x 0 (place_front (asked_again ballot l p)))
    (e₂ ∙ ap (λ (x : List ℕ). sets (put_mid 720 256 m x) 52 (entry_bytes l)) cleared' ∙ ap (λ (x : List ℕ). sets (put_mid 720 256 x (replicate 256 0)) 52 (entry_bytes l)) lists)
    ∙ again_entered p u.lawful l few ballot

pub returns : goal.returns
returns c =
    let n = length-map c.args.list.now (λ e. from_le (part e 0 2)) in
    entered _ (numbers c.args.list.now) _ _ _ _ _ _ _ c.requires.0 (rw n c.requires.1) c.take-f.ensures.0 c.clear.ensures c.clear-2.ensures c.wait_for.ensures (rw n c.again.ensures) c.put.ensures
