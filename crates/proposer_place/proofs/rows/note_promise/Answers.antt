-- `proposer_place::rows::note_promise` meets its contract: the entry goes behind those of its list, the value into its cleared row, and the front says the rest.
-- Assumes nothing.
use mathlib.Core.Path.{◌≡◌, ap, ◌∙◌}
use mathlib.Core.Bool.{true}
use mathlib.Core.List.{List}
use Rattle.std.specs.Prelude.{Option, Some}
use Prim.Native.Nat.{ℕ, ◌+◌, ◌-◌, ◌*◌, ◌≤◌, ◌<◌}
use borrow.Rule.Slice.PartMut.{put_mid}
use lib.ListN.{length, take, drop, replicate}
use lib.Seq.{sets}
use Rattle.leaf_fields.specs.Fields.{to_le}
use Rattle.leaf_fields.specs.Laws.{length-part}
use Rattle.messages.specs.declared.Address.{Address}
use Rattle.messages.specs.declared.Ballot.{Ballot}
use Rattle.messages.specs.declared.Lent.{Lent}
use Rattle.messages.specs.Message.{given}
use Rattle.messages.specs.Limits.{option_fits}
use Rattle.messages.specs.Answers.{bytes_of}
use Rattle.proposer_place.specs.declared.accepted.Accepted.{Accepted}
use Rattle.proposer_place.specs.declared.front.Front.{Front}
use Rattle.proposer_rules.specs.State.{with_yes}
use Rattle.proposer_place.specs.Area.{place_front, place_image, read_pending}
use Rattle.proposer_place.specs.Front.{front_of, front_bytes, with_promise, Small, Used}
use Rattle.proposer_place.specs.PlaceRows.{front_promise, promise_added, used_length, used_stored, few_yeses, short_value}
use native.Mathlib.Omega.{arith}
use Rattle.proposer_place.proofs.rows.note_promise.Goals as goal

small : (b : List ℕ) (f r : Front) (ballot : Ballot) (mark : Option Lent) (n : ℕ) → f ≡ front_of (read_pending b) → length (read_pending b).acks_from < 15 → Small f → r ≡ with_promise f ballot mark n → Small r
small b f r ballot mark n e few s er =
    let fits : Small (with_promise f ballot mark n) = record { key = s.key; waited = s.waited; yeses = omega (arith, few_yeses b f e few); noes = s.noes } in
    rw er fits

noted : (b n₁ z n₂ n₃ s v : List ℕ) (f r : Front) (from : Address) (ballot : Ballot) (mark : Option Lent) → Used b → length (read_pending b).acks_from < 15 → option_fits (given mark v) ≡ true → f ≡ front_of (read_pending b) → s ≡ bytes_of (given mark v) → n₁ ≡ sets b (82 + 2 * f.acks_from) (to_le 2 from.0) → z ≡ replicate (length (take (976 - 720) (drop 720 n₁))) 0 → n₂ ≡ sets (put_mid 720 (976 - 720) n₁ z) 720 s → r ≡ with_promise f ballot mark (length (bytes_of (given mark v))) → n₃ ≡ sets n₂ 0 (front_bytes r) → n₃ ≡ place_image (Some (with_yes (read_pending b) from ballot (given mark v)))
unfolding front_of
noted b n₁ z n₂ n₃ s v f r from ballot mark u few fits ef es e₁ ez e₂ er e₃ =
    let p = read_pending b in
    let o = given mark v in
    let at = 82 + 2 * length p.acks_from in
    let zeros : List ℕ = replicate 256 0 in
    let front : front_bytes r ≡ place_front (with_yes p from ballot o) =
    ap front_bytes (er ∙ ap (λ (g : Front). with_promise g ballot mark (length (bytes_of o))) ef) ∙ front_promise p from ballot mark v in
    let listed : n₁ ≡ sets (place_image (Some p)) at (to_le 2 from.0) =
    e₁ ∙ ap (λ (g : Front). sets b (82 + 2 * g.acks_from) (to_le 2 from.0)) ef ∙ ap (λ (x : List ℕ). sets x at (to_le 2 from.0)) u.image in
    let cleared : z ≡ zeros = ez ∙ ap (λ (k : ℕ). replicate k 0) (length-part n₁ 720 256 (omega (arith, used_stored b n₁ (to_le 2 from.0) (82 + 2 * f.acks_from) u e₁))) in
    e₃ ∙ ap (sets n₂ 0) front
    ∙ ap (λ (x : List ℕ). sets x 0 (place_front (with_yes p from ballot o)))
    (e₂ ∙ ap (sets (put_mid 720 256 n₁ z) 720) es ∙ ap (λ (x : List ℕ). sets (put_mid 720 256 n₁ x) 720 (bytes_of o)) cleared ∙ ap (λ (x : List ℕ). sets (put_mid 720 256 x zeros) 720 (bytes_of o)) listed)
    ∙ promise_added p u.lawful from ballot o few (short_value mark v fits)

fits_row : (s : List ℕ) (accepted : Accepted) → s ≡ bytes_of (given accepted.mark accepted.bytes.now) → length s ≤ 256
fits_row s accepted e = rw e (short_value accepted.mark accepted.bytes.now accepted.fits)

pub copy-requires : goal.copy-requires
copy-requires c = omega (arith, used_length _ c.requires.0, fits_row _ c.args.accepted c.value-value.ensures)

pub put-requires : goal.put-requires
put-requires c = (omega (arith, used_length _ c.requires.0), small _ _ _ _ _ _ c.take-f.ensures.0 c.requires.1 c.take-f.ensures.1 c.promised_by.ensures)

pub returns : goal.returns
returns c =
    noted _ _ _ _ _ _ _ _ _ _ _ _ c.requires.0 c.requires.1 c.args.accepted.fits c.take-f.ensures.0 c.value-value.ensures c.write.ensures c.clear.ensures c.copy.ensures (rw c.value-value.ensures at c.promised_by.ensures) c.put.ensures
