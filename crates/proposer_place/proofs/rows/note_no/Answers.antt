-- `proposer_place::rows::note_no` meets its contract: the entry goes behind those of its list, and the front counts it.
-- Assumes nothing.
use mathlib.Core.Path.{◌≡◌, ap, ◌∙◌}
use mathlib.Core.List.{List}
use Rattle.std.specs.Prelude.{Some}
use Prim.Native.Nat.{ℕ, ◌+◌, ◌*◌, ◌<◌}
use lib.ListN.{length}
use lib.Seq.{sets}
use Rattle.leaf_fields.specs.Fields.{to_le}
use Rattle.messages.specs.declared.Address.{Address}
use Rattle.proposer_place.specs.declared.front.Front.{Front}
use Rattle.proposer_rules.specs.State.{with_no}
use Rattle.proposer_place.specs.Area.{place_image, read_pending}
use Rattle.proposer_place.specs.Front.{front_of, front_bytes, Small, Used}
use Rattle.proposer_place.specs.PlaceRows.{one_more_no, front_no, no_added, few_noes, room_front}
use native.Mathlib.Omega.{arith}
use Rattle.proposer_place.proofs.rows.note_no.Goals as goal

small : (b : List ℕ) (f : Front) → f ≡ front_of (read_pending b) → length (read_pending b).nacks_from < 15 → Small f → Small (one_more_no f)
small b f e few s = record { key = s.key; waited = s.waited; yeses = s.yeses; noes = omega (arith, few_noes b f e few) }

noted : (b n₁ n₂ : List ℕ) (f : Front) (from : Address) → Used b → length (read_pending b).nacks_from < 15 → f ≡ front_of (read_pending b) → n₁ ≡ sets b (112 + 2 * f.nacks_from) (to_le 2 from.0) → n₂ ≡ sets n₁ 0 (front_bytes (one_more_no f)) → n₂ ≡ place_image (Some (with_no (read_pending b) from))
unfolding front_of
noted b n₁ n₂ f from u few e e₁ e₂ =
    let p = read_pending b in
    let at = 112 + 2 * length p.nacks_from in
    e₂ ∙ ap (λ (g : Front). sets n₁ 0 (front_bytes (one_more_no g))) e
    ∙ ap (λ (r : List ℕ). sets r 0 (front_bytes (one_more_no (front_of p)))) (e₁ ∙ ap (λ (g : Front). sets b (112 + 2 * g.nacks_from) (to_le 2 from.0)) e ∙ ap (λ (r : List ℕ). sets r at (to_le 2 from.0)) u.image)
    ∙ ap (sets (sets (place_image (Some p)) at (to_le 2 from.0)) 0) (front_no p from)
    ∙ no_added p u.lawful from few

pub put-requires : goal.put-requires
put-requires c = (search room_front, search small depth 9)

pub returns : goal.returns
returns c = noted _ _ _ c.take-f.result c.args.from c.requires.0 c.requires.1 c.take-f.ensures.0 c.write.ensures c.put.ensures
