-- `proposer_area::places::drop_place` meets its contract: what is lent, cleared, is a free place.
-- Assumes nothing.
use Rattle.std.proofs.Common.{◌≡◌, ℕ, ◌+◌, ◌*◌, ◌∙◌, ap, length, replicate}
use Rattle.std.proofs.lemmas.List.{length-replicate}
use Rattle.proposer_place.specs.Area.{place_image}
use Rattle.leaf_fields.specs.Laws.{length-part}
use Rattle.proposer_area.specs.PlaceLent.{lent_is, put_place}
use Rattle.std.proofs.lemmas.List.Edits.{sets}
use Rattle.proposer_area.specs.Places.{place_at}
use Rattle.proposer_area.proofs.places.drop_place.Goals as goal

pub returns : goal.returns
unfolding place_image
returns c =
    let told : c.clear.new.d ≡ replicate 976 0 = c.clear.ensures ∙ ap (λ (k : ℕ). replicate k 0) (ap length (lent_is _ _ _ _ _ _ c.start.ensures c.split_at_mut-rest.ensures.front c.split_at_mut-rest.ensures.back c.in-Some.ensures.cases) ∙ length-part c.args.area.now (80 + 976 * c.args.i) 976 c.requires) in
    put_place _ _ _ _ _ _ c.start.ensures c.split_at_mut-rest.ensures.front c.split_at_mut-rest.ensures.back c.in-Some.ensures.cases c.clear.new.d c.requires (ap length told ∙ length-replicate {A = ℕ} 976 0)
    ∙ ap (sets c.args.area.now (place_at c.args.i)) told
