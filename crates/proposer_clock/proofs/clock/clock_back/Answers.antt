-- `proposer_clock::clock::clock_back` meets its contract: a test of each chunk.
-- Assumes nothing.
use Rattle.std.proofs.Common.{◌≡◌, refl, ap, ◌∙◌, sym, rules, tests, arith, Bool, List, [], ◌∷◌, ℕ, ◌||◌, not, ◌&&◌, eqb, Option, None, Some, map}
use lib.Dec.{ltb}
use Rattle.std.specs.List.{list_any}
use Rattle.std.proofs.lemmas.Iterator.{YieldsList-from_slice}
use Rattle.std.proofs.lemmas.Iterator.Search.{any_from_yields_List}
use Rattle.leaf_fields.specs.Fields.{byte}
use Rattle.proposer_rules.specs.State.{Pending}
use Rattle.proposer_rules.specs.Rules.{clock_back}
use Rattle.proposer_place.specs.Area.{read_area, read_pending, read_place, read_places}
use Rattle.proposer_area.specs.Places.{places_in}
use Rattle.proposer_area.specs.Turns.{sized_of, passes}
use Rattle.proposer_area.specs.Chunks.{chunks_all, any_place, places_read}
use Rattle.proposer_clock.proofs.clock.clock_back.Goals as goal

ahead_any : (t : ℕ) (l : List (Option Pending)) → list_any (passes (λ p. ltb t p.received_at)) l ≡ clock_back t l
unfolding clock_back
ahead_any t [] = refl
ahead_any t (None ∷ l) = ahead_any t l
ahead_any t (Some p ∷ l) = ap (λ r. ltb t p.received_at || r) (ahead_any t l)

back_by : (a : List ℕ) (n t : ℕ) (r : Bool) → r ≡ list_any (λ b. not (eqb (byte b 0) 0) && ltb t (read_pending b).received_at) (places_in a n) → r ≡ clock_back t (read_places a 80 n)
back_by a n t r e = e ∙ any_place (λ p. ltb t p.received_at) (places_in a n) ∙ ahead_any t (map read_place (places_in a n)) ∙ ap (clock_back t) (sym (places_read a n))

pub places_in-requires : goal.places_in-requires
places_in-requires c = omega (arith, sized_of _ _ c.args.area.now.held.sized)

pub returns : goal.returns
unfolding read_area
returns c =
    let f = chunks_all _ _ _ c.args.area.now.held.sized c.places_in.ensures in
    back_by _ _ _ _ (any_from_yields_List (λ b. not (eqb (byte b 0) 0) && ltb c.args.t (read_pending b).received_at) _ _ c.any.result c.any.ensures.ran (YieldsList-from_slice (places_in c.args.area.now.bytes.now c.args.area.now.places) (c.iter.ensures.rest ∙ f.0)) (λ x b q k. search (rules, tests)))
