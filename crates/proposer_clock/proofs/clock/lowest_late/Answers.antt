-- `proposer_clock::clock::lowest_late` meets its contract: of the late chunks the first with the least ballot.
-- Assumes nothing.
use Rattle.std.proofs.Common.{ap, rules, tests, arith, ◌∙◌, ◌≡◌, refl, List, ℕ, not, ◌&&◌, eqb, Bor, ◌-◌, Option, None, Some}
use Rattle.std.proofs.lemmas.Iterator.{YieldsList-from_slice}
use Rattle.std.proofs.lemmas.Iterator.Consumers.{YieldsList-from_enumerate, YieldsList-from_filter, YieldsList-at}
use Rattle.leaf_fields.specs.Fields.{byte}
use Rattle.messages.specs.declared.Ballot.{Ballot}
use Rattle.proposer_place.specs.Area.{read_area, read_pending}
use lib.Dec.{ltb}
use Rattle.std.specs.Option.{option_map}
use Rattle.proposer_area.specs.declared.Header.{Header}
use Rattle.proposer_area.specs.Places.{places_in}
use Rattle.proposer_area.specs.Turns.{sized_of}
use Rattle.proposer_area.specs.Chunks.{chunks_all}
use Rattle.proposer_clock.specs.LateSearch.{late_by}
use Rattle.proposer_clock.proofs.Least.{least_from}
use Rattle.proposer_clock.proofs.clock.lowest_late.Goals as goal

-- the number is what is read of the pair
both : (o : Option (ℕ × Bor (List ℕ))) → option_map (λ p. p.0) o ≡ option_map (λ (p : ℕ × List ℕ). p.0) (option_map (λ (p : ℕ × Bor (List ℕ)). (p.0, p.1.now)) o)
both None = refl
both (Some p) = refl

pub places_in-requires : goal.places_in-requires
places_in-requires c = omega (arith, sized_of _ _ c.args.area.now.held.sized)

pub returns : goal.returns
unfolding read_area
returns c =
    let f = chunks_all _ _ _ c.args.area.now.held.sized c.places_in.ensures in
    let e = least_from _ (λ (k : Ballot). k.0) (λ k l. refl) (λ (p : ℕ × Bor (List ℕ)). (p.0, p.1.now)) (λ (p : ℕ × List ℕ). (read_pending p.1).ballot) _ _ (λ x k q h. search (rules, tests)) _ c.min_by_key.result c.min_by_key.ensures.ran (YieldsList-from_filter _ (λ (p : ℕ × List ℕ). not (eqb (byte p.1 0) 0) && ltb c.header-timeout.result.timeout (c.args.t - (read_pending p.1).received_at)) (YieldsList-at c.filter.ensures.source (YieldsList-from_enumerate (YieldsList-at c.enumerate.ensures.source (YieldsList-from_slice (places_in c.args.area.now.bytes.now c.args.area.now.places) (c.iter.ensures.rest ∙ f.0))) c.enumerate.ensures.count)) c.filter.ensures.closure (λ x b q k. search (rules, tests))) in
    let m : c.map.result ≡ option_map (λ (p : ℕ × Bor (List ℕ)). p.0) c.min_by_key.result = search (rules, tests) in
    late_by _ _ _ _ _ _ (ap (λ (h : Header). h.timeout) c.header-timeout.ensures.0) e (m ∙ both c.min_by_key.result)
