-- `proposer_area::area::Area::propose_list` meets its contract: the list's entries stand in the area, as many as the header says.
-- Assumes nothing.
use Rattle.std.proofs.Common.{ℕ, ◌*◌, arith, ap, ◌∙◌}
use Rattle.leaf_fields.specs.Fields.{part}
use Rattle.proposer_area.specs.declared.Header.{Header}
use Rattle.proposer_area.specs.HeldLaws.{propose_list_lem, propose_count}
use Rattle.proposer_area.specs.Turns.{sized_of}
use Rattle.proposer_area.proofs.area.Area.propose_list.Goals as goal

pub list-requires : goal.list-requires
list-requires c =
    let held = c.args.self.now.held in
    omega (arith, c.header.ensures.1, (sized_of _ _ held.sized).bytes, (sized_of _ _ held.sized).least)

pub returns : goal.returns
returns c =
    let a = c.args.self.now in
    let many = ap (λ (h : Header). h.propose) c.header.ensures.0 in
    (c.list.ensures.2 ∙ ap (λ (k : ℕ). part a.bytes.now 50 (2 * k)) many ∙ propose_list_lem a.bytes.now a.places a.held, c.list.ensures.1 ∙ many ∙ propose_count a.bytes.now a.places a.held)
