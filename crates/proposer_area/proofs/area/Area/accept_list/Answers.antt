-- `proposer_area::area::Area::accept_list` meets its contract: the list's entries stand in the area, as many as the header says.
-- Assumes nothing.
use Rattle.std.proofs.Common.{ℕ, ◌*◌, arith, ap, ◌∙◌}
use Rattle.leaf_fields.specs.Fields.{part}
use Rattle.proposer_area.specs.declared.Header.{Header}
use Rattle.proposer_area.specs.HeldLaws.{accept_list_lem, accept_count}
use Rattle.proposer_area.specs.Turns.{sized_of}
use Rattle.proposer_area.proofs.area.Area.accept_list.Goals as goal

pub list-requires : goal.list-requires
list-requires c =
    let held = c.args.self.now.held in
    omega (arith, c.header.ensures.1, (sized_of _ _ held.sized).bytes, (sized_of _ _ held.sized).least)

pub returns : goal.returns
returns c =
    let a = c.args.self.now in
    let many = ap (λ (h : Header). h.accept) c.header.ensures.0 in
    (c.list.ensures.2 ∙ ap (λ (k : ℕ). part a.bytes.now 20 (2 * k)) many ∙ accept_list_lem a.bytes.now a.places a.held, c.list.ensures.1 ∙ many ∙ accept_count a.bytes.now a.places a.held)
