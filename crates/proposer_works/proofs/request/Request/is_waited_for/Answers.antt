-- `proposer_works::request::Request::is_waited_for` meets its contract: the front has how many are waited for.
-- Assumes nothing.
use Rattle.std.proofs.Common.{◌∙◌, ap, arith}
use Rattle.proposer_place.specs.PlaceRows.{used_length}
use Rattle.proposer_rules.specs.State.{listed}
use Rattle.proposer_works.specs.Lent.{waited_are}
use Rattle.proposer_works.specs.Room.{waited_few, yeses_few}
use Rattle.proposer_works.proofs.request.Request.is_waited_for.Goals as goal

pub list-requires : goal.list-requires
list-requires c =
    omega (arith, used_length _ c.args.self.used, waited_few _ _ c.args.self.used c.args.self.taken, yeses_few _ _ c.args.self.used c.args.self.taken)

pub returns : goal.returns
returns c =
    c.listed.ensures ∙ ap (listed c.args.from.0) (c.list.ensures.0 ∙ waited_are _ _ c.args.self.taken)
