-- `proposer_works::request::Request::has_answered` meets its contract: the front has how many have answered.
-- Assumes nothing.
use Rattle.std.proofs.Common.{◌≡◌, Bool, true, false, ◌||◌, ◌∙◌, ap, arith}
use Rattle.proposer_place.specs.PlaceRows.{used_length}
use Rattle.proposer_rules.specs.State.{listed}
use Rattle.proposer_works.specs.Lent.{yeses_are, noes_are}
use Rattle.proposer_works.specs.Room.{yeses_few, noes_few}
use Rattle.proposer_works.proofs.request.Request.has_answered.Goals as goal

or_first : (r x y : Bool) → r ≡ x → r ≡ true → r ≡ (x || y)
or_first r x y e h = rw (← e, h)

or_second : (r s x y : Bool) → r ≡ x → r ≡ false → s ≡ y → s ≡ (x || y)
or_second r s x y e h f = rw (← e, h) f

pub list-requires : goal.list-requires
list-requires c =
    omega (arith, used_length _ c.args.self.used, yeses_few _ _ c.args.self.used c.args.self.taken)

pub list-requires-else-listed : goal.list-requires-else-listed
list-requires-else-listed c =
    omega (arith, used_length _ c.args.self.used, yeses_few _ _ c.args.self.used c.args.self.taken, noes_few _ _ c.args.self.used c.args.self.taken)

pub returns-then-listed : goal.returns-then-listed
returns-then-listed c =
    or_first c.listed.result _ _ (c.listed.ensures ∙ ap (listed c.args.from.0) (c.list.ensures.0 ∙ yeses_are _ _ c.args.self.taken)) c.if-listed.true

pub returns-else-listed : goal.returns-else-listed
returns-else-listed c =
    or_second c.listed.result c.listed-else-listed.result _ _
    (c.listed.ensures ∙ ap (listed c.args.from.0) (c.list.ensures.0 ∙ yeses_are _ _ c.args.self.taken)) c.if-listed.false
    (c.listed-else-listed.ensures ∙ ap (listed c.args.from.0) (c.list-else-listed.ensures.0 ∙ noes_are _ _ c.args.self.taken))
