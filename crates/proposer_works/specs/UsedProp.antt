-- A place is used in one way at most, so a struct may carry that it is.
-- Assumes nothing.
use Rattle.std.specs.Prelude.{List, ℕ}
use Rattle.std.proofs.Props.{props}
use Rattle.proposer_place.specs.Front.{Used}
use Rattle.proposer_area.specs.HeldProp.{Lawful-prop}

pub Used-prop : (b : List ℕ) → IsProp (Used b)
Used-prop b = Prim.hlevel (Lawful-prop, props)
