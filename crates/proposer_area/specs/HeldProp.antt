-- An area is held in one way at most, so a struct may carry that it is.
-- Assumes nothing.
use Rattle.std.specs.Prelude.{List, ℕ, Option, None, Some}
use Rattle.std.specs.Coded.{Π_prop, Unit-prop, le_prop}
use Rattle.std.proofs.Props.{props}
use Rattle.leaf_fields.specs.Fields.{Bytes}
use Rattle.proposer_rules.specs.State.{Pending, Proposer}
use Rattle.proposer_place.specs.AreaRows.{Entries}
use Rattle.proposer_place.specs.AreaLaws.{Short, ShortList, Lawful, LawfulPlace, LawfulPlaces, LawfulState}
use Rattle.proposer_area.specs.Held.{Held}

Bytes-prop : (l : List ℕ) → IsProp (Bytes l)
unfolding Bytes
Bytes-prop l = Π_prop (λ i. le_prop)

Entries-prop : (l : List ℕ) → IsProp (Entries l)
unfolding Entries
Entries-prop l = Π_prop (λ i. le_prop)

Short-prop : (most : ℕ) (v : List ℕ) → IsProp (Short most v)
Short-prop most v = Prim.hlevel (Bytes-prop, props)

ShortList-prop : (l : List ℕ) → IsProp (ShortList l)
ShortList-prop l = Prim.hlevel (Entries-prop, props)

pub Lawful-prop : (p : Pending) → IsProp (Lawful p)
Lawful-prop p = Prim.hlevel (Short-prop, ShortList-prop, props)

LawfulPlace-prop : (q : Option Pending) → IsProp (LawfulPlace q)
LawfulPlace-prop None = Unit-prop
LawfulPlace-prop (Some p) = Lawful-prop p

LawfulPlaces-prop : (l : List (Option Pending)) → IsProp (LawfulPlaces l)
unfolding LawfulPlaces
LawfulPlaces-prop l = Π_prop (λ i. LawfulPlace-prop _)

LawfulState-prop : (s : Proposer) (n : ℕ) → IsProp (LawfulState s n)
LawfulState-prop s n = Prim.hlevel (ShortList-prop, LawfulPlaces-prop, props)

pub Held-prop : (a : List ℕ) (n : ℕ) → IsProp (Held a n)
Held-prop a n = Prim.hlevel (LawfulState-prop, props)
