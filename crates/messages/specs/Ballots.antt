-- Ballots, and the one way to compare them. No other definition looks inside a ballot to compare it.
-- Assumes nothing.
use Rattle.std.specs.Prelude.{Bool, not, ltb}
use Rattle.messages.specs.declared.Ballot.{Ballot}

-- ballot 0, which a key without a block has
abbrev pub ballot0 : Ballot
ballot0 = record { 0 = 0 }

-- a is above b
abbrev pub above : Ballot → Ballot → Bool
above a b = ltb b.0 a.0

-- a is b or above it
abbrev pub not_below : Ballot → Ballot → Bool
not_below a b = not (above b a)
