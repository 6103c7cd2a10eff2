-- Which place of a lent area the next timeout is.
-- Assumes nothing.
use Rattle.std.specs.Prelude.{Bool, true, not, cond, ◌&&◌, List, [], ◌∷◌, ℕ, suc}
use Rattle.std.specs.Prelude.{Option, None, Some}
use Rattle.messages.specs.declared.Ballot.{Ballot}
use Rattle.messages.specs.Ballots.{above}
use Rattle.proposer_rules.specs.State.{Pending, Proposer}
use Rattle.proposer_rules.specs.Rules.{late}

-- no late request has a ballot below b
unfoldable pub none_below : Proposer → ℕ → Ballot → List (Option Pending) → Bool
none_below s t b [] = true
none_below s t b (None ∷ l) = none_below s t b l
none_below s t b (Some q ∷ l) = not (late s t q && above b q.ballot) && none_below s t b l

-- the late request with the lowest ballot, or the number of places
unfoldable pub late_of : Proposer → ℕ → List (Option Pending) → ℕ
late_of s t [] = 0
late_of s t (None ∷ l) = suc (late_of s t l)
late_of s t (Some p ∷ l) = cond (late s t p && none_below s t p.ballot l) 0 (suc (late_of s t l))
