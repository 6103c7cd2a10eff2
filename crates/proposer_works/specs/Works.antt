-- The works of a message on an area that is an image: what holds where one begins, and its outcome by the place that it is done on.
-- Assumes nothing.
use Rattle.std.specs.Prelude.{◌≡◌, true, false, List, [], ◌∷◌, ℕ, ◌+◌, ◌*◌, ◌<◌, length, set}
use Rattle.std.specs.Prelude.{Option, None, Some}
use Rattle.messages.specs.declared.Address.{Address}
use Rattle.messages.specs.declared.Ballot.{Ballot}
use Rattle.messages.specs.declared.answer.Answer.{Answer}
use Rattle.messages.specs.declared.answer.Refusal.{Refusal}
use Rattle.messages.specs.Message.{Value, Failure, Verdict, Message}
use Rattle.messages.specs.Limits.{list_most}
use Rattle.messages.specs.Refusals.{test, first_due}
use Rattle.messages.specs.Answers.{rows_at, row_bytes, answer_of, written_in}
use Rattle.proposer_rules.specs.State.{Pending, Proposer, key_of, with_no, asked_again}
use Rattle.proposer_rules.specs.Rules.{Outcome, outcome, unless, moved, reached, raised, next_ballot, proposals, to_each, to_client, to_accept, applied, reply_of, replace_at, promise_above, no_ballot, promise_work}
use Rattle.proposer_place.specs.Area.{area_image, read_area, read_pending}
use Rattle.proposer_area.specs.Places.{place_in}
use Rattle.proposer_area.specs.declared.area.Area.{Area}
use Rattle.proposer_area.specs.Held.{Pends}
use Rattle.proposer_area.specs.State.{state, pending, Becomes}

-- ---- where a work begins

-- the answer area holds a value, a key, a list and a row for each place
abbrev pub answer_bytes : ℕ → ℕ
answer_bytes n = rows_at + row_bytes * n

-- place i holds the request of its ballot, which has room for another answer
pub record Asks (a : List ℕ) (n i : ℕ) : Type 0 where
  pub pends : Pends a n i
  pub there : (q : Option Pending) → replace_at (read_pending (place_in a i)).ballot q (read_area a n).places ≡ set (read_area a n).places i q
  pub more_yeses : length (read_pending (place_in a i)).acks_from < list_most
  pub more_noes : length (read_pending (place_in a i)).nacks_from < list_most

-- the same of an area
abbrev pub MayAsk : Area → ℕ → Type 0
MayAsk a i = Asks a.bytes.now a.places i

-- ---- what it does

-- the enum, every byte of the area, and every byte of the answer area
pub record Worked (w : List ℕ) (o : Outcome) (r : Answer) (a' w' : List ℕ) : Type 0 where
  pub answer : r ≡ answer_of o.told
  pub area : a' ≡ area_image o.state
  pub written : w' ≡ written_in w o.told

-- the same on an area, which stays the one that was lent
pub record WorkedOn (a : Area) (w : List ℕ) (o : Outcome) (r : Answer) (a' : Area) (w' : List ℕ) : Type 0 where
  pub worked : Worked w o r a'.bytes.now w'
  pub lent : a'.bytes.ghost_name ≡ a.bytes.ghost_name
  pub places : a'.places ≡ a.places

-- the state with another counter and other content of place i
abbrev pub placed : Proposer → ℕ → ℕ → Option Pending → Proposer
placed s c i q = moved s c (set s.places i q)

-- one more no at place i that makes no majority: it is noted, and the counter raised to what its message says
pub record Noted (a b : Area) (i : ℕ) (from : Address) (last : Ballot) : Type 0 where
  pub short : reached (with_no (pending a i) from).nacks_from (pending a i).waiting_for ≡ false
  pub becomes : Becomes a b (placed (state a) (raised (state a).counter last) i (Some (with_no (pending a i) from)))

-- one that makes a majority: the counter raised so, and nothing has moved
pub record Outvoted (a b : Area) (i : ℕ) (from : Address) (last : Ballot) (c : ℕ) : Type 0 where
  pub enough : reached (with_no (pending a i) from).nacks_from (pending a i).waiting_for ≡ true
  pub counter : c ≡ raised (state a).counter last
  pub same : b ≡ a

-- the second phase of the request at place i
abbrev pub accepting : Proposer → ℕ → Pending → Outcome
accepting s i p =
    outcome (placed s s.counter i (Some (to_accept s p)))
    (to_each s.accept_acceptors (Message.AcceptReq p.ballot (key_of p.req) (applied p.req p.value).value))

-- the request at place i proposed anew at the ballot after c
abbrev pub retrying : Proposer → ℕ → ℕ → Pending → Outcome
retrying s c i p = outcome (placed s (c + 1) i (Some (asked_again (next_ballot c) s.propose_acceptors p))) (proposals s c p.req)

-- the request at place i settled
abbrev pub settled : Proposer → ℕ → Pending → Outcome
settled s i p = outcome (placed s s.counter i None) (to_client p (reply_of p.req p.value))

-- an Ok promise, and a refused proposal, whose sender may answer
abbrev pub granting : Proposer → Pending → Address → Ballot → Option Value → Outcome
granting s p from b v =
    unless (first_due (test (promise_above p Verdict.Granted) Refusal.PromisedAbove ∷ [])) s (promise_work s p from b v Verdict.Granted)

abbrev pub rejecting : Proposer → Pending → Address → Ballot → Ballot → Option Value → Outcome
rejecting s p from last b v =
    unless (first_due (test (no_ballot s p from (Verdict.Denied (Failure.ProposalRejected last))) Refusal.CounterUsedUp ∷ [])) s
    (promise_work s p from b v (Verdict.Denied (Failure.ProposalRejected last)))
