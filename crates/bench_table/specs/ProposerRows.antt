-- The rows P1 to P4 of 01's bench table, computed from the proposer's rules.
-- Assumes nothing.
use Rattle.std.specs.Prelude.{◌≡◌, refl, List, [], ◌∷◌, ℕ}
use Rattle.std.specs.Prelude.{Option, None, Some}
use Rattle.messages.specs.declared.Address.{Address}
use Rattle.messages.specs.declared.Ballot.{Ballot}
use Rattle.messages.specs.declared.answer.Refusal.{Refusal}
use Rattle.messages.specs.Message.{Key, Value, Request, Failure, Verdict, Reply, Message}
use Rattle.messages.specs.Limits.{none_zero, list_fits, within_limits}
use Rattle.messages.specs.Answers.{Told, nothing, one, each, timeouts, refused}
use Rattle.leaf_fields.specs.Fields.{same}
use Rattle.proposer_rules.specs.State.{Proposer, listed}
use Rattle.proposer_rules.specs.Rules.{Outcome, pending_at, replace_at, no_place, take_place, moved, receive, clock_back, in_time, insert, late_ones, rows_of, tick, empty_places, start}

-- ---- the bench

abbrev pub b : ℕ → Ballot
b n = record { 0 = n }

abbrev pub address : ℕ → Address
address n = record { 0 = n }

abbrev pub valve : Key
valve = 86 ∷ 49 ∷ []

abbrev pub acceptors : List ℕ
acceptors = 1 ∷ 2 ∷ 3 ∷ []

-- three acceptors, timeout 50, two places
unfoldable pub fresh : Proposer
fresh = start 50 acceptors 2

-- client 9's request 77, at time 100
abbrev pub asking : Proposer → Request → Outcome
asking s r = receive s (address 9) 100 (Message.ClientRequest 77 r)

-- an acceptor's answer
abbrev pub answered : Proposer → ℕ → Message → Outcome
answered s from m = receive s (address from) 0 m

abbrev pub no : ℕ → ℕ → Message
no ballot last = Message.ProposeRes (b ballot) (b 0) None (Verdict.Denied (Failure.ProposalRejected (b last)))

abbrev pub promise : ℕ → ℕ → Option Value → Message
promise ballot accepted v = Message.ProposeRes (b ballot) (b accepted) v Verdict.Granted

abbrev pub yes : ℕ → Message
yes ballot = Message.AcceptRes (b ballot) Verdict.Granted

abbrev pub told_client : Reply → Told
told_client r = one (address 9) (Message.ClientResponse 77 r)

-- P1: the request is at ballot 1, so the counter is 1, and the no with last 9 is in
abbrev pub one_no : Proposer
one_no = (answered (asking fresh (Request.Get valve)).state 1 (no 1 9)).state

-- P2: the request was proposed anew at ballot 10, and the no with last 12 is in
abbrev pub retried_no : Proposer
retried_no = (answered (answered one_no 2 (no 1 7)).state 1 (no 10 12)).state

-- P3: a compare whose old value is 05, at ballot 5, and a promise that carries the value 06 of ballot 3
abbrev pub five : Option Value
five = Some (5 ∷ [])

abbrev pub six : Option Value
six = Some (6 ∷ [])

abbrev pub one_promise : Proposer
one_promise = (answered (asking (moved fresh 4 fresh.places) (Request.Cas valve five None)).state 1 (promise 5 3 six)).state

abbrev pub accepting : Proposer
accepting = (answered one_promise 2 (promise 5 0 None)).state

-- P4: one request that arrived at 100
abbrev pub waiting : Proposer
waiting = (asking fresh (Request.Get valve)).state

-- ---- the rows

pub record ProposerRows : Type 0 where
  -- three acceptors, counter 1, noes with last 9, then 7: new proposals at ballot 10
  pub P1 : (answered one_no 2 (no 1 7)).told ≡ each acceptors (Message.ProposeReq (b 10) valve)
  -- the retry refused with 12, then 11: client told 11
  pub P2 : (answered retried_no 2 (no 10 11)).told ≡ told_client (Reply.Failed (Failure.ProposalRejected (b 11)))
  -- `Cas` whose old differs: the accept carries the promised value; `CasFailed` only after two yeses
  pub P3_accepts : (answered one_promise 2 (promise 5 0 None)).told ≡ each acceptors (Message.AcceptReq (b 5) valve six)
  pub P3_one_yes : (answered accepting 3 (yes 5)).told ≡ nothing
  pub P3_two_yeses : (answered (answered accepting 3 (yes 5)).state 1 (yes 5)).told ≡ told_client (Reply.Failed (Failure.CasFailed six))
  -- arrival 100, timeout 50: tick 150 nothing, 151 `Timeout`, 99 refusal 12
  pub P4_in_time : (tick waiting 150).told ≡ nothing
  pub P4_late : (tick waiting 151).told ≡ timeouts (record { client = address 9; id = 77 } ∷ [])
  pub P4_back : (tick waiting 99).told ≡ refused Refusal.ClockBack

pub proposer_rows : ProposerRows
unfolding fresh start empty_places receive tick clock_back in_time insert late_ones rows_of listed pending_at replace_at no_place take_place same within_limits list_fits none_zero
proposer_rows = record {
  P1 = refl;
  P2 = refl;
  P3_accepts = refl;
  P3_one_yes = refl;
  P3_two_yeses = refl;
  P4_in_time = refl;
  P4_late = refl;
  P4_back = refl;
}
