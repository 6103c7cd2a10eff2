-- A proposer's state as 01 has it, on values.
-- Assumes nothing.
use Rattle.std.specs.Prelude.{Bool, true, false, ◌||◌, List, [], ◌∷◌, ◌++◌, ℕ, eqb}
use Rattle.std.specs.Prelude.{Option, None}
use Rattle.messages.specs.declared.Address.{Address}
use Rattle.messages.specs.declared.Ballot.{Ballot}
use Rattle.messages.specs.Ballots.{ballot0}
use Rattle.messages.specs.Message.{Key, Value, Request}

-- the first phase asks for promises, the second for acceptances
pub data Phase : Type 0 where
  Propose : Phase
  Accept : Phase

-- a pending request: "client, id, request, ballot, phase, waited-for list, who said yes and who no, highest promised ballot with its value, arrival time, retried or not"
pub record Pending : Type 0 where
  pub client : Address
  pub id : ℕ
  pub req : Request
  pub ballot : Ballot
  pub phase : Phase
  pub waiting_for : List ℕ
  pub acks_from : List ℕ
  pub nacks_from : List ℕ
  pub promised : Ballot
  pub value : Option Value
  pub received_at : ℕ
  pub retried : Bool

-- "State: the counter, two acceptor lists, the timeout, and the pending requests", each in its place
pub record Proposer : Type 0 where
  pub counter : ℕ
  pub accept_acceptors : List ℕ
  pub propose_acceptors : List ℕ
  pub timeout : ℕ
  pub places : List (Option Pending)

-- the key of a request
abbrev pub key_of : Request → Key
key_of (Request.Get k) = k
key_of (Request.Del k) = k
key_of (Request.Set k v) = k
key_of (Request.Cas k old new) = k

-- whether an address stands in a list
unfoldable pub listed : ℕ → List ℕ → Bool
listed a [] = false
listed a (x ∷ l) = eqb x a || listed a l

-- ---- what a message makes of a pending request

-- a request at its first phase: "highest promised ballot with its value (both start at 0 and none)"
abbrev pub new_pending : Address → ℕ → Request → Ballot → List ℕ → ℕ → Bool → Pending
new_pending client id req ballot list at again = record {
  client = client;
  id = id;
  req = req;
  ballot = ballot;
  phase = Propose;
  waiting_for = list;
  acks_from = [];
  nacks_from = [];
  promised = ballot0;
  value = None;
  received_at = at;
  retried = again;
}

-- the request with one more no, or one more yes
abbrev pub with_no : Pending → Address → Pending
with_no p from = record {
  client = p.client;
  id = p.id;
  req = p.req;
  ballot = p.ballot;
  phase = p.phase;
  waiting_for = p.waiting_for;
  acks_from = p.acks_from;
  nacks_from = p.nacks_from ++ (from.0 ∷ []);
  promised = p.promised;
  value = p.value;
  received_at = p.received_at;
  retried = p.retried;
}

abbrev pub with_yes : Pending → Address → Ballot → Option Value → Pending
with_yes p from b v = record {
  client = p.client;
  id = p.id;
  req = p.req;
  ballot = p.ballot;
  phase = p.phase;
  waiting_for = p.waiting_for;
  acks_from = p.acks_from ++ (from.0 ∷ []);
  nacks_from = p.nacks_from;
  promised = b;
  value = v;
  received_at = p.received_at;
  retried = p.retried;
}

-- "the second phase with the current accept list, answers cleared"
abbrev pub second_phase : List ℕ → Pending → Pending
second_phase list p = record {
  client = p.client;
  id = p.id;
  req = p.req;
  ballot = p.ballot;
  phase = Accept;
  waiting_for = list;
  acks_from = [];
  nacks_from = [];
  promised = p.promised;
  value = p.value;
  received_at = p.received_at;
  retried = p.retried;
}

-- the request proposed anew: "same arrival time, marked retried"
abbrev pub asked_again : Ballot → List ℕ → Pending → Pending
asked_again ballot list p = new_pending p.client p.id p.req ballot list p.received_at true
