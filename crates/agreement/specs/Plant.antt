-- A whole plant and its runs, made of the parties' own rules, and demand 3 of them in the client's words.
-- Assumes nothing.
use Rattle.std.specs.Prelude.{◌≡◌, true, cond, List, [], ◌∷◌, ◌++◌, ℕ, eqb, length}
use Rattle.std.specs.Prelude.{Option, None}
use Rattle.messages.specs.declared.Address.{Address}
use Rattle.messages.specs.declared.Ballot.{Ballot}
use Rattle.messages.specs.Ballots.{above}
use Rattle.messages.specs.Message.{Key, Value, Request, Failure, Reply, Message}
use Rattle.messages.specs.Answers.{Row, Told, nothing, one, each, timeouts, refused}
use Rattle.storage_block.specs.Block.{Slot, free}
use Rattle.acceptor_rules.specs.Rules as Acceptor
use Rattle.acceptor_rules.specs.Rules.{Store, keep, put}
use Rattle.acceptor.specs.Images.{stored_in}
use Rattle.proposer_rules.specs.Rules as Proposing
use Rattle.proposer_rules.specs.State.{Proposer, Pending, key_of}
use Rattle.proposer_rules.specs.Rules.{reply_of}
use Rattle.agreement.specs.Members.{In, Distinct}
use Rattle.agreement.specs.Order.{plant_order}
use Rattle.agreement.specs.Majority.{SameSet, Majority}
use Rattle.agreement.specs.Core.{made, Acceptance, acceptance, AcceptedBy}

-- ---- the plant

-- who stands at an address
pub data Party : Type 0 where
  acceptor : List Slot → Party
  proposer : Proposer → Party
  client : Party

-- a message on its way
pub record Frame : Type 0 where
  pub from : ℕ
  pub to : ℕ
  pub message : Message

-- a client's request that has arrived at a proposer; the network may bring one request twice, and those are two arrivals
pub record Arrival : Type 0 where
  pub number : ℕ
  pub client : ℕ
  pub at : ℕ
  pub id : ℕ
  pub request : Request

-- "distinct addresses": an address has one party. Frames, arrivals and acceptances are all there ever were, the latest first.
pub record Plant : Type 0 where
  pub party : ℕ → Party
  pub frames : List Frame
  pub arrivals : List Arrival
  pub acceptances : List (Acceptance plant_order)

abbrev pub address : ℕ → Address
address a = record { 0 = a }

unfoldable pub with_party : (ℕ → Party) → ℕ → Party → ℕ → Party
with_party f a p x = cond (eqb x a) p (f x)

-- ---- what an answer sends

unfoldable pub to_entries : ℕ → List ℕ → Message → List Frame
to_entries p [] m = []
to_entries p (a ∷ l) m = record { from = p; to = a; message = m } ∷ to_entries p l m

unfoldable pub to_rows : ℕ → List Row → List Frame
to_rows p [] = []
to_rows p (r ∷ rs) = record { from = p; to = r.client.0; message = Message.ClientResponse r.id (Reply.Failed Failure.Timeout) } ∷ to_rows p rs

unfoldable pub sent_by : ℕ → Told → List Frame
sent_by p nothing = []
sent_by p (one to m) = record { from = p; to = to.0; message = m } ∷ []
sent_by p (each l m) = to_entries p l m
sent_by p (timeouts rs) = to_rows p rs
sent_by p (refused r) = []

-- ---- what an acceptor accepts: the value of an `AcceptReq` that it stores

unfoldable pub accepted_from : ℕ → Message → List (Acceptance plant_order)
accepted_from a (Message.ClientRequest id r) = []
accepted_from a (Message.ClientResponse id r) = []
accepted_from a (Message.SetAcceptAcceptors l) = []
accepted_from a (Message.SetProposeAcceptors l) = []
accepted_from a (Message.ProposeReq b k) = []
accepted_from a (Message.ProposeRes b c v r) = []
accepted_from a (Message.AcceptReq b k v) = acceptance plant_order a k b v ∷ []
accepted_from a (Message.AcceptRes b r) = []

unfoldable pub accepted_in : ℕ → Message → Store → List (Acceptance plant_order)
accepted_in a m keep = []
accepted_in a m (put i r) = accepted_from a m

-- ---- one step: a party follows its rules

unfoldable pub acceptor_does : Plant → ℕ → Message → List Slot → Acceptor.Outcome → Plant
acceptor_does s a m l o = record {
  party = with_party s.party a (acceptor (stored_in l o.store));
  frames = sent_by a o.told ++ s.frames;
  arrivals = s.arrivals;
  acceptances = accepted_in a m o.store ++ s.acceptances;
}

unfoldable pub proposer_does : Plant → ℕ → Proposing.Outcome → Plant
proposer_does s p o = record {
  party = with_party s.party p (proposer o.state);
  frames = sent_by p o.told ++ s.frames;
  arrivals = s.arrivals;
  acceptances = s.acceptances;
}

unfoldable pub hearing : Plant → ℕ → ℕ → ℕ → Message → Party → Plant
hearing s from to t m (acceptor l) = acceptor_does s to m l (Acceptor.receive l (address from) m)
hearing s from to t m (proposer p) = proposer_does s to (Proposing.receive p (address from) t m)
hearing s from to t m client = s

-- the party at `to` hears a message from `from` at time t
unfoldable pub hear : Plant → ℕ → ℕ → ℕ → Message → Plant
hear s from to t m = hearing s from to t m (s.party to)

unfoldable pub ticking : Plant → ℕ → ℕ → Party → Plant
ticking s to t (acceptor l) = s
ticking s to t (proposer p) = proposer_does s to (Proposing.tick p t)
ticking s to t client = s

-- time t at the party at `to`
unfoldable pub tick : Plant → ℕ → ℕ → Plant
tick s to t = ticking s to t (s.party to)

-- one more arrival, with the next number
unfoldable pub arriving : Plant → ℕ → ℕ → ℕ → Request → Plant
arriving s from at id r = record {
  party = s.party;
  frames = s.frames;
  arrivals = record { number = length s.arrivals; client = from; at = at; id = id; request = r } ∷ s.arrivals;
  acceptances = s.acceptances;
}

-- ---- the words of the demand

-- from value v at ballot b to a later one "by client requests, one a ballot in rising order": each link is an acceptance, at a higher ballot than the one before, of what an arrived request makes of the value before; the numbers of the arrivals, the last first
pub data ByRequests (s : Plant) (k : Key) (b : Ballot) (v : Option Value) : Ballot → Option Value → List ℕ → Type 0 where
  unchanged : ByRequests s k b v b v []
  by_request : {b₁ : Ballot} {v₁ : Option Value} {ns : List ℕ} → ByRequests s k b v b₁ v₁ ns → (w : Acceptance plant_order) → In w s.acceptances → w.key ≡ k → above w.ballot b₁ ≡ true → (x : Arrival) → In x s.arrivals → key_of x.request ≡ k → w.value ≡ made x.request v₁ → ByRequests s k b v w.ballot w.value (x.number ∷ ns)

-- "comes of that ballot's value by client requests, .. no arrived request used twice", the one that made that ballot's own value included
pub record ComesOf (s : Plant) (k : Key) (b : Ballot) (v : Option Value) (b₁ : Ballot) (v₁ : Option Value) : Type 0 where
  pub own : Arrival
  pub own_arrived : In own s.arrivals
  pub own_key : key_of own.request ≡ k
  pub old : Option Value
  pub own-made : v ≡ made own.request old
  pub numbers : List ℕ
  pub chain : ByRequests s k b v b₁ v₁ numbers
  pub used_once : Distinct (own.number ∷ numbers)

-- what a client was told: "success or failed compare", with a value
pub data Tells (f : Frame) (id : ℕ) (v : Option Value) : Reply → Type 0 where
  success : f.message ≡ Message.ClientResponse id (Reply.Done v) → Tells f id v (Reply.Done v)
  failed_compare : f.message ≡ Message.ClientResponse id (Reply.Failed (Failure.CasFailed v)) → Tells f id v (Reply.Failed (Failure.CasFailed v))

-- ---- the premises

module _ (fixed : List ℕ) where
  pub record Begins (s : Plant) : Type 0 where
    -- "fresh tables"
    pub fresh_tables : (a : ℕ) (l : List Slot) → s.party a ≡ acceptor l → (x : Slot) → In x l → x ≡ free
    -- "proposers that start with nothing pending"
    pub nothing_pending : (p : ℕ) (P : Proposer) → s.party p ≡ proposer P → (x : Option Pending) → In x P.places → x ≡ None
    -- "one fixed acceptor set in every list": order and repeats are free
    pub one_set : (p : ℕ) (P : Proposer) → s.party p ≡ proposer P → SameSet fixed P.accept_acceptors × SameSet fixed P.propose_acceptors
    pub nothing_sent : s.frames ≡ []
    pub nothing_arrived : s.arrivals ≡ []
    pub nothing_accepted : s.acceptances ≡ []

  -- "none later damaged or rolled back": nothing but these steps changes a party. That no proposer uses a ballot twice follows.
  pub data Run (start : Plant) : Plant → Type 0 where
    begins : Run start start
    -- "a network that may lose, repeat, delay and reorder but never forge or misroute": what was sent may come at any time, any number of times or never, to its own address
    delivers : {s : Plant} → Run start s → (f : Frame) → In f s.frames → (t : ℕ) → Run start (hear s f.from f.to t f.message)
    -- any client's request may arrive
    requests : {s : Plant} → Run start s → (from at id : ℕ) (r : Request) (t : ℕ) → Run start (hear (arriving s from at id r) from at t (Message.ClientRequest id r))
    -- "one fixed acceptor set in every list"
    sets_accept : {s : Plant} → Run start s → (from at : ℕ) (l : List ℕ) → SameSet fixed l → (t : ℕ) → Run start (hear s from at t (Message.SetAcceptAcceptors l))
    sets_propose : {s : Plant} → Run start s → (from at : ℕ) (l : List ℕ) → SameSet fixed l → (t : ℕ) → Run start (hear s from at t (Message.SetProposeAcceptors l))
    ticks : {s : Plant} → Run start s → (at t : ℕ) → Run start (tick s at t)

  -- ---- the demand

  -- more than half of the set's different acceptors accepted value v at ballot b of valve k
  pub record MajorityAccepted (s : Plant) (k : Key) (b : Ballot) (v : Option Value) : Type 0 where
    pub voters : List ℕ
    pub majority : Majority fixed voters
    pub all : (a : ℕ) → In a voters → AcceptedBy plant_order s.acceptances a k b v

  -- "speaks of such a majority and its value": the request that was answered arrived at this proposer from this client, the answer is what it makes of an older value, and a majority accepted the value
  pub record Speaks (s : Plant) (f : Frame) (id : ℕ) (v : Option Value) (r : Reply) : Type 0 where
    pub arrival : Arrival
    pub arrived : In arrival s.arrivals
    pub its_client : arrival.client ≡ f.to
    pub its_proposer : arrival.at ≡ f.from
    pub its_id : arrival.id ≡ id
    pub old : Option Value
    pub reply : r ≡ reply_of arrival.request old
    pub value : v ≡ made arrival.request old
    pub ballot : Ballot
    pub accepted : MajorityAccepted s (key_of arrival.request) ballot v

  pub record Demand3 (s : Plant) : Type 0 where
    -- "a valve's acceptances at one ballot all carry one value"
    pub one_value : (w u : Acceptance plant_order) → In w s.acceptances → In u s.acceptances → w.key ≡ u.key → w.ballot ≡ u.ballot → w.value ≡ u.value
    -- "every value accepted above a ballot that a majority accepted comes of that ballot's value by client requests, one a ballot in rising order, no arrived request used twice"
    pub comes_of : (k : Key) (b : Ballot) (v : Option Value) → MajorityAccepted s k b v → (w : Acceptance plant_order) → In w s.acceptances → w.key ≡ k → above w.ballot b ≡ true → ComesOf s k b v w.ballot w.value
    -- "every success or failed compare told to a client speaks of such a majority and its value"
    pub speaks : (f : Frame) → In f s.frames → (id : ℕ) (v : Option Value) (r : Reply) → Tells f id v r → Speaks s f id v r
