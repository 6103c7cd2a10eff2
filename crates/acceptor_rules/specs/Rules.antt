-- 01's section 'Acceptor', on values: what a message does to a table and what it is answered. The contract of the code and the runs of a plant are made of this page.
-- Assumes nothing.
use Rattle.std.specs.Prelude.{Bool, true, false, not, cond, ◌&&◌, ◌||◌, List, [], ◌∷◌, ℕ}
use Rattle.std.specs.Prelude.{Option, None, Some}
use Rattle.messages.specs.declared.Address.{Address}
use Rattle.messages.specs.declared.Ballot.{Ballot}
use Rattle.messages.specs.declared.answer.Refusal.{Refusal}
use Rattle.messages.specs.Ballots.{above, not_below}
use Rattle.messages.specs.Message.{Key, Value, Failure, Verdict, Message}
use Rattle.messages.specs.Limits.{within_limits}
use Rattle.messages.specs.Refusals.{Test, test, first_due}
use Rattle.messages.specs.Answers.{Told, one, refused}
use Rattle.storage_block.specs.Block.{Slot, Register, register}
use Rattle.storage_search.specs.declared.Found.{Found}
use Rattle.storage_search.specs.Table.{none_bad, where_is, is_twice, is_full, register_by}

-- ---- one register

-- what a message does to the register of its key: whether it stores, what it stores, and its answer
pub record Work : Type 0 where
  pub stores : Bool
  pub next : Register
  pub answer : Message

-- "`ProposeReq(b, key)`: if b > highest seen, store b as highest seen and answer Ok; else store nothing and answer `ProposalRejected` with highest seen. Both carry b, the accepted ballot and the accepted value."
abbrev pub proposed : Ballot → Register → Work
proposed b r = record {
  stores = above b r.seen;
  next = register r.key b r.accepted r.value;
  answer = Message.ProposeRes b r.accepted r.value (cond (above b r.seen) Verdict.Granted (Verdict.Denied (Failure.ProposalRejected r.seen)));
}

-- "`AcceptReq(b, key, v)`: if b >= highest seen, store b as highest seen and as accepted ballot, and v as value, and answer Ok; else `AcceptRejected` with highest seen, nothing stored."
abbrev pub accepted : Ballot → Option Value → Register → Work
accepted b v r = record {
  stores = not_below b r.seen;
  next = register r.key b b v;
  answer = Message.AcceptRes b (cond (not_below b r.seen) Verdict.Granted (Verdict.Denied (Failure.AcceptRejected r.seen)));
}

-- ---- a message

-- a message that is for the acceptor: its key, and its work on that key's register
pub record Job : Type 0 where
  pub key : Key
  pub work : Register → Work

abbrev pub proposal : Ballot → Key → Job
proposal b k = record { key = k; work = proposed b }

abbrev pub acceptance : Ballot → Key → Option Value → Job
acceptance b k v = record { key = k; work = accepted b v }

abbrev pub job_of : Message → Option Job
job_of (Message.ClientRequest id r) = None
job_of (Message.ClientResponse id r) = None
job_of (Message.SetAcceptAcceptors l) = None
job_of (Message.SetProposeAcceptors l) = None
job_of (Message.ProposeReq b k) = Some (proposal b k)
job_of (Message.ProposeRes b a v r) = None
job_of (Message.AcceptReq b k v) = Some (acceptance b k v)
job_of (Message.AcceptRes b r) = None

-- ---- a message on a table

-- the block to store, at its place, or none
pub data Store : Type 0 where
  keep : Store
  put : ℕ → Register → Store

-- what is stored and what is answered, in this order
pub record Outcome : Type 0 where
  pub store : Store
  pub told : Told

abbrev pub outcome : Store → Told → Outcome
outcome s t = record { store = s; told = t }

-- the work of a job on the table
unfoldable pub work_on : List Slot → Job → Work
work_on l j = j.work (register_by j.key l (where_is j.key l))

-- "two blocks hold the key of the `ProposeReq` or `AcceptReq`"
abbrev pub key_twice : List Slot → Option Job → Bool
key_twice l None = false
key_twice l (Some j) = is_twice (where_is j.key l)

-- "the kind isn't for this party"
abbrev pub foreign : Option Job → Bool
foreign None = true
foreign (Some j) = false

-- "a block .. is needed and none is free"
abbrev pub no_block : List Slot → Option Job → Bool
no_block l None = false
no_block l (Some j) = is_full (where_is j.key l) && (work_on l j).stores

-- the refusals of a table, 2, 3, 4 and 11, in rank order
abbrev pub table_tests : List Slot → Address → Message → List Test
table_tests l from m =
    test (not (none_bad l) || key_twice l (job_of m)) Refusal.Damaged
    ∷ test (foreign (job_of m)) Refusal.WrongKind
    ∷ test (not (within_limits from m)) Refusal.OverLimit
    ∷ test (no_block l (job_of m)) Refusal.NoRoom
    ∷ []

-- the block that takes the register: the one that holds the key, or the lowest free one
abbrev pub put_at : Found → Register → Store
put_at (Found.At i) r = put i r
put_at (Found.Free i) r = put i r
put_at Found.Full r = keep
put_at Found.Twice r = keep

-- a job that nothing refuses
abbrev pub perform : List Slot → Address → Option Job → Outcome
perform l from None = outcome keep (refused Refusal.WrongKind)
perform l from (Some j) =
    outcome (cond (work_on l j).stores (put_at (where_is j.key l) (work_on l j).next) keep) (one from (work_on l j).answer)

-- "Each sends nothing and leaves state and every lent area byte for byte."
abbrev pub unless : Option Refusal → Outcome → Outcome
unless (Some r) o = outcome keep (refused r)
unless None o = o

-- the acceptor: a message from an address, on the blocks of its table
unfoldable pub receive : List Slot → Address → Message → Outcome
receive l from m = unless (first_due (table_tests l from m)) (perform l from (job_of m))
