-- The rows A1 to A6, B1 and B2 of 01's bench table, computed from the definitions that the contracts cite.
-- Assumes nothing.
use Rattle.std.specs.Prelude.{◌≡◌, refl, List, [], ◌∷◌, ℕ, replicate}
use Rattle.std.specs.Prelude.{Option, None, Some}
use Rattle.leaf_fields.specs.Fields.{from_le, to_le, all_zero, same, padded}
use Rattle.leaf_sums.specs.Sums.{plain_sum, placed_sum}
use Rattle.messages.specs.declared.Address.{Address}
use Rattle.messages.specs.declared.Ballot.{Ballot}
use Rattle.messages.specs.Message.{Key, Value, Failure, Verdict, Message}
use Rattle.messages.specs.Limits.{none_zero, list_fits, within_limits}
use Rattle.messages.specs.Answers.{one}
use Rattle.storage_block.specs.Block.{register, register_of, head_good, rest_zero, sums_good, good, state_of, slot_of, front, body, sealed, image}
use Rattle.storage_search.specs.Table.{is_sized, block_at, with_block, slots_from, slots, none_bad, count, first_from, where_is}
use Rattle.acceptor_rules.specs.Rules.{Outcome, outcome, keep, put, work_on, receive}
use Rattle.acceptor.specs.Contract.{outcome_on, stored}

-- ---- the bench

-- a ballot by its number
abbrev pub b : ℕ → Ballot
b n = record { 0 = n }

-- the proposer that asks
abbrev pub proposer : Address
proposer = record { 0 = 7 }

-- a fresh table of two registers, and the answer area
unfoldable pub fresh_table : List ℕ
fresh_table = replicate 1024 0

unfoldable pub area : List ℕ
area = replicate 256 0

-- a valve's key and a value
abbrev pub valve : Key
valve = 86 ∷ 49 ∷ []

abbrev pub position : Option Value
position = Some (5 ∷ [])

-- what a message does on a table
abbrev pub on : List ℕ → Message → Outcome
on t m = outcome_on t 2 area proposer m

-- the table after it
abbrev pub after : List ℕ → Message → List ℕ
after t m = stored t (on t m).store

-- the answers
abbrev pub promise : ℕ → ℕ → Option Value → Verdict → Message
promise n accepted v r = Message.ProposeRes (b n) (b accepted) v r

abbrev pub rejected_by : ℕ → Verdict
rejected_by last = Verdict.Denied (Failure.ProposalRejected (b last))

abbrev pub refused_by : ℕ → Verdict
refused_by last = Verdict.Denied (Failure.AcceptRejected (b last))

-- ---- the table

pub record AcceptorRows : Type 0 where
  -- fresh, propose 1: Ok, accepted 0, none
  pub A1 : on fresh_table (Message.ProposeReq (b 1) valve) ≡ outcome (put 0 (register valve (b 1) (b 0) None)) (one proposer (promise 1 0 None Verdict.Granted))
  -- again: rejected, last 1
  pub A2 : on (after fresh_table (Message.ProposeReq (b 1) valve)) (Message.ProposeReq (b 1) valve) ≡ outcome keep (one proposer (promise 1 0 None (rejected_by 1)))
  -- accept 1 after A1: Ok
  pub A3 : on (after fresh_table (Message.ProposeReq (b 1) valve)) (Message.AcceptReq (b 1) valve position) ≡ outcome (put 0 (register valve (b 1) (b 1) position)) (one proposer (Message.AcceptRes (b 1) Verdict.Granted))
  -- fresh, propose 0: rejected, last 0, no block taken
  pub A4 : on fresh_table (Message.ProposeReq (b 0) valve) ≡ outcome keep (one proposer (promise 0 0 None (rejected_by 0)))
  -- fresh, accept 0: Ok, block taken
  pub A5 : on fresh_table (Message.AcceptReq (b 0) valve position) ≡ outcome (put 0 (register valve (b 0) (b 0) position)) (one proposer (Message.AcceptRes (b 0) Verdict.Granted))
  -- seen 3, accept 2: rejected, last 3
  pub A6 : on (after fresh_table (Message.ProposeReq (b 3) valve)) (Message.AcceptReq (b 2) valve position) ≡ outcome keep (one proposer (Message.AcceptRes (b 2) (refused_by 3)))
  -- block with empty key, seen 1, accepted 0, none: sums 2 and 10
  pub B1_plain : plain_sum (body (register [] (b 1) (b 0) None)) ≡ 2
  pub B1_placed : placed_sum 0 (body (register [] (b 1) (b 0) None)) ≡ 10
  -- same with one-byte key 01: sums 4 and 37
  pub B2_plain : plain_sum (body (register (1 ∷ []) (b 1) (b 0) None)) ≡ 4
  pub B2_placed : placed_sum 0 (body (register (1 ∷ []) (b 1) (b 0) None)) ≡ 37

pub acceptor_rows : AcceptorRows
unfolding fresh_table area outcome_on receive work_on where_is first_from count same none_bad slots slots_from with_block block_at is_sized slot_of state_of good sums_good rest_zero head_good register_of image sealed body padded front within_limits list_fits none_zero plain_sum placed_sum all_zero to_le from_le
acceptor_rows = record {
  A1 = refl;
  A2 = refl;
  A3 = refl;
  A4 = refl;
  A5 = refl;
  A6 = refl;
  B1_plain = refl;
  B1_placed = refl;
  B2_plain = refl;
  B2_placed = refl;
}
