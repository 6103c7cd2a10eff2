-- The premises can be met, and what the demand speaks of happens: a computed run of two proposers and three acceptors with a set and a compare that succeed, a compare that fails, a ballot that both proposers use, and a retry.
-- Assumes nothing.
use Rattle.std.specs.Prelude.{◌≡◌, refl, Bool, true, false, cond, List, [], ◌∷◌, ℕ, eqb}
use Rattle.std.proofs.Common.{sym, subst, arith}
use mathlib.Core.List.Memᴰ
use Rattle.std.specs.Prelude.{Option, None, Some}
use Rattle.leaf_fields.specs.Fields.{same}
use Rattle.messages.specs.declared.Ballot.{Ballot}
use Rattle.messages.specs.Ballots.{ballot0}
use Rattle.messages.specs.Message.{Key, Value, Request, Failure, Verdict, Reply, Message}
use Rattle.messages.specs.Limits.{within_limits}
use Rattle.storage_block.specs.Block.{Slot, free}
use Rattle.storage_search.specs.Table.{none_bad, count, first_from, where_is}
use Rattle.acceptor_rules.specs.Rules as Acceptor
use Rattle.acceptor_rules.specs.Rules.{work_on}
use Rattle.acceptor.specs.Images.{stored_in}
use Rattle.proposer_rules.specs.Rules as Proposing
use Rattle.proposer_rules.specs.State.{Proposer, Pending, Propose, listed}
use Rattle.proposer_rules.specs.Rules.{start, empty_places, pending_at, replace_at, no_place, take_place, clock_back, in_time, late_ones, rows_of}
use Rattle.agreement.specs.Members.{either, In, all_cons, none_yet, one_more}
use Rattle.agreement.specs.Majority.{SameSet, Majority, reached_majority}
use Rattle.agreement.specs.Order.{plant_order}
use Rattle.agreement.specs.Core.{Acceptance, acceptance}
use Rattle.agreement.specs.Plant.{Party, acceptor, proposer, client, Frame, Plant, with_party, to_entries, sent_by, accepted_from, accepted_in, acceptor_does, proposer_does, hearing, hear, ticking, tick, arriving, Begins, Run, begins, success, failed_compare, MajorityAccepted, ComesOf, Speaks, Demand3}
use Rattle.agreement.specs.Agreement.{demand3}
use Rattle.agreement.specs.Play.{nth, nth_in, Event, deliver, request, clock, delivered, step, play, play_run}

-- proposers at 1 and 2, acceptors at 11, 12 and 13 with one free block each, and clients everywhere else
abbrev pub set : List ℕ
set = 11 ∷ 12 ∷ 13 ∷ []

abbrev pub table : List Slot
table = free ∷ []

unfoldable pub parties : ℕ → Party
parties = with_party (with_party (with_party (with_party (with_party (λ _. client) 13 (acceptor table)) 12 (acceptor table)) 11 (acceptor table)) 2 (proposer (start 1000 set 4))) 1 (proposer (start 1000 set 4))

unfoldable pub at_rest : Plant
at_rest = record { party = parties; frames = []; arrivals = []; acceptances = [] }

abbrev pub valve : Key
valve = 7 ∷ []

abbrev pub position : Value
position = 42 ∷ []

abbrev pub elsewhere : Value
elsewhere = 43 ∷ []

abbrev pub ballot1 : Ballot
ballot1 = record { 0 = 1 }

abbrev pub ballot2 : Ballot
ballot2 = record { 0 = 2 }

abbrev pub ballot3 : Ballot
ballot3 = record { 0 = 3 }

-- ---- the premises

same_set : SameSet set set
same_set = record { to = λ _ m. m; fro = λ _ m. m }

-- what stands at an address
pub data Stands : Party → Type 0 where
  table_there : Stands (acceptor table)
  proposer_there : Stands (proposer (start 1000 set 4))
  client_there : Stands client

stands : (a : ℕ) → Stands (parties a)
unfolding parties with_party
stands a = go (eqb a 1) (eqb a 2) (eqb a 11) (eqb a 12) (eqb a 13)
  where
    go : (v w x y z : Bool) → Stands (cond v (proposer (start 1000 set 4)) (cond w (proposer (start 1000 set 4)) (cond x (acceptor table) (cond y (acceptor table) (cond z (acceptor table) client)))))
    go true w x y z = proposer_there
    go false true x y z = proposer_there
    go false false true y z = table_there
    go false false false true z = table_there
    go false false false false true = table_there
    go false false false false false = client_there

only : {A : Type 0} {x y : A} → In x (y ∷ []) → x ≡ y
only m = either (Memᴰ.cases_cons m) (λ e. e) (λ n. absurd (Memᴰ.not-nil n))

free_blocks : (P : Party) → Stands P → (l : List Slot) → P ≡ acceptor l → (x : Slot) → In x l → x ≡ free
free_blocks P table_there l e x m =
    let same-table : l ≡ table = cc in
    only (rw same-table at m)
free_blocks P proposer_there l e x m =
    let z : ◌≡◌ {A = ℕ} 0 1 = cc in
    absurd (omega arith)
free_blocks P client_there l e x m =
    let z : ◌≡◌ {A = ℕ} 0 1 = cc in
    absurd (omega arith)

-- what is known of each proposer
pub record AtStart (P : Proposer) : Type 0 where
  pub idle : (x : Option Pending) → In x P.places → x ≡ None
  pub one_set_lem : SameSet set P.accept_acceptors × SameSet set P.propose_acceptors

at_start : AtStart (start 1000 set 4)
unfolding start empty_places
at_start = record {
  idle = all_cons {P = λ x. x ≡ None} refl (all_cons {P = λ x. x ≡ None} refl (all_cons {P = λ x. x ≡ None} refl (λ x m. only m)));
  one_set_lem = (same_set, same_set);
}

each_proposer : (P : Party) → Stands P → (Q : Proposer) → P ≡ proposer Q → AtStart Q
each_proposer P proposer_there Q e =
    let same-state : start 1000 set 4 ≡ Q = cc in
    subst AtStart same-state at_start
each_proposer P table_there Q e =
    let z : ◌≡◌ {A = ℕ} 0 1 = cc in
    absurd (omega arith)
each_proposer P client_there Q e =
    let z : ◌≡◌ {A = ℕ} 0 1 = cc in
    absurd (omega arith)

pub begins_so : Begins set at_rest
unfolding at_rest
begins_so = record {
  fresh_tables = λ a l e. free_blocks (parties a) (stands a) l e;
  nothing_pending = λ a P e. (each_proposer (parties a) (stands a) P e).idle;
  one_set = λ a P e. (each_proposer (parties a) (stands a) P e).one_set_lem;
  nothing_sent = refl;
  nothing_arrived = refl;
  nothing_accepted = refl;
}

-- ---- the run

-- client 5 sets the valve by proposer 1; client 6 compares with that position and moves the valve by proposer 2; client 7 compares with the first position again, by proposer 2
abbrev order : Request
order = Request.Set valve position

abbrev move : Request
move = Request.Cas valve (Some position) (Some elsewhere)

abbrev too_late : Request
too_late = Request.Cas valve (Some position) (Some (44 ∷ []))

-- both proposers propose at ballot 1, and two acceptors promise it to proposer 1 and say no to proposer 2; the order is accepted and client 5 is told
abbrev pub ordering : List Event
ordering =
    request 5 1 99 order 0 ∷ request 6 2 100 move 0
    ∷ deliver 2 1 ∷ deliver 1 1 ∷ deliver 5 2 ∷ deliver 4 2
    ∷ deliver 6 3 ∷ deliver 7 3
    ∷ deliver 11 4 ∷ deliver 10 4
    ∷ deliver 13 5 ∷ deliver 14 5
    ∷ []

-- the noes come to proposer 2, which proposes anew at ballot 2
abbrev pub retrying : List Event
retrying = clock 2 6 ∷ deliver 8 6 ∷ deliver 9 6 ∷ []

-- the move is promised and accepted at ballot 2 and client 6 is told
abbrev pub moving : List Event
moving =
    deliver 16 7 ∷ deliver 17 7
    ∷ deliver 19 8 ∷ deliver 20 8
    ∷ deliver 21 9 ∷ deliver 23 9
    ∷ deliver 24 10 ∷ deliver 25 10
    ∷ []

-- the late compare finds the other position at ballot 3, has it accepted again, and client 7 is told so
abbrev pub comparing : List Event
comparing =
    request 7 2 101 too_late 11
    ∷ deliver 28 12 ∷ deliver 29 12
    ∷ deliver 30 13 ∷ deliver 31 13
    ∷ deliver 33 14 ∷ deliver 34 14
    ∷ deliver 35 15 ∷ deliver 36 15
    ∷ []

unfoldable pub after_order : Plant
after_order = play at_rest ordering

unfoldable pub after_retry : Plant
after_retry = play after_order retrying

unfoldable pub after_move : Plant
after_move = play after_retry moving

unfoldable pub plant : Plant
plant = play after_move comparing

pub run : Run set at_rest plant
unfolding after_order after_retry after_move plant
run =
    let first = play_run set at_rest at_rest begins ordering in
    let second = play_run set at_rest after_order first retrying in
    let third = play_run set at_rest after_retry second moving in
    play_run set at_rest after_move third comparing

-- ---- what happens

abbrev proposal : ℕ → ℕ → Ballot → Frame
proposal p a b = record { from = p; to = a; message = Message.ProposeReq b valve }

-- acceptor a has promised ballot 1 to the other
abbrev no_from : ℕ → Frame
no_from a = record { from = a; to = 2; message = Message.ProposeRes ballot1 ballot0 None (Verdict.Denied (Failure.ProposalRejected ballot1)) }

-- the accept round at ballot 3
abbrev accept_to : ℕ → Frame
accept_to a = record { from = 2; to = a; message = Message.AcceptReq ballot3 valve (Some elsewhere) }

abbrev yes_from : ℕ → Frame
yes_from a = record { from = a; to = 2; message = Message.AcceptRes ballot3 Verdict.Granted }

abbrev answer : ℕ → ℕ → ℕ → Reply → Frame
answer p c id r = record { from = p; to = c; message = Message.ClientResponse id r }

abbrev pub set_done : Frame
set_done = answer 1 5 99 (Reply.Done (Some position))

abbrev pub compare_done : Frame
compare_done = answer 2 6 100 (Reply.Done (Some elsewhere))

abbrev pub compare_failed : Frame
compare_failed = answer 2 7 101 (Reply.Failed (Failure.CasFailed (Some elsewhere)))

-- client 6's request in its second try
abbrev pub again : Pending
again = record {
  client = record { 0 = 6 };
  id = 100;
  req = move;
  ballot = ballot2;
  phase = Propose;
  waiting_for = set;
  acks_from = [];
  nacks_from = [];
  promised = ballot0;
  value = None;
  received_at = 0;
  retried = true;
}

abbrev pub accepts : ℕ → Ballot → Value → Acceptance plant_order
accepts a b v = acceptance plant_order a valve b (Some v)

-- all that is accepted, the latest first: two acceptors at each of three ballots
abbrev pub all_accepted : List (Acceptance plant_order)
all_accepted = accepts 11 ballot3 elsewhere ∷ accepts 12 ballot3 elsewhere ∷ accepts 11 ballot2 elsewhere ∷ accepts 13 ballot2 elsewhere ∷ accepts 13 ballot1 position ∷ accepts 12 ballot1 position ∷ []

different : In {A = ℕ} 12 (13 ∷ []) → ⊥
different m =
    let e : ◌≡◌ {A = ℕ} 12 13 = only m in
    omega arith

two_of_three : Majority set (12 ∷ 13 ∷ [])
two_of_three =
    reached_majority set (12 ∷ 13 ∷ []) (one_more different (one_more (λ m. Memᴰ.not-nil m) none_yet))
    (all_cons {P = λ a. In a set} (Memᴰ.tail (Memᴰ.head refl)) (all_cons {P = λ a. In a set} (Memᴰ.tail (Memᴰ.tail (Memᴰ.head refl))) (λ a m. absurd (Memᴰ.not-nil m))))
    refl

pub record Happened : Type 0 where
  -- one ballot, two proposers, one key
  pub shared_ballot : In (proposal 1 11 ballot1) plant.frames × In (proposal 2 11 ballot1) plant.frames
  -- a majority of noes to one of them
  pub rejected : In (no_from 11) plant.frames × In (no_from 12) plant.frames
  -- which has the same request at the next ballot then, marked retried, and proposes it
  pub tried_again : after_retry.party 2 ≡ proposer (record { counter = 2; accept_acceptors = set; propose_acceptors = set; timeout = 1000; places = Some again ∷ None ∷ None ∷ None ∷ [] })
  pub proposed_again : In (proposal 2 11 ballot2) after_retry.frames × In (proposal 2 11 ballot2) plant.frames
  -- it had one arrival until then
  pub arrived : after_retry.arrivals ≡ record { number = 1; client = 6; at = 2; id = 100; request = move } ∷ record { number = 0; client = 5; at = 1; id = 99; request = order } ∷ []
  -- what the clients are told
  pub set_told : In set_done plant.frames
  pub compare_told : In compare_done plant.frames
  -- the compare that fails after its own accept round
  pub accept_round : In (accept_to 11) plant.frames × In (accept_to 12) plant.frames × In (yes_from 11) plant.frames × In (yes_from 12) plant.frames
  pub compare_failed_told : In compare_failed plant.frames
  pub accepted : plant.acceptances ≡ all_accepted
  pub by_two : MajorityAccepted set plant valve ballot1 (Some position)

pub happened : Happened
unfolding at_rest parties after_order after_retry after_move plant play step delivered nth hear hearing tick ticking arriving acceptor_does proposer_does with_party to_entries sent_by accepted_from accepted_in Acceptor.receive work_on where_is first_from count same none_bad stored_in Proposing.receive Proposing.tick clock_back in_time late_ones rows_of start empty_places listed pending_at replace_at no_place take_place within_limits
happened = record {
  shared_ballot = (nth_in 2 plant.frames (proposal 1 11 ballot1) refl, nth_in 5 plant.frames (proposal 2 11 ballot1) refl);
  rejected = (nth_in 8 plant.frames (no_from 11) refl, nth_in 9 plant.frames (no_from 12) refl);
  tried_again = refl;
  proposed_again = (nth_in 18 after_retry.frames (proposal 2 11 ballot2) refl, nth_in 18 plant.frames (proposal 2 11 ballot2) refl);
  arrived = refl;
  set_told = nth_in 15 plant.frames set_done refl;
  compare_told = nth_in 26 plant.frames compare_done refl;
  accept_round = (nth_in 34 plant.frames (accept_to 11) refl, nth_in 33 plant.frames (accept_to 12) refl, nth_in 36 plant.frames (yes_from 11) refl, nth_in 35 plant.frames (yes_from 12) refl);
  compare_failed_told = nth_in 37 plant.frames compare_failed refl;
  accepted = refl;
  by_two = record {
    voters = 12 ∷ 13 ∷ [];
    majority = two_of_three;
    all = all_cons
        (record { it = accepts 12 ballot1 position; at = nth_in 0 plant.acceptances (accepts 12 ballot1 position) refl; is = (refl, refl, refl, refl) })
        (all_cons (record { it = accepts 13 ballot1 position; at = nth_in 1 plant.acceptances (accepts 13 ballot1 position) refl; is = (refl, refl, refl, refl) })
        (λ a m. absurd (Memᴰ.not-nil m)));
  };
}

among : (n : ℕ) (w : Acceptance plant_order) → nth n all_accepted ≡ Some w → In w plant.acceptances
among n w e = subst (In w) (sym happened.accepted) (nth_in n all_accepted w e)

-- ---- what demand 3 says of it

pub demanded : Demand3 set plant
demanded = demand3 set at_rest begins_so run

-- every acceptance at ballot 1, which both proposers used, carries the value of the set
pub agreed : (w : Acceptance plant_order) → In w plant.acceptances → w.key ≡ valve → w.ballot ≡ ballot1 → w.value ≡ Some position
unfolding nth
agreed w m k b = demanded.one_value w (accepts 12 ballot1 position) m (among 0 (accepts 12 ballot1 position) refl) k b

-- what is accepted above it, by the compare that succeeds and by the one that fails, comes of that value
pub comes : ComesOf plant valve ballot1 (Some position) ballot2 (Some elsewhere)
unfolding nth
comes = demanded.comes_of valve ballot1 (Some position) happened.by_two (accepts 11 ballot2 elsewhere) (among 3 (accepts 11 ballot2 elsewhere) refl) refl refl

pub comes_later : ComesOf plant valve ballot1 (Some position) ballot3 (Some elsewhere)
unfolding nth
comes_later = demanded.comes_of valve ballot1 (Some position) happened.by_two (accepts 11 ballot3 elsewhere) (among 5 (accepts 11 ballot3 elsewhere) refl) refl refl

-- what each client is told speaks of a majority
pub set_spoken : Speaks set plant set_done 99 (Some position) (Reply.Done (Some position))
set_spoken = demanded.speaks set_done happened.set_told 99 (Some position) (Reply.Done (Some position)) (success refl)

pub compare_spoken : Speaks set plant compare_done 100 (Some elsewhere) (Reply.Done (Some elsewhere))
compare_spoken = demanded.speaks compare_done happened.compare_told 100 (Some elsewhere) (Reply.Done (Some elsewhere)) (success refl)

pub compare_failed_spoken : Speaks set plant compare_failed 101 (Some elsewhere) (Reply.Failed (Failure.CasFailed (Some elsewhere)))
compare_failed_spoken = demanded.speaks compare_failed happened.compare_failed_told 101 (Some elsewhere) (Reply.Failed (Failure.CasFailed (Some elsewhere))) (failed_compare refl)
