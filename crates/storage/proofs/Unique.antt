-- Two outcomes that the contract of one of the six operations admits have the same answer and leave the same bytes.
-- Assumes nothing.
use mathlib.Core.Path.{◌≡◌, sym, ◌∙◌}
use mathlib.Core.List.{List}
use Prim.Native.Nat.{ℕ}
use Rattle.messages.specs.Message.{Key, Value}
use Rattle.std.specs.Prelude.{Option, Result}
use Rattle.messages.specs.declared.answer.Refusal.{Refusal}
use Rattle.storage.specs.declared.Change.{Change}
use Rattle.storage.specs.Operations.{ValueGot, KeySet}
use Rattle.storage.proofs.get_highest_seen.Reads as getHighestSeen
use Rattle.storage.proofs.get_accepted_ballot.Reads as getAcceptedBallot
use Rattle.storage.proofs.get_accepted_value.Reads as getAcceptedValue
use Rattle.storage.proofs.set_highest_seen.Reads as setHighestSeen
use Rattle.storage.proofs.set_accepted_ballot.Reads as setAcceptedBallot
use Rattle.storage.proofs.set_accepted_value.Reads as setAcceptedValue

pub get_highest_seen_once : (κs : _) (args : _) (r s : _) (e f : _) → getHighestSeen.Post κs args r e → getHighestSeen.Post κs args s f → r ≡ s
get_highest_seen_once κs args r s e f p q = p ∙ sym q

pub get_accepted_ballot_once : (κs : _) (args : _) (r s : _) (e f : _) → getAcceptedBallot.Post κs args r e → getAcceptedBallot.Post κs args s f → r ≡ s
get_accepted_ballot_once κs args r s e f p q = p ∙ sym q

value_got_once : (t : List ℕ) (n : ℕ) (k : Key) (a : List ℕ) (r s : Result (Option ℕ) Refusal) (a' b' : List ℕ) → ValueGot t n k a r a' → ValueGot t n k a s b' → (r ≡ s) × (a' ≡ b')
value_got_once t n k a r s a' b' p q = (p.answer ∙ sym q.answer, p.area ∙ sym q.area)

-- the area is the fourth argument
pub get_accepted_value_once : (κs : _) (args : _) (r s : _) (e f : _) → getAcceptedValue.Post κs args r e → getAcceptedValue.Post κs args s f → (r ≡ s) × (e.1.1.1.0.now ≡ f.1.1.1.0.now)
get_accepted_value_once κs args r s e f p q = value_got_once _ _ _ _ _ _ _ _ p q

key_set_once : (t : List ℕ) (n : ℕ) (k : Key) (c : Change) (v : Value) (d x : Result (Unit {0}) Refusal) (t' u' : List ℕ) → KeySet t n k c v d t' → KeySet t n k c v x u' → (d ≡ x) × (t' ≡ u')
key_set_once t n k c v d x t' u' p q = (p.done ∙ sym q.done, p.table ∙ sym q.table)

-- the table is the first
pub set_highest_seen_once : (κs : _) (args : _) (r s : _) (e f : _) → setHighestSeen.Post κs args r e → setHighestSeen.Post κs args s f → (r ≡ s) × (e.0.now ≡ f.0.now)
set_highest_seen_once κs args r s e f p q = key_set_once _ _ _ _ _ _ _ _ _ p q

pub set_accepted_ballot_once : (κs : _) (args : _) (r s : _) (e f : _) → setAcceptedBallot.Post κs args r e → setAcceptedBallot.Post κs args s f → (r ≡ s) × (e.0.now ≡ f.0.now)
set_accepted_ballot_once κs args r s e f p q = key_set_once _ _ _ _ _ _ _ _ _ p q

pub set_accepted_value_once : (κs : _) (args : _) (r s : _) (e f : _) → setAcceptedValue.Post κs args r e → setAcceptedValue.Post κs args s f → (r ≡ s) × (e.0.now ≡ f.0.now)
set_accepted_value_once κs args r s e f p q = key_set_once _ _ _ _ _ _ _ _ _ p q
