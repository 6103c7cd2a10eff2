-- The crate's six storage operations on a lent table: what each answers, and every byte after it.
-- Assumes nothing.
use Rattle.std.specs.Prelude.{◌≡◌, Bool, not, ◌||◌, List, [], ◌∷◌, ℕ, eqb, length}
use Rattle.std.specs.Prelude.{Option, None, Some, Result, Ok, Err, MatchResult, option_map}
use denote.Ref.{Bor}
use Rattle.std.proofs.lemmas.List.Edits.{sets}
use Rattle.messages.specs.declared.Ballot.{Ballot}
use Rattle.messages.specs.declared.answer.Refusal.{Refusal}
use Rattle.messages.specs.Ballots.{above}
use Rattle.messages.specs.Message.{Key, Value, given}
use Rattle.messages.specs.Limits.{value_most, key_fits, register_fits}
use Rattle.messages.specs.Refusals.{Test, test, first_due}
use Rattle.messages.specs.Answers.{bytes_of}
use Rattle.storage_block.specs.Block.{Register, register, image}
use Rattle.storage_search.specs.declared.Found.{Found}
use Rattle.storage_search.specs.Table.{is_sized, block_at, with_block, slots, none_bad, where_is, is_twice, is_full, register_by}
use Rattle.storage.specs.declared.Change.{Change}

-- what is due, or else an answer
abbrev pub refused_or : {A : Type 0} → Option Refusal → A → Result A Refusal
refused_or (Some x) a = Err x
refused_or None a = Ok a

-- ---- the three gets

-- refusals 1, 2 and 4 for a key, in rank order
abbrev pub key_tests : List ℕ → ℕ → Key → List Test
key_tests t n k =
    test (not (is_sized t n)) Refusal.AreaSize
    ∷ test (not (none_bad (slots t n)) || is_twice (where_is k (slots t n))) Refusal.Damaged
    ∷ test (not (key_fits k)) Refusal.OverLimit
    ∷ []

-- the register of a key, with ballots 0 and no value where it has no block
unfoldable pub register_on : List ℕ → ℕ → Key → Register
register_on t n k = register_by k (slots t n) (where_is k (slots t n))

-- `get_highest_seen`
unfoldable pub highest_seen : List ℕ → ℕ → Key → Result Ballot Refusal
highest_seen t n k = refused_or (first_due (key_tests t n k)) (register_on t n k).seen

-- `get_accepted_ballot`
unfoldable pub accepted_ballot : List ℕ → ℕ → Key → Result Ballot Refusal
accepted_ballot t n k = refused_or (first_due (key_tests t n k)) (register_on t n k).accepted

abbrev pub value_answer : Option Value → Option ℕ
value_answer None = None
value_answer (Some v) = Some (length v)

abbrev pub value_written : Option Refusal → List ℕ → Option Value → List ℕ
value_written (Some x) a v = a
value_written None a v = sets a 0 (bytes_of v)

-- refusal 1 also for the area that takes the value
abbrev pub value_tests : List ℕ → ℕ → Key → List ℕ → List Test
value_tests t n k a = test (not (eqb (length a) value_most)) Refusal.AreaSize ∷ key_tests t n k

-- `get_accepted_value`: the answer, and every byte of the area
pub record ValueGot (t : List ℕ) (n : ℕ) (k : Key) (a : List ℕ) (r : Result (Option ℕ) Refusal) (a' : List ℕ) : Type 0 where
  pub answer : r ≡ refused_or (first_due (value_tests t n k a)) (value_answer (register_on t n k).value)
  pub area : a' ≡ value_written (first_due (value_tests t n k a)) a (register_on t n k).value

-- ---- the three sets

-- what a change makes of a register
abbrev pub changed : Change → Value → Register → Register
changed (Change.HighestSeen b) v r = register r.key b r.accepted r.value
changed (Change.AcceptedBallot b) v r = register r.key r.seen b r.value
changed (Change.AcceptedValue o) v r = register r.key r.seen r.accepted (given o v)

-- the register's block would not be good: its accepted ballot is above highest seen
abbrev pub disordered : Register → Bool
disordered r = above r.accepted r.seen

-- refusals 2 and 4 of a register that is to be stored
abbrev pub register_tests : Register → List Test
register_tests r =
    test (disordered r) Refusal.Damaged
    ∷ test (not (register_fits r.key r.value)) Refusal.OverLimit
    ∷ []

abbrev pub block_by : Option Refusal → List ℕ → List ℕ → List ℕ
block_by (Some x) old new = old
block_by None old new = new

-- a register stored in one block
pub record RegisterSet (r : Register) (b : List ℕ) (d : Result (Unit {0}) Refusal) (b' : List ℕ) : Type 0 where
  pub done : d ≡ refused_or (first_due (register_tests r)) tt
  pub block : b' ≡ block_by (first_due (register_tests r)) b (image r)

-- what the change makes of the key's register in the table
unfoldable pub next_on : List ℕ → ℕ → Key → Change → Value → Register
next_on t n k c v = changed c v (register_on t n k)

-- the refusals of a set, in rank order
abbrev pub set_tests : List ℕ → ℕ → Key → Change → Value → List Test
set_tests t n k c v =
    test (not (is_sized t n)) Refusal.AreaSize
    ∷ test (not (none_bad (slots t n)) || is_twice (where_is k (slots t n)) || disordered (next_on t n k c v)) Refusal.Damaged
    ∷ test (not (register_fits k (next_on t n k c v).value)) Refusal.OverLimit
    ∷ test (is_full (where_is k (slots t n))) Refusal.NoRoom
    ∷ []

-- the table with the register in the block that has the key or takes it
abbrev pub placed_at : List ℕ → Found → Register → List ℕ
placed_at t (Found.At i) r = with_block t i (image r)
placed_at t (Found.Free i) r = with_block t i (image r)
placed_at t Found.Full r = t
placed_at t Found.Twice r = t

-- `set_highest_seen`, `set_accepted_ballot` and `set_accepted_value`: the answer, and every byte of the table
pub record KeySet (t : List ℕ) (n : ℕ) (k : Key) (c : Change) (v : Value) (d : Result (Unit {0}) Refusal) (t' : List ℕ) : Type 0 where
  pub done : d ≡ refused_or (first_due (set_tests t n k c v)) tt
  pub table : t' ≡ block_by (first_due (set_tests t n k c v)) t (placed_at t (where_is k (slots t n)) (next_on t n k c v))

-- ---- for the functions below the public ones

-- the block of a key
abbrev pub block_by_place : List ℕ → Found → Option (List ℕ)
block_by_place t (Found.At i) = Some (block_at t i)
block_by_place t (Found.Free i) = None
block_by_place t Found.Full = None
block_by_place t Found.Twice = None

-- a key's block, if it has one, or why that can't be said
abbrev pub BlockOf : List ℕ → ℕ → Key → Result (Option (Bor (List ℕ))) Refusal → Type 0
BlockOf t n k r =
    MatchResult r
    (λ o. (first_due (key_tests t n k) ≡ None) × (option_map (λ b. b.now) o ≡ block_by_place t (where_is k (slots t n))))
    (λ x. first_due (key_tests t n k) ≡ Some x)

-- a register stored in block i of the table
pub record BlockSet (r : Register) (t : List ℕ) (i : ℕ) (d : Result (Unit {0}) Refusal) (t' : List ℕ) : Type 0 where
  pub done : d ≡ refused_or (first_due (register_tests r)) tt
  pub table : t' ≡ block_by (first_due (register_tests r)) t (with_block t i (image r))

-- a register that no block takes
abbrev pub or_no_room : Option Refusal → Result (Unit {0}) Refusal
or_no_room (Some x) = Err x
or_no_room None = Err Refusal.NoRoom

abbrev pub full_by : Register → Result (Unit {0}) Refusal
full_by r = or_no_room (first_due (register_tests r))
