-- Which case of a get or of a set the code is in, by what it has seen of the table and of the key.
-- Assumes nothing.
use Rattle.std.specs.Prelude.{◌≡◌, refl, Bool, true, false, not, ◌||◌, List, [], ◌∷◌, ℕ}
use Rattle.std.proofs.Common.{sym, ◌∙◌}
use Rattle.std.proofs.Math.Path.{ap}
use Rattle.std.specs.Prelude.{Option, None, Some, MatchOption, option_map, Result, Ok, Err}
use denote.Ref.{Bor}
use Rattle.messages.specs.declared.Ballot.{Ballot}
use Rattle.messages.specs.declared.answer.Refusal.{Refusal}
use Rattle.messages.specs.Message.{Key, Value}
use Rattle.messages.specs.Limits.{key_fits, register_fits}
use Rattle.messages.specs.Refusals.{test, pick_first, first_due}
use Rattle.storage_block.specs.Block.{Register, fresh, readable, register_with, image}
use Rattle.storage_search.specs.declared.Found.{Found}
use Rattle.storage_search.specs.Table.{is_sized, none_bad, block_at, with_block, slots, where_is, is_twice, is_full, register_by, Lent}
use Rattle.storage_search.specs.Keys.{place_known, readable_in, register_known, register_new}
use Rattle.storage.specs.declared.Change.{Change}
use Rattle.storage.specs.Operations.{refused_or, key_tests, block_by_place, register_on, changed, disordered, register_tests, block_by, next_on, set_tests, placed_at, KeySet, BlockSet, or_no_room, full_by}

-- ---- the register of a key, by where it is

module _ (t : List ℕ) (n : ℕ) (k : Key) where
  pub register_on_lem : (f : Found) → where_is k (slots t n) ≡ f → register_on t n k ≡ register_by k (slots t n) f
  unfolding register_on
  register_on_lem f e = ap (register_by k (slots t n)) e

  pub register_here : (i : ℕ) → Lent t n → where_is k (slots t n) ≡ Found.At i → register_on t n k ≡ register_with k (block_at t i)
  register_here i lent e = register_on_lem (Found.At i) e ∙ register_known t n k i lent e

  pub register_taken : (i : ℕ) → Lent t n → where_is k (slots t n) ≡ Found.Free i → register_on t n k ≡ register_with k (block_at t i)
  register_taken i lent e = register_on_lem (Found.Free i) e ∙ sym (register_new t n k i lent e)

-- ---- what a get says, by the key's block

due_sized : (s b w l : Bool) → first_due (test (not s) Refusal.AreaSize ∷ test (not b || w) Refusal.Damaged ∷ test (not l) Refusal.OverLimit ∷ []) ≡ None → s ≡ true
due_sized false b w l e = cc
due_sized true b w l e = refl

due_sound : (s b w l : Bool) → first_due (test (not s) Refusal.AreaSize ∷ test (not b || w) Refusal.Damaged ∷ test (not l) Refusal.OverLimit ∷ []) ≡ None → b ≡ true
due_sound false b w l e = cc
due_sound true false w l e = cc
due_sound true true w l e = refl

-- the register that a block has for a key, or no block
abbrev pub register_from : Key → Option (List ℕ) → Register
register_from k (Some b) = register_with k b
register_from k None = fresh k

module _ (t : List ℕ) (n : ℕ) (k : Key) (due : first_due (key_tests t n k) ≡ None) where
  pub lent_due : Lent t n
  lent_due =
      let w = where_is k (slots t n) in
      record {
        sized = due_sized (is_sized t n) (none_bad (slots t n)) (is_twice w) (key_fits k) due;
        sound = due_sound (is_sized t n) (none_bad (slots t n)) (is_twice w) (key_fits k) due;
      }

  pub register_got : register_on t n k ≡ register_from k (block_by_place t (where_is k (slots t n)))
  register_got = by (where_is k (slots t n)) refl
    where
      by : (f : Found) → where_is k (slots t n) ≡ f → register_on t n k ≡ register_from k (block_by_place t f)
      by (Found.At i) e = register_here t n k i lent_due e
      by (Found.Free i) e = register_on_lem t n k (Found.Free i) e
      by Found.Full e = register_on_lem t n k Found.Full e
      by Found.Twice e = register_on_lem t n k Found.Twice e

  pub readable_got : (b : List ℕ) → Some b ≡ block_by_place t (where_is k (slots t n)) → readable b ≡ true
  readable_got b e = by (where_is k (slots t n)) refl e
    where
      by : (f : Found) → where_is k (slots t n) ≡ f → Some b ≡ block_by_place t f → readable b ≡ true
      by (Found.At i) h e' =
          let same : b ≡ block_at t i = cc in
          rw same (readable_in t n k i lent_due (place_known t n k i lent_due h))
      by (Found.Free i) h e' = cc
      by Found.Full h e' = cc
      by Found.Twice h e' = cc

-- a ballot of that register
module _ (f : Register → Ballot) (k : Key) where
  of_block : (o : Option (Bor (List ℕ))) (r : Ballot) → MatchOption o (r ≡ f (fresh k)) (λ b. r ≡ f (register_with k b.now)) → r ≡ f (register_from k (option_map (λ b. b.now) o))
  of_block None r e = e
  of_block (Some b) r e = e

  pub ballot_got : (t : List ℕ) (n : ℕ) (o : Option (Bor (List ℕ))) (r : Ballot) → first_due (key_tests t n k) ≡ None → option_map (λ b. b.now) o ≡ block_by_place t (where_is k (slots t n)) → MatchOption o (r ≡ f (fresh k)) (λ b. r ≡ f (register_with k b.now)) → Ok r ≡ refused_or (first_due (key_tests t n k)) (f (register_on t n k))
  ballot_got t n o r due e m = rw (due, register_got t n k due, ← e, ← of_block o r m)

-- ---- a set, by where the key is

module _ (t : List ℕ) (n : ℕ) (k : Key) (c : Change) (v : Value) where
  -- a set, by its refusal, the place of its key and its register
  pub key_set : (o : Option Refusal) (f : Found) (r : Register) (d : Result (Unit {0}) Refusal) (t' : List ℕ) → first_due (set_tests t n k c v) ≡ o → where_is k (slots t n) ≡ f → next_on t n k c v ≡ r → d ≡ refused_or o tt → t' ≡ block_by o t (placed_at t f r) → KeySet t n k c v d t'
  key_set o f r d t' eo ef er ed et = record { done = rw eo ed; table = rw (eo, ef, er) et }

  -- a refusal leaves every byte
  pub set_refused : (x : Refusal) → first_due (set_tests t n k c v) ≡ Some x → KeySet t n k c v (Err x) t
  set_refused x e = key_set (Some x) (where_is k (slots t n)) (next_on t n k c v) (Err x) t e refl refl refl refl

  next-key : (r : Register) → (changed c v r).key ≡ r.key
  next-key r = go c
    where
      go : (x : Change) → (changed x v r).key ≡ r.key
      go (Change.HighestSeen b) = refl
      go (Change.AcceptedBallot b) = refl
      go (Change.AcceptedValue o) = refl

  next_is : (r : Register) → register_on t n k ≡ r → next_on t n k c v ≡ changed c v r
  unfolding next_on
  next_is r e = ap (changed c v) e

  module _ (lent : Lent t n) where
    pub set_twice : where_is k (slots t n) ≡ Found.Twice → KeySet t n k c v (Err Refusal.Damaged) t
    set_twice e = set_refused Refusal.Damaged (rw (lent.sized, lent.sound, e))

    -- the tests of the register, and room for it
    due_set : (f : Found) (r : Register) → where_is k (slots t n) ≡ f → is_twice f ≡ false → next_on t n k c v ≡ r → r.key ≡ k → first_due (set_tests t n k c v) ≡ pick_first (disordered r) Refusal.Damaged (pick_first (not (register_fits r.key r.value)) Refusal.OverLimit (pick_first (is_full f) Refusal.NoRoom None))
    due_set f r e one_block er ek = rw (lent.sized, lent.sound, e, one_block, er, ek)

    -- a register that a block takes
    set_block : (f : Found) (i : ℕ) (d : Result (Unit {0}) Refusal) (t' : List ℕ) → where_is k (slots t n) ≡ f → is_twice f ≡ false → is_full f ≡ false → ((r : Register) → placed_at t f r ≡ with_block t i (image r)) → register_on t n k ≡ register_with k (block_at t i) → BlockSet (changed c v (register_with k (block_at t i))) t i d t' → KeySet t n k c v d t'
    set_block f i d t' e one_block room placed here b =
        let held = register_with k (block_at t i) in
        let r = changed c v held in
        let o = first_due (register_tests r) in
        let er : next_on t n k c v ≡ r = next_is held here in
        let due : first_due (set_tests t n k c v) ≡ o = due_set f r e one_block er (next-key held) ∙ rw room in
        key_set o f r d t' due e er b.done (b.table ∙ ap (block_by o t) (sym (placed r)))

    pub set_known : (i : ℕ) (d : Result (Unit {0}) Refusal) (t' : List ℕ) → where_is k (slots t n) ≡ Found.At i → BlockSet (changed c v (register_with k (block_at t i))) t i d t' → KeySet t n k c v d t'
    set_known i d t' e = set_block (Found.At i) i d t' e refl refl (λ r. refl) (register_here t n k i lent e)

    pub set_new : (i : ℕ) (d : Result (Unit {0}) Refusal) (t' : List ℕ) → where_is k (slots t n) ≡ Found.Free i → BlockSet (changed c v (register_with k (block_at t i))) t i d t' → KeySet t n k c v d t'
    set_new i d t' e = set_block (Found.Free i) i d t' e refl refl (λ r. refl) (register_taken t n k i lent e)

    pub set_full : (d : Result (Unit {0}) Refusal) → where_is k (slots t n) ≡ Found.Full → d ≡ full_by (changed c v (fresh k)) → KeySet t n k c v d t
    set_full d e ed =
        let r = changed c v (fresh k) in
        let er : next_on t n k c v ≡ r = next_is (fresh k) (register_on_lem t n k Found.Full e) in
        let o = pick_first (disordered r) Refusal.Damaged (pick_first (not (register_fits r.key r.value)) Refusal.OverLimit (Some Refusal.NoRoom)) in
        key_set o Found.Full r d t (due_set Found.Full r e refl er (next-key (fresh k))) e er (ed ∙ refuses (disordered r) (not (register_fits r.key r.value))) (stays o)
      where
        refuses : (x y : Bool) → or_no_room (pick_first x Refusal.Damaged (pick_first y Refusal.OverLimit None)) ≡ refused_or (pick_first x Refusal.Damaged (pick_first y Refusal.OverLimit (Some Refusal.NoRoom))) tt
        refuses true y = refl
        refuses false true = refl
        refuses false false = refl

        stays : (o : Option Refusal) → t ≡ block_by o t t
        stays None = refl
        stays (Some x) = refl
