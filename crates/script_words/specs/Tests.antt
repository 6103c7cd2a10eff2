-- A row of tests, as the code goes through it: the first that holds decides, and one that doesn't hold leaves it to the rest. The word that was tested is the line's word.
-- Assumes nothing.
use Rattle.std.specs.Prelude.{◌≡◌, Bool, true, false, cond, List, ℕ, eqb, Option}
use Rattle.std.proofs.Common.{eq-eqb, ne_eqb}
use Rattle.leaf_fields.specs.Fields.{same}
use Rattle.messages.specs.declared.Address.{Address}
use Rattle.script_words.specs.Text.{number_of, address_of, bytes_word, list_word}

-- a number
pub as_many : {A : Type 0} (n k : ℕ) (r x y : A) → n ≡ k → r ≡ x → r ≡ cond (eqb n k) x y
as_many n k r x y e f = rw (eq-eqb n k e, f)

pub not_as_many : {A : Type 0} (n k : ℕ) (r x y : A) → (n ≡ k → ⊥) → r ≡ y → r ≡ cond (eqb n k) x y
not_as_many n k r x y e f = rw (ne_eqb n k e, f)

-- a name
pub named : {A : Type 0} (t : Bool) (v w text : List ℕ) (r x y : A) → t ≡ same v text → t ≡ true → v ≡ w → r ≡ x → r ≡ cond (same w text) x y
named t v w text r x y e h f g = rw (← f, ← e, h, g)

pub not_named : {A : Type 0} (t : Bool) (v w text : List ℕ) (r x y : A) → t ≡ same v text → t ≡ false → v ≡ w → r ≡ y → r ≡ cond (same w text) x y
not_named t v w text r x y e h f g = rw (← f, ← e, h, g)

-- bytes
pub is_bytes : {A : Type 0} (t : Bool) (v w : List ℕ) (r x y : A) → t ≡ bytes_word v → t ≡ true → v ≡ w → r ≡ x → r ≡ cond (bytes_word w) x y
is_bytes t v w r x y e h f g = rw (← f, ← e, h, g)

pub no_bytes : {A : Type 0} (t : Bool) (v w : List ℕ) (r x y : A) → t ≡ bytes_word v → t ≡ false → v ≡ w → r ≡ y → r ≡ cond (bytes_word w) x y
no_bytes t v w r x y e h f g = rw (← f, ← e, h, g)

-- a list
pub is_list : {A : Type 0} (t : Bool) (v w : List ℕ) (r x y : A) → t ≡ list_word v → t ≡ true → v ≡ w → r ≡ x → r ≡ cond (list_word w) x y
is_list t v w r x y e h f g = rw (← f, ← e, h, g)

pub no_list : {A : Type 0} (t : Bool) (v w : List ℕ) (r x y : A) → t ≡ list_word v → t ≡ false → v ≡ w → r ≡ y → r ≡ cond (list_word w) x y
no_list t v w r x y e h f g = rw (← f, ← e, h, g)

-- what was read of a word is what the line's word is
pub number_at : (x : Option ℕ) (v w : List ℕ) → x ≡ number_of v → v ≡ w → x ≡ number_of w
number_at x v w e f = rw (← f, e)

pub address_at : (x : Option Address) (v w : List ℕ) → x ≡ address_of v → v ≡ w → x ≡ address_of w
address_at x v w e f = rw (← f, e)

pub bytes_at : (t : Bool) (v w : List ℕ) → t ≡ bytes_word v → v ≡ w → t ≡ bytes_word w
bytes_at t v w e f = rw (← f, e)

-- a function by cases, at what was read: alone, behind a parameter, and the first or both of two
pub matched : {A B : Type 0} (F : A → B) (x y z : A) (r : B) → x ≡ z → x ≡ y → r ≡ F y → r ≡ F z
matched F x y z r e h f = rw (← e, h, f)

pub matched_with : {P A B : Type 0} (F : P → A → B) (p : P) (x y z : A) (r : B) → x ≡ z → x ≡ y → r ≡ F p y → r ≡ F p z
matched_with F p x y z r e h f = rw (← e, h, f)

pub first_matched : {A B C : Type 0} (F : A → B → C) (x y z : A) (p : B) (r : C) → x ≡ z → x ≡ y → r ≡ F y p → r ≡ F z p
first_matched F x y z p r e h f = rw (← e, h, f)

pub both_matched : {A B C : Type 0} (F : A → B → C) (x y z : A) (x' y' z' : B) (r : C) → x ≡ z → x ≡ y → x' ≡ z' → x' ≡ y' → r ≡ F y y' → r ≡ F z z'
both_matched F x y z x' y' z' r e h e' h' f = rw (← e, h, ← e', h', f)
