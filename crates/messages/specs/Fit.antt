-- What is within the limits is short; a value that is given by its mark has that mark.
-- Assumes nothing.
use Rattle.std.specs.Prelude.{◌≡◌, refl, true, ◌≤◌, length}
use Rattle.std.specs.Prelude.{Option, None, Some}
use Rattle.std.proofs.Common.{arith, leb-true}
use Rattle.leaf_fields.specs.Laws.{and_true}
use Rattle.messages.specs.declared.Lent.{Lent}
use Rattle.messages.specs.Message.{Key, Value, given}
use Rattle.messages.specs.Limits.{key_most, value_most, key_fits, option_fits, register_fits}
use Rattle.messages.specs.Answers.{marked, bytes_of}

pub short_key : (k : Key) → key_fits k ≡ true → length k ≤ key_most
short_key k h = leb-true (length k) key_most h

pub short_value : (o : Option Value) → option_fits o ≡ true → length (bytes_of o) ≤ value_most
short_value None h = omega arith
short_value (Some v) h = leb-true (length v) value_most h

pub register_key : (k : Key) (o : Option Value) → register_fits k o ≡ true → length k ≤ key_most
register_key k o h = short_key k (and_true (key_fits k) (option_fits o) h).0

pub register_value : (k : Key) (o : Option Value) → register_fits k o ≡ true → length (bytes_of o) ≤ value_most
register_value k o h = short_value o (and_true (key_fits k) (option_fits o) h).1

-- the mark of a value that is given by its mark
pub marked-given : (m : Option Lent) (bytes : Value) → marked (given m bytes) ≡ m
marked-given None bytes = refl
marked-given (Some x) bytes = refl
