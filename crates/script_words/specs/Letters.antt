-- A text between quotation marks as the bytes that a program's byte string has.
-- Assumes nothing.
use mathlib.Core.List as Rows
use Rattle.std.specs.Prelude.{List, ℕ}
use Prim.Native.Char.{code}
use Prim.Native.String.{String, [], ◌∷◌}

abbrev pub letters : String → List ℕ
letters [] = Rows.[]
letters (c ∷ s) = Rows.◌∷◌ (code c) (letters s)
