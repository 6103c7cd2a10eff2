-- `script_words::put::put_byte` meets its contract: one store, or none past the end.
-- Assumes nothing.
use Rattle.std.proofs.Common.{◌≡◌, sym, ◌∙◌, ap, ℕ, ◌+◌, ◌≤◌, ◌<◌, List, [], ◌∷◌, length, length-set, set, arith}
use Rattle.script_words.specs.Written.{written}
use Rattle.script_words.specs.WrittenLaws.{sets_past}
use Rattle.script_words.specs.LentLaws.{Put}
use Rattle.script_words.proofs.put.put_byte.Goals as goal

outside : (out : List ℕ) (at b : ℕ) → length out ≤ at → Put out at (b ∷ []) (length out) out
unfolding written
outside out at b h = record { within = omega arith; place = omega arith; bytes = sym (sets_past out (b ∷ []) at h) }

stored : (out after : List ℕ) (at b r : ℕ) → at < length out → r ≡ at + 1 → after ≡ set out at b → Put out at (b ∷ []) r after
unfolding written
stored out after at b r h e f =
    let l : length after ≡ length out = ap length f ∙ length-set out at b in
    record { within = omega arith; place = omega arith; bytes = f }

pub returns-then-out-at : goal.returns-then-out-at
returns-then-out-at c = search outside

pub returns : goal.returns
returns c = search stored
