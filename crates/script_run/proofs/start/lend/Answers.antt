-- `script_run::start::lend` meets its contract: nothing is put out where there are so many bytes.
-- Assumes nothing.
use Rattle.std.proofs.Common.{◌≡◌, refl, List, ℕ, ◌≤◌, arith, Bool, true, false, leb, leb-true, sym, ◌∙◌, length}
use Rattle.leaf_fields.specs.Laws.{and_true}
use Rattle.script_run.specs.declared.run.Run.{Run}
use Rattle.script_run.specs.Run.{lending, lending_to}
use Rattle.script_run.specs.Obeyed.{unreadable, has_room, lend_in, Held, Stepped}
use Rattle.script_run.specs.Laws.{quiet, first_of, second_of}
use Rattle.script_run.proofs.start.lend.Goals as goal

no_room : (s r : Run) (t a out out' : List ℕ) (line capacity bytes n : ℕ) (b : Bool) → b ≡ has_room t a bytes n → b ≡ false → Stepped s out (unreadable s t a line) r t a out' → Stepped s out (lend_in s t a line capacity bytes n) r t a out'
unfolding lend_in
no_room s r t a out out' line capacity bytes n b e h k = second_of s r out t a out' (has_room t a bytes n) _ _ (sym e ∙ h) k

lent_now : (s r : Run) (t a out : List ℕ) (line capacity bytes n : ℕ) (b : Bool) → Held s t a out → b ≡ has_room t a bytes n → b ≡ true → r ≡ lending_to s s.party capacity bytes n → Stepped s out (lend_in s t a line capacity bytes n) r t a out
unfolding lend_in
lent_now s r t a out line capacity bytes n b held e f k =
    let room = and_true (leb bytes (length t)) (leb n (length a)) (sym e ∙ f) in
    let h : bytes ≤ length t = leb-true bytes (length t) room.0 in
    let g : n ≤ length a = leb-true n (length a) room.1 in
    first_of s r out t a out (has_room t a bytes n) _ _ (sym e ∙ f)
    (quiet s (lending s capacity bytes n) r t a out held.3 refl k (h, omega (arith, held.1, h), g, held.3))

pub returns-then-not-has_room : goal.returns-then-not-has_room
returns-then-not-has_room c = search no_room depth 12

pub returns : goal.returns
returns c = search lent_now depth 12
