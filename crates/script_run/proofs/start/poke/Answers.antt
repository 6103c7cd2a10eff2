-- `script_run::start::poke` meets its contract: the bytes are stored where all of them are within the table.
-- Assumes nothing.
use Rattle.std.proofs.Common.{◌≡◌, refl, List, ℕ, ◌+◌, ◌-◌, ◌≤◌, ◌<◌, arith, lt-ltb, le-ltb, sym, take, drop, append_assoc, length}
use Rattle.std.proofs.Math.Seq.{sets, length-sets}
use borrow.Rule.Slice.PartMut.{put_mid}
use Rattle.std.proofs.lemmas.List.Edits.{sets-eq}
use Rattle.std.proofs.lemmas.List.{drop-drop}
use Rattle.script_run.specs.declared.run.Run.{Run}
use Rattle.script_run.specs.Run.{reached}
use Rattle.script_run.specs.Obeyed.{unreadable, poke_in, Held, Stepped}
use Rattle.script_run.specs.Laws.{quiet}
use Rattle.script_run.proofs.start.poke.Goals as goal
use Rattle.script_run.proofs.start.poke.Goals.{then-table-at-via-then-table-at, then-table-at-via-else-table-at+then-table-at-2}

outside : (s r : Run) (t a out out' v : List ℕ) (line at : ℕ) → length t < at → Stepped s out (unreadable s t a line) r t a out' → Stepped s out (poke_in s t a line at v) r t a out'
unfolding poke_in
outside s r t a out out' v line at h k = rw (lt-ltb (length t) at h) k

too_long : (s r : Run) (t a out out' v : List ℕ) (line at : ℕ) → at ≤ length t → length t - at < length v → Stepped s out (unreadable s t a line) r t a out' → Stepped s out (poke_in s t a line at v) r t a out'
unfolding poke_in
too_long s r t a out out' v line at h g k = rw (le-ltb (length t) at h, lt-ltb (length t - at) (length v) g) k

stored : (s r : Run) (t a out t' v : List ℕ) (line at : ℕ) → Held s t a out → at ≤ length t → length v ≤ length t - at → t' ≡ sets t at v → r ≡ reached s (at + length v) → Stepped s out (poke_in s t a line at v) r t' a out
unfolding poke_in
stored s r t a out t' v line at held h g e f =
    let long : length (sets t at v) ≡ length t = length-sets t at v in
    rw (le-ltb (length t) at h, le-ltb (length t - at) (length v) g, e)
    (quiet s (reached s (at + length v)) r (sets t at v) a out held.3 refl f (omega (arith, long, held.0), omega (arith, long, held.1, g, h), held.2, held.3))

overwritten : (t ys v : List ℕ) (at : ℕ) → ys ≡ v → at ≤ length t → length v ≤ length t - at → put_mid at (at + length v - at) t ys ≡ sets t at v
overwritten t ys v at e h g =
    let k : at + length v - at ≡ length v = omega arith in
    rw (e, k, drop-drop, sets-eq v t at (omega arith)) (sym (append_assoc (take at t) v (drop (at + length v) t)))

pub returns-then-table-at : goal.returns-then-table-at
returns-then-table-at c =
    elim c.then-table-at.branch [
      | then-table-at-via-then-table-at w ↦ outside _ _ _ _ _ _ _ _ _ w.if-table-at.true c.unreadable.ensures
      | then-table-at-via-else-table-at+then-table-at-2 w ↦ too_long _ _ _ _ _ _ _ _ _ w.if-table-at.false w.if-table-at-2.true c.unreadable.ensures
    ]

pub returns : goal.returns
returns c =
    stored _ _ _ _ _ _ _ _ _ c.requires c.if-table-at.false c.if-table-at-2.false (overwritten _ _ _ _ c.copy_from_slice.ensures.after c.if-table-at.false c.if-table-at-2.false) c.reached.ensures
