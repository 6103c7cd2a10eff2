-- `script_run::start::fresh` meets its contract: what is lent is zeros as far as it was used, and the answer area throughout.
-- Assumes nothing.
use Rattle.std.proofs.Common.{◌≡◌, refl, ap, ◌∙◌, Bool, List, ℕ, ◌-◌, ◌≤◌, arith, true, false, leb, leb-true, Some, sym, length, take, drop, length-append, length-drop}
use Rattle.std.specs.Prelude.{replicate}
use Rattle.std.proofs.lemmas.List.{length-replicate, length-take}
use borrow.Rule.Slice.PartMut.{put_mid}
use Rattle.leaf_fields.specs.Laws.{and_true}
use Rattle.script_run.specs.declared.run.Party.{Party}
use Rattle.script_run.specs.declared.run.Run.{Run}
use Rattle.script_run.specs.Run.{lending, lending_to, begun, cleared}
use Rattle.script_run.specs.Obeyed.{unreadable, has_room, lent_back, fresh_in, Held, Stepped}
use Rattle.script_run.specs.Laws.{quiet, first_of, second_of, back, lent}
use Rattle.script_run.proofs.start.fresh.Goals as goal

no_room : (s r : Run) (t a out out' : List ℕ) (line capacity bytes n : ℕ) (p : Party) (b : Bool) → b ≡ has_room t a bytes n → b ≡ false → Stepped s out (unreadable s t a line) r t a out' → Stepped s out (fresh_in s t a line p capacity bytes n) r t a out'
unfolding fresh_in
no_room s r t a out out' line capacity bytes n p b e h k = second_of s r out t a out' (has_room t a bytes n) _ _ (sym e ∙ h) k

all_zeros : (s u r : Run) (t a out ys a' : List ℕ) (line capacity bytes n : ℕ) (p : Party) (b : Bool) → Held s t a out → b ≡ has_room t a bytes n → b ≡ true → ys ≡ replicate (length (take (s.reach - 0) (drop 0 t))) 0 → a' ≡ replicate (length a) 0 → u ≡ cleared s → r ≡ lending_to u (Some p) capacity bytes n → Stepped s out (fresh_in s t a line p capacity bytes n) r (put_mid 0 (s.reach - 0) t ys) a' out
unfolding fresh_in
all_zeros s u r t a out ys a' line capacity bytes n p b held e f ey ea eu er =
    let room = and_true (leb bytes (length t)) (leb n (length a)) (sym e ∙ f) in
    let h : bytes ≤ length t = leb-true bytes (length t) room.0 in
    let g : n ≤ length a = leb-true n (length a) room.1 in
    let reach : length (take (s.reach - 0) (drop 0 t)) ≡ s.reach = rw (lent t s.reach, length-take s.reach t) (omega (arith, held.1)) in
    let zeros : ys ≡ replicate s.reach 0 = ey ∙ ap (λ (k : ℕ). replicate k 0) reach in
    let t' : put_mid 0 (s.reach - 0) t ys ≡ lent_back t s.reach (replicate s.reach 0) = back t ys s.reach ∙ ap (lent_back t s.reach) zeros in
    let long : length (lent_back t s.reach (replicate s.reach 0)) ≡ length t = rw (length-append (replicate s.reach 0) (drop s.reach t), length-replicate {A = ℕ} s.reach 0, length-drop s.reach t) (omega (arith, held.1)) in
    let wide : length (replicate {A = ℕ} (length a) 0) ≡ length a = length-replicate {A = ℕ} (length a) 0 in
    let new : r ≡ lending (begun s p) capacity bytes n = er ∙ ap (λ (x : Run). lending_to x (Some p) capacity bytes n) eu in
    first_of s r out _ _ out (has_room t a bytes n) _ _ (sym e ∙ f)
    (rw (t', ea)
    (quiet s (lending (begun s p) capacity bytes n) r _ _ out held.3 refl new (omega (arith, long, h), omega (arith, long, h), omega (arith, wide, g), held.3)))

pub returns-then-not-has_room : goal.returns-then-not-has_room
returns-then-not-has_room c = search no_room depth 12

pub returns : goal.returns
returns c =
    all_zeros _ _ _ _ _ _ _ _ _ _ _ _ _ _ c.requires c.has_room.ensures c.if-not-has_room.false (c.fill.ensures.after (λ y h. h)) (c.fill-2.ensures.after (λ y h. h)) c.cleared.ensures c.lending.ensures
