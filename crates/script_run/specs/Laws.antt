-- Laws of steps: one that puts nothing out, and what comes back from a lent part.
-- Assumes nothing.
use Rattle.std.specs.Prelude.{◌≡◌, refl, Bool, true, false, cond, List, [], ℕ, ◌-◌, ◌≤◌, length, take, drop}
use Rattle.std.proofs.Common.{ap, ◌∙◌, arith, length-append, length-drop, length-take-le}
use Rattle.std.proofs.Math.Nat.{sub-zero}
use borrow.Rule.Slice.PartMut.{put_mid}
use Rattle.std.proofs.Math.Seq.{take-append_seam}
use Rattle.messages.specs.declared.answer.Answer.{Answer}
use Rattle.messages.specs.Answers.{answer_of}
use Rattle.script_answer.specs.Lines.{answer_line}
use Rattle.script_words.specs.Written.{written}
use Rattle.script_words.specs.LentLaws.{Put}
use Rattle.script_run.specs.declared.run.Run.{Run}
use Rattle.script_run.specs.Run.{put_up_to}
use Rattle.script_run.specs.Obeyed.{Ran, ran, lent_back, Heard, Gave, heard_in, Held, Stepped}

-- no text
pub nothing_put : (out : List ℕ) (at : ℕ) → at ≤ length out → Put out at [] at out
unfolding written
nothing_put out at h = record { within = h; place = omega arith; bytes = refl }

-- a step that puts nothing out
pub quiet : (s u r : Run) (t a out : List ℕ) → s.at ≤ length out → u.at ≡ s.at → r ≡ u → Held u t a out → Stepped s out (ran u t a []) r t a out
quiet s u r t a out h e f k =
    let g : u.at ≤ length out = k.3 in
    let p : Put out s.at [] u.at out = rw e (nothing_put out s.at h) in
    rw f (record { run = refl; table = refl; area = refl; put = p; held = k })

-- one of two outcomes, by a test
pub first_of : (s r : Run) (out t' a' out' : List ℕ) (p : Bool) (x y : Ran) → p ≡ true → Stepped s out x r t' a' out' → Stepped s out (cond p x y) r t' a' out'
first_of s r out t' a' out' p x y e k = rw e k

pub second_of : (s r : Run) (out t' a' out' : List ℕ) (p : Bool) (x y : Ran) → p ≡ false → Stepped s out y r t' a' out' → Stepped s out (cond p x y) r t' a' out'
second_of s r out t' a' out' p x y e k = rw e k

-- the first n elements were lent, and ys came back
pub back : (l ys : List ℕ) (n : ℕ) → put_mid 0 (n - 0) l ys ≡ lent_back l n ys
back l ys n = rw (sub-zero n)

pub lent : (l : List ℕ) (n : ℕ) → take (n - 0) (drop 0 l) ≡ take n l
lent l n = rw (sub-zero n)

-- what came back is as long as what was lent, so the whole keeps its length, and its front is what came back
pub back_length : (l ys : List ℕ) (n : ℕ) → n ≤ length l → length ys ≡ length (take (n - 0) (drop 0 l)) → length ys ≡ n
back_length l ys n h e = rw (lent l n, length-take-le n l h) at e

pub length_back : (l ys : List ℕ) (n : ℕ) → n ≤ length l → length ys ≡ n → length (lent_back l n ys) ≡ length l
length_back l ys n h e = rw (length-append ys (drop n l), length-drop n l) (omega (arith, h, e))

pub front_back : (l ys : List ℕ) (n : ℕ) → length ys ≡ n → take n (lent_back l n ys) ≡ ys
front_back l ys n e = rw (← e) (take-append_seam ys (drop (length ys) l))

-- a run holds what came back
pub held_back : (s : Run) (t a out ys zs out' : List ℕ) (at : ℕ) → Held s t a out → length ys ≡ s.bytes → length zs ≡ s.area → at ≤ length out' → Held (put_up_to s at) (lent_back t s.bytes ys) (lent_back a s.area zs) out'
held_back s t a out ys zs out' at h y z w =
    let u : length (lent_back t s.bytes ys) ≡ length t = length_back t ys s.bytes h.0 y in
    let v : length (lent_back a s.area zs) ≡ length a = length_back a zs s.area h.2 z in
    (omega (arith, u, h.0), omega (arith, u, h.1), omega (arith, v, h.2), w)

-- a party was lent the fronts of both areas, and its answer was put out
pub heard : (s r : Run) (t a out ys zs out' : List ℕ) (at : ℕ) (h : Heard) (x : Answer) → Held s t a out → length ys ≡ length (take (s.bytes - 0) (drop 0 t)) → length zs ≡ length (take (s.area - 0) (drop 0 a)) → Gave h x ys zs → Put out s.at (answer_line x (take (s.area - 0) (drop 0 (put_mid 0 (s.area - 0) a zs)))) at out' → r ≡ put_up_to s at → Stepped s out (heard_in s t a h) r (put_mid 0 (s.bytes - 0) t ys) (put_mid 0 (s.area - 0) a zs) out'
heard s r t a out ys zs out' at h x held y z gave put e =
    let n : length zs ≡ s.area = back_length a zs s.area held.2 z in
    let m : length ys ≡ s.bytes = back_length t ys s.bytes held.0 y in
    let shown : take (s.area - 0) (drop 0 (put_mid 0 (s.area - 0) a zs)) ≡ zs = rw (back a zs s.area, lent (lent_back a s.area zs) s.area) (front_back a zs s.area n) in
    let line : answer_line x (take (s.area - 0) (drop 0 (put_mid 0 (s.area - 0) a zs))) ≡ answer_line (answer_of h.told) h.area = ap (answer_line x) (shown ∙ gave.area) ∙ ap (λ (r : Answer). answer_line r h.area) gave.answer in
    let p : Put out s.at (answer_line (answer_of h.told) h.area) at out' = rw line at put in
    rw e
    (record {
      run = refl;
      table = back t ys s.bytes ∙ ap (lent_back t s.bytes) gave.lent;
      area = back a zs s.area ∙ ap (lent_back a s.area) gave.area;
      put = p;
      held = rw (back t ys s.bytes, back a zs s.area) (held_back s t a out ys zs out' at held m n p.within);
    })

-- the front of what is lent was put out as text
pub shown : (f : List ℕ → List ℕ) (s r : Run) (t a out l out' : List ℕ) (n at : ℕ) → Held s t a out → Put out s.at (f (take (n - 0) (drop 0 l))) at out' → r ≡ put_up_to s at → Stepped s out (ran s t a (f (take n l))) r t a out'
shown f s r t a out l out' n at h put e =
    let p : Put out s.at (f (take n l)) at out' = rw (lent l n) at put in
    rw e (record { run = refl; table = refl; area = refl; put = p; held = (h.0, h.1, h.2, p.within) })
