-- An answer in fourteen numbers. A refusal is a number beside them, and leaves them as they were.
-- Assumes nothing.
use Rattle.std.specs.Prelude.{◌≡◌, refl, List, [], ◌∷◌, ℕ, zero, suc, get_or, drop}
use Rattle.std.proofs.Common.{ap, arith}
use Rattle.messages.specs.declared.Rpc.{Rpc}
use Rattle.messages.specs.declared.answer.Answer.{Answer}
use Rattle.messages.specs.declared.answer.Refusal.{Refusal}
use Rattle.messages.specs.Refusals.{number}
use Rattle.message_numbers.specs.declared.head.Head.{Head}
use Rattle.message_numbers.specs.Heads.{head_in, message_in, plain, head_of, message_back}

-- 0, or the refusal's number in 01
abbrev pub refusal_of : Answer → ℕ
refusal_of Answer.Nothing = 0
refusal_of (Answer.Message to m v) = 0
refusal_of (Answer.Broadcast m e k v) = 0
refusal_of (Answer.Timeouts n) = 0
refusal_of (Answer.Refused r) = number r

abbrev pub answer_numbers : ℕ → ℕ → ℕ → ℕ → ℕ → ℕ → Head → List ℕ
answer_numbers kind to entries rows value key h =
    kind ∷ to ∷ entries ∷ rows ∷ value ∷ key
    ∷ h.kind ∷ h.number ∷ h.request ∷ h.value ∷ h.other ∷ h.accepted ∷ h.result ∷ h.last ∷ []

-- no message
abbrev pub blank : Head
blank = plain 0 0

-- the numbers after an answer, and w where it is a refusal
abbrev pub numbers_after : List ℕ → Answer → List ℕ
numbers_after w Answer.Nothing = answer_numbers 0 0 0 0 0 0 blank
numbers_after w (Answer.Message to m v) = answer_numbers 1 to.0 0 0 v 0 (head_of m)
numbers_after w (Answer.Broadcast m e k v) = answer_numbers 2 0 e 0 v k (head_of m)
numbers_after w (Answer.Timeouts n) = answer_numbers 3 0 0 n 0 0 blank
numbers_after w (Answer.Refused r) = w

-- ---- nothing of an answer is lost: its numbers say which one it is

abbrev read_back : ℕ → ℕ → ℕ → ℕ → ℕ → ℕ → Rpc → Answer
read_back zero to entries rows value key m = Answer.Nothing
read_back (suc zero) to entries rows value key m = Answer.Message (record { 0 = to }) m value
read_back (suc (suc zero)) to entries rows value key m = Answer.Broadcast m entries key value
read_back (suc (suc (suc k))) to entries rows value key m = Answer.Timeouts rows

abbrev pub answer_in : List ℕ → Answer
answer_in w = read_back (get_or w 0 0) (get_or w 1 0) (get_or w 2 0) (get_or w 3 0) (get_or w 4 0) (get_or w 5 0) (message_in (head_in (drop 6 w)))

above_zero : (r : Refusal) → number r ≡ 0 → ⊥
above_zero Refusal.AreaSize e = omega (arith, e)
above_zero Refusal.Damaged e = omega (arith, e)
above_zero Refusal.WrongKind e = omega (arith, e)
above_zero Refusal.OverLimit e = omega (arith, e)
above_zero Refusal.FirstPhase e = omega (arith, e)
above_zero Refusal.Repeated e = omega (arith, e)
above_zero Refusal.NotWaitedFor e = omega (arith, e)
above_zero Refusal.ForeignError e = omega (arith, e)
above_zero Refusal.PromisedAbove e = omega (arith, e)
above_zero Refusal.CounterUsedUp e = omega (arith, e)
above_zero Refusal.NoRoom e = omega (arith, e)
above_zero Refusal.ClockBack e = omega (arith, e)

pub answer_back : (w : List ℕ) (a : Answer) → refusal_of a ≡ 0 → answer_in (numbers_after w a) ≡ a
answer_back w Answer.Nothing e = refl
answer_back w (Answer.Message to m v) e = ap (λ (x : Rpc). Answer.Message to x v) (message_back m)
answer_back w (Answer.Broadcast m n k v) e = ap (λ (x : Rpc). Answer.Broadcast x n k v) (message_back m)
answer_back w (Answer.Timeouts n) e = refl
answer_back w (Answer.Refused r) e = absurd (above_zero r e)
