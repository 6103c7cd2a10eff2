-- What is handed back of an answer to a message that was put together of numbers and lent bytes.
-- Assumes nothing.
use mathlib.Core.Path.{◌≡◌, subst}
use mathlib.Core.List.{List}
use Prim.Native.Nat.{ℕ}
use Rattle.messages.specs.declared.answer.Answer.{Answer}
use Rattle.messages.specs.Message.{Message}
use Rattle.message_numbers.specs.Answers.{refusal_of, numbers_after}
use Rattle.mirkaspel.specs.Contract.{HandedBack}

pub handed : (P : Message → Answer → Type 0) {m n : Message} {x : Answer} {w w' : List ℕ} {r : ℕ} → m ≡ n → P m x → r ≡ refusal_of x → w' ≡ numbers_after w x → HandedBack (P n) w r w'
handed P {x = x} e p f g = record { answer = x; meets = subst (λ m. P m x) e p; number = f; numbers = g }
