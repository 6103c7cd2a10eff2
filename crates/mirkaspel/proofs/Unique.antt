-- The exported operations leave no choice: two outcomes of one call have the same number, the same areas and the same numbers of an answer.
-- Assumes nothing.
use mathlib.Core.Path.{◌≡◌, sym, ap, ◌∙◌}
use mathlib.Core.List.{List}
use Prim.Native.Nat.{ℕ}
use Rattle.messages.specs.declared.Address.{Address}
use Rattle.messages.specs.declared.answer.Answer.{Answer}
use Rattle.messages.specs.Message.{Message}
use Rattle.proposer_rules.specs.Rules.{Outcome}
use Rattle.acceptor.specs.Contract.{Received}
use Rattle.proposer.specs.Contract.{Done, Started}
use Rattle.message_numbers.specs.Answers.{refusal_of, numbers_after}
use Rattle.mirkaspel.specs.Contract.{Numbered, HandedBack}

one_number : (a b : Answer) (r s : ℕ) → a ≡ b → r ≡ refusal_of a → s ≡ refusal_of b → r ≡ s
one_number a b r s e f g = f ∙ (ap refusal_of e ∙ sym g)

one_answer : (w : List ℕ) (a b : Answer) (u v : List ℕ) → a ≡ b → u ≡ numbers_after w a → v ≡ numbers_after w b → u ≡ v
one_answer w a b u v e f g = f ∙ (ap (numbers_after w) e ∙ sym g)

-- a message at an acceptor
pub one_acceptance : (t : List ℕ) (n : ℕ) (a : List ℕ) (from : Address) (m : Message) (w : List ℕ) (r s : ℕ) (t₁ a₁ w₁ t₂ a₂ w₂ : List ℕ) → HandedBack (λ (x : Answer). Received t n a from m x t₁ a₁) w r w₁ → HandedBack (λ (x : Answer). Received t n a from m x t₂ a₂) w s w₂ → (r ≡ s) × (t₁ ≡ t₂) × (a₁ ≡ a₂) × (w₁ ≡ w₂)
one_acceptance t n a from m w r s t₁ a₁ w₁ t₂ a₂ w₂ p q =
    let same = p.meets.answer ∙ sym q.meets.answer in (
      one_number p.answer q.answer r s same p.number q.number,
      p.meets.table ∙ sym q.meets.table,
      p.meets.area ∙ sym q.meets.area,
      one_answer w p.answer q.answer w₁ w₂ same p.numbers q.numbers,
    )

-- a message or a tick at a proposer
pub one_proposal : (a s : List ℕ) (o : Outcome) (w : List ℕ) (r r' : ℕ) (a₁ s₁ w₁ a₂ s₂ w₂ : List ℕ) → HandedBack (λ (x : Answer). Done a s o x a₁ s₁) w r w₁ → HandedBack (λ (x : Answer). Done a s o x a₂ s₂) w r' w₂ → (r ≡ r') × (a₁ ≡ a₂) × (s₁ ≡ s₂) × (w₁ ≡ w₂)
one_proposal a s o w r r' a₁ s₁ w₁ a₂ s₂ w₂ p q =
    let same = p.meets.answer ∙ sym q.meets.answer in (
      one_number p.answer q.answer r r' same p.number q.number,
      p.meets.area ∙ sym q.meets.area,
      p.meets.written ∙ sym q.meets.written,
      one_answer w p.answer q.answer w₁ w₂ same p.numbers q.numbers,
    )

-- a proposer's start
pub one_start : (a : List ℕ) (o : Outcome) (r s : ℕ) (a₁ a₂ : List ℕ) → Numbered (λ (x : Answer). Started a o x a₁) r → Numbered (λ (x : Answer). Started a o x a₂) s → (r ≡ s) × (a₁ ≡ a₂)
one_start a o r s a₁ a₂ p q = (
  one_number p.answer q.answer r s (p.meets.answer ∙ sym q.meets.answer) p.number q.number,
  p.meets.area ∙ sym q.meets.area,
)
