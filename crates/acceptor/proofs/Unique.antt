-- Two outcomes that the contract of `receive` admits have the same answer, the same table and the same answer area; and two that the contract of `tick` admits have the same answer.
-- Assumes nothing.
use mathlib.Core.Path.{◌≡◌, sym, ◌∙◌}
use mathlib.Core.List.{List}
use Prim.Native.Nat.{ℕ}
use Rattle.messages.specs.declared.Address.{Address}
use Rattle.messages.specs.declared.answer.Answer.{Answer}
use Rattle.messages.specs.Message.{Message}
use Rattle.acceptor.specs.Contract.{Received}
use Rattle.acceptor.proofs.receive.Reads as reads
use Rattle.acceptor.proofs.tick.Reads as tickReads

received_once : (t : List ℕ) (n : ℕ) (a : List ℕ) (from : Address) (m : Message) (r s : Answer) (t' u' a' b' : List ℕ) → Received t n a from m r t' a' → Received t n a from m s u' b' → (r ≡ s) × (t' ≡ u') × (a' ≡ b')
received_once t n a from m r s t' u' a' b' p q = (p.answer ∙ sym q.answer, p.table ∙ sym q.table, p.area ∙ sym q.area)

pub receive_once : (κs : _) (args : _) (r s : _) (e f : _) → reads.Post κs args r e → reads.Post κs args s f → (r ≡ s) × (e.0.now ≡ f.0.now) × (e.1.1.1.1.0.now ≡ f.1.1.1.1.0.now)
receive_once κs args r s e f p q = received_once _ _ _ _ _ _ _ _ _ _ _ p q

pub tick_once : (κs : _) (args : _) (r s : _) (e f : _) → tickReads.Post κs args r e → tickReads.Post κs args s f → r ≡ s
tick_once κs args r s e f p q = p ∙ sym q
