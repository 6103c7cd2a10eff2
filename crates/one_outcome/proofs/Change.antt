-- The majority and the change operation leave no choice: two results that meet a function's contract are one, and of a lent part the bytes.
-- Assumes nothing.
use mathlib.Core.Path.{◌≡◌, sym, ◌∙◌}
use Rattle.proposer_change.proofs.majority.Reads as majority-reads
use Rattle.proposer_change.proofs.Change.cas_failed.Reads as cas-failed-reads
use Rattle.proposer_change.proofs.Change.new_mark.Reads as new-mark-reads
use Rattle.proposer_change.proofs.Change.new_value.Reads as new-value-reads

pub majority_once : (κs : _) (args : _) (r s : _) (e f : _) → majority-reads.Post κs args r e → majority-reads.Post κs args s f → r ≡ s
majority_once κs args r s e f p q = p ∙ sym q

pub cas_failed_once : (κs : _) (args : _) (r s : _) (e f : _) → cas-failed-reads.Post κs args r e → cas-failed-reads.Post κs args s f → r ≡ s
cas_failed_once κs args r s e f p q = p ∙ sym q

pub new_mark_once : (κs : _) (args : _) (r s : _) (e f : _) → new-mark-reads.Post κs args r e → new-mark-reads.Post κs args s f → r ≡ s
new_mark_once κs args r s e f p q = p ∙ sym q

pub new_value_once : (κs : _) (args : _) (r s : _) (e f : _) → new-value-reads.Post κs args r e → new-value-reads.Post κs args s f → r.now ≡ s.now
new_value_once κs args r s e f p q = p ∙ sym q
