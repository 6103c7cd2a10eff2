-- The predicates and helpers of messages leave no choice: two results that meet a function's contract are one.
-- Assumes nothing.
use mathlib.Core.Path.{◌≡◌, sym, ◌∙◌}
use Rattle.messages.proofs.Ballot.above.Reads as above-reads
use Rattle.messages.proofs.Lent.mark.Reads as mark-reads
use Rattle.messages.proofs.Lent.of_mark.Reads as of-mark-reads
use Rattle.messages.proofs.Error.is_rejected_accept.Reads as rejected-accept-reads
use Rattle.messages.proofs.Error.is_rejected_proposal.Reads as rejected-proposal-reads
use Rattle.messages.proofs.Error.is_timeout.Reads as timed-out-reads
use Rattle.messages.proofs.Error.is_failed_cas.Reads as failed-cas-reads
use Rattle.messages.proofs.Rpc.client_req_id.Reads as request-id-reads
use Rattle.messages.proofs.Rpc.client_req.Reads as request-reads
use Rattle.messages.proofs.answer.Refusal.number.Reads as number-reads
use Rattle.messages.proofs.address_at.Reads as address-at-reads
use Rattle.messages.proofs.Incoming.fits.Reads as fits-reads
use Rattle.messages.proofs.list_fits.Reads as list-fits-reads
use Rattle.messages.proofs.register_fits.Reads as register-fits-reads
use Rattle.messages.proofs.present.Reads as present-reads

pub above_once : (κs : _) (args : _) (r s : _) (e f : _) → above-reads.Post κs args r e → above-reads.Post κs args s f → r ≡ s
above_once κs args r s e f p q = p ∙ sym q

pub mark_once : (κs : _) (args : _) (r s : _) (e f : _) → mark-reads.Post κs args r e → mark-reads.Post κs args s f → r ≡ s
mark_once κs args r s e f p q = p ∙ sym q

pub of_mark_once : (κs : _) (args : _) (r s : _) (e f : _) → of-mark-reads.Post κs args r e → of-mark-reads.Post κs args s f → r ≡ s
of_mark_once κs args r s e f p q = p ∙ sym q

pub rejected_accept_once : (κs : _) (args : _) (r s : _) (e f : _) → rejected-accept-reads.Post κs args r e → rejected-accept-reads.Post κs args s f → r ≡ s
rejected_accept_once κs args r s e f p q = p ∙ sym q

pub rejected_proposal_once : (κs : _) (args : _) (r s : _) (e f : _) → rejected-proposal-reads.Post κs args r e → rejected-proposal-reads.Post κs args s f → r ≡ s
rejected_proposal_once κs args r s e f p q = p ∙ sym q

pub timed_out_once : (κs : _) (args : _) (r s : _) (e f : _) → timed-out-reads.Post κs args r e → timed-out-reads.Post κs args s f → r ≡ s
timed_out_once κs args r s e f p q = p ∙ sym q

pub failed_cas_once : (κs : _) (args : _) (r s : _) (e f : _) → failed-cas-reads.Post κs args r e → failed-cas-reads.Post κs args s f → r ≡ s
failed_cas_once κs args r s e f p q = p ∙ sym q

pub request_id_once : (κs : _) (args : _) (r s : _) (e f : _) → request-id-reads.Post κs args r e → request-id-reads.Post κs args s f → r ≡ s
request_id_once κs args r s e f p q = p ∙ sym q

pub request_once : (κs : _) (args : _) (r s : _) (e f : _) → request-reads.Post κs args r e → request-reads.Post κs args s f → r ≡ s
request_once κs args r s e f p q = p ∙ sym q

pub number_once : (κs : _) (args : _) (r s : _) (e f : _) → number-reads.Post κs args r e → number-reads.Post κs args s f → r ≡ s
number_once κs args r s e f p q = p ∙ sym q

pub address_at_once : (κs : _) (args : _) (r s : _) (e f : _) → address-at-reads.Post κs args r e → address-at-reads.Post κs args s f → r ≡ s
address_at_once κs args r s e f p q = p ∙ sym q

pub fits_once : (κs : _) (args : _) (r s : _) (e f : _) → fits-reads.Post κs args r e → fits-reads.Post κs args s f → r ≡ s
fits_once κs args r s e f p q = p ∙ sym q

pub list_fits_once : (κs : _) (args : _) (r s : _) (e f : _) → list-fits-reads.Post κs args r e → list-fits-reads.Post κs args s f → r ≡ s
list_fits_once κs args r s e f p q = p ∙ sym q

pub register_fits_once : (κs : _) (args : _) (r s : _) (e f : _) → register-fits-reads.Post κs args r e → register-fits-reads.Post κs args s f → r ≡ s
register_fits_once κs args r s e f p q = p ∙ sym q

-- a lent part: its bytes
pub present_once : (κs : _) (args : _) (r s : _) (e f : _) → present-reads.Post κs args r e → present-reads.Post κs args s f → r.now ≡ s.now
present_once κs args r s e f p q = p ∙ sym q
