-- Refused works: nothing is sent, and the area stays the image that it was. A majority of noes, by the counts of a front.
-- Assumes nothing.
use Rattle.std.specs.Prelude.{◌≡◌, List, ℕ, ◌+◌, leb, max}
use Rattle.std.proofs.Common.{ap, refl, ◌∙◌}
use Rattle.std.specs.Prelude.{Option, None, Some}
use Rattle.messages.specs.declared.answer.Answer.{Answer}
use Rattle.messages.specs.declared.answer.Refusal.{Refusal}
use Rattle.messages.specs.declared.Address.{Address}
use Rattle.messages.specs.declared.Ballot.{Ballot}
use Rattle.proposer_rules.specs.State.{Pending, Proposer, with_no}
use Rattle.proposer_rules.specs.Rules.{Outcome, unless, majority_of, reached, raised}
use Rattle.proposer_place.specs.declared.front.Front.{Front}
use Rattle.proposer_place.specs.Front.{front_of}
use Rattle.proposer_place.specs.Area.{area_image, read_area}
use Rattle.proposer_area.specs.declared.area.Area.{Area}
use Rattle.proposer_area.specs.State.{state}
use Rattle.proposer_area.specs.declared.Header.{Header}
use Rattle.proposer_area.specs.Places.{header_in}
use Rattle.proposer_works.specs.Works.{Worked, WorkedOn}
use Rattle.proposer_works.specs.Answerers.{more}

-- the first due test refuses
pub refused_work : (a w : List ℕ) (s : Proposer) (t : Option Refusal) (o : Outcome) (r : Refusal) → a ≡ area_image s → t ≡ Some r → Worked w (unless t s o) (Answer.Refused r) a w
refused_work a w s t o r image e =
    record {
      answer = rw e;
      area = rw e image;
      written = rw e;
    }

-- and where none is due the work is the rules'
pub due_none : (w : List ℕ) (s : Proposer) (t : Option Refusal) (o : Outcome) (r : Answer) (a' w' : List ℕ) → t ≡ None → Worked w o r a' w' → Worked w (unless t s o) r a' w'
due_none w s t o r a' w' e h = rw e h

-- with one more no there are as many as the front's count says
pub noes_reached : (p : Pending) (f : Front) (from : Address) → f ≡ front_of p → reached (with_no p from).nacks_from p.waiting_for ≡ leb (majority_of f.waiting_for) (f.nacks_from + 1)
unfolding front_of
noes_reached p f from ef = rw (more p.nacks_from from.0, ef)

-- the header's counter, raised, is the state's
pub counter_raised : (a : List ℕ) (n : ℕ) (h : Header) (last : Ballot) (c : ℕ) → h ≡ header_in a → c ≡ max h.counter last.0 → c ≡ raised (read_area a n).counter last
unfolding read_area
counter_raised a n h last c eh ec = ec ∙ ap (λ (g : Header). max g.counter last.0) eh

-- the same of an area
pub refused_on : (a : Area) (w : List ℕ) (t : Option Refusal) (o : Outcome) (r : Refusal) → t ≡ Some r → WorkedOn a w (unless t (state a) o) (Answer.Refused r) a w
refused_on a w t o r e =
    record { worked = refused_work a.bytes.now w (state a) t o r a.held.image e; lent = refl; places = refl }

pub due_none_on : (a : Area) (w : List ℕ) (t : Option Refusal) (o : Outcome) (r : Answer) (b : Area) (w' : List ℕ) → t ≡ None → WorkedOn a w o r b w' → WorkedOn a w (unless t (state a) o) r b w'
due_none_on a w t o r b w' e h =
    record { worked = due_none w (state a) t o r b.bytes.now w' e h.worked; lent = h.lent; places = h.places }
