-- The public operations: refusals 1 and 2 of their lent areas, and the works on an area that is an image.
-- Assumes nothing.
use Rattle.std.specs.Prelude.{◌≡◌, Bool, true, false, not, ◌&&◌, List, [], ◌∷◌, ℕ, eqb, length}
use Rattle.std.proofs.Math.Path.{refl, sym}
use Rattle.std.proofs.Common.{ap, ◌∙◌, eqb-true, subst}
use Rattle.std.proofs.lemmas.Option.{none-some}
use Rattle.leaf_fields.specs.Fields.{Bytes}
use Rattle.std.specs.Prelude.{Option, None, Some}
use Rattle.messages.specs.declared.Address.{Address}
use Rattle.messages.specs.declared.answer.Answer.{Answer}
use Rattle.messages.specs.declared.answer.Refusal.{Refusal}
use Rattle.messages.specs.Message.{Message}
use Rattle.messages.specs.Refusals.{test, first_due}
use Rattle.messages.specs.Answers.{Told, nothing, one, each, timeouts, refused}
use Rattle.proposer_rules.specs.State.{Proposer}
use Rattle.proposer_rules.specs.Rules.{Outcome, unless, receive, tick}
use Rattle.proposer_place.specs.Area.{area_image, read_area, sized, may_be_lent, is_image}
use Rattle.proposer_place.specs.AreaRead.{image_lent}
use Rattle.proposer_area.specs.Held.{Held}
use Rattle.proposer_area.specs.HeldLaws.{image_held}
use Rattle.proposer.specs.Contract.{area_tests, outcome_on, tick_on, area_after, Done}
use Rattle.proposer_works.specs.Works.{answer_bytes, Worked}
use Rattle.proposer.specs.Refused.{Keeps, message_keeps, tick_keeps}

-- ---- refusals 1 and 2

module _ (a w : List ℕ) (n : ℕ) (t : Option Refusal) (et : t ≡ first_due (area_tests a n w)) where
  refused_done : (r : Refusal) (o : Outcome) → t ≡ Some r → Done a w (unless (first_due (area_tests a n w)) (read_area a n) o) (Answer.Refused r) a w
  refused_done r o e = rw (sym et ∙ e) record { answer = refl; area = refl; written = refl }

  pub message_refused : (r : Refusal) (from : Address) (at : ℕ) (m : Message) → t ≡ Some r → Done a w (outcome_on a n w from at m) (Answer.Refused r) a w
  unfolding outcome_on
  message_refused r from at m e = refused_done r (receive (read_area a n) from at m) e

  pub tick_refused : (r : Refusal) (at : ℕ) → t ≡ Some r → Done a w (tick_on a n w at) (Answer.Refused r) a w
  unfolding tick_on
  tick_refused r at e = refused_done r (tick (read_area a n) at) e

  -- neither is due
  passed_by : (s e d : Bool) → first_due (test (not (s && e)) Refusal.AreaSize ∷ test (not d) Refusal.Damaged ∷ []) ≡ None → (s ≡ true) × (e ≡ true) × (d ≡ true)
  passed_by true true true h = (refl, refl, refl)
  passed_by true true false h = absurd (none-some _ (sym h))
  passed_by true false d h = absurd (none-some _ (sym h))
  passed_by false e d h = absurd (none-some _ (sym h))

  pub lent : t ≡ None → (sized a n ≡ true) × (length w ≡ answer_bytes n) × (is_image a n ≡ true)
  lent e =
      let p = passed_by (sized a n) (eqb (length w) (answer_bytes n)) (is_image a n) (sym et ∙ e) in
      (p.0, eqb-true (length w) (answer_bytes n) p.1, p.2)

  pub lent_held : Bytes a → t ≡ None → Held a n
  lent_held bytes e = image_held a n bytes (lent e).0 (lent e).2

  pub lent_may : t ≡ None → may_be_lent (read_area a n) ≡ true
  lent_may e = image_lent a n (lent e).2

-- ---- a work on an image is the whole contract

area_kept : (a : List ℕ) (s : Proposer) (o : Outcome) → a ≡ area_image s → Keeps s o → area_image o.state ≡ area_after a o.told o.state
area_kept a s o image keeps = by o.told (λ r e. ap area_image (keeps.keeps r e) ∙ sym image)
  where
    by : (t : Told) → ((r : Refusal) → t ≡ refused r → area_image o.state ≡ a) → area_image o.state ≡ area_after a t o.state
    by nothing h = refl
    by (one to m) h = refl
    by (each l m) h = refl
    by (timeouts rs) h = refl
    by (refused r) h = h r refl

module _ (a w : List ℕ) (n : ℕ) (t : Option Refusal) (et : t ≡ first_due (area_tests a n w)) (passed : t ≡ None) (held : Held a n) (r : Answer) (a' w' : List ℕ) where
  done : (o : Outcome) → Keeps (read_area a n) o → Worked w o r a' w' → Done a w (unless (first_due (area_tests a n w)) (read_area a n) o) r a' w'
  done o keeps h = rw (sym et ∙ passed) record { answer = h.answer; area = h.area ∙ area_kept a (read_area a n) o held.image keeps; written = h.written }

  pub received : (from : Address) (at : ℕ) (m : Message) → Worked w (receive (read_area a n) from at m) r a' w' → Done a w (outcome_on a n w from at m) r a' w'
  unfolding outcome_on
  received from at m h = done (receive (read_area a n) from at m) (message_keeps (read_area a n) from at m) h

  pub ticked : (at : ℕ) → Worked w (tick (read_area a n) at) r a' w' → Done a w (tick_on a n w at) r a' w'
  unfolding tick_on
  ticked at h = done (tick (read_area a n) at) (tick_keeps (read_area a n) at) h

-- a lent slice ends as what was left behind the reference of its name
pub left_behind : (a w : List ℕ) (o : Outcome) (r : Answer) (x y w' : List ℕ) (g h : ℕ) → (g ≡ h → x ≡ y) → h ≡ g → Done a w o r y w' → Done a w o r x w'
left_behind a w o r x y w' g h ends same done-there = subst (λ (z : List ℕ). Done a w o r z w') (sym (ends (sym same))) done-there
