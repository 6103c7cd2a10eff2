-- A tick: the loop that drops one late request after the other, lowest ballot first, leaves the rules' state and rows.
-- Assumes nothing.
use Rattle.std.specs.Prelude.{◌≡◌, Bool, true, false, ◌&&◌, eqb}
use Rattle.std.proofs.Math.Path.{refl, sym, ap, subst}
use Rattle.std.proofs.Common.{◌∙◌, arith, ne_eqb, length-append}
use Rattle.std.proofs.Math.Bool.{cond}
use mathlib.Core.List.{List, [], ◌∷◌, ◌++◌, append-nil, append_assoc}
use Rattle.std.specs.Prelude.{Option, None, Some}
use Prim.Native.Nat.{ℕ, suc, ◌+◌, ◌*◌, ◌≤◌, ◌<◌}
use Rattle.std.proofs.Math.Decide.{dec_lt}
use Rattle.std.proofs.Math.ListN.{length, set}
use Rattle.std.proofs.Math.Seq.{sets, length-sets}
use Rattle.leaf_fields.specs.Stores.{sets_join}
use Rattle.leaf_fields.specs.Fields.{to_le}
use Rattle.leaf_fields.specs.Laws.{length-to_le}
use Rattle.messages.specs.declared.answer.Answer.{Answer}
use Rattle.messages.specs.declared.answer.Refusal.{Refusal}
use Rattle.messages.specs.Refusals.{test, first_due}
use Rattle.messages.specs.Answers.{Row, rows_at, row_bytes, rows_bytes, answer_of, written_in}
use Rattle.proposer_rules.specs.State.{Pending, Proposer}
use Rattle.proposer_rules.specs.Rules.{moved, all_timeouts, clock_back, late, in_time, late_ones, rows_of, tick}
use Rattle.proposer_place.specs.declared.front.Front.{Front}
use Rattle.proposer_place.specs.Area.{header_bytes, place_image, area_image, read_places, read_pending, read_area}
use Rattle.proposer_place.specs.AreaLaws.{Lawful, LawfulPlace, LawfulState, read_written, read_pending_lem}
use Rattle.proposer_place.specs.AreaRead.{length_read}
use Rattle.proposer_place.specs.Front.{front_of}
use Rattle.proposer_place.specs.PlaceLaws.{lawful_place_set}
use Rattle.proposer_area.specs.Turns.{sized_of}
use Rattle.proposer_area.specs.Places.{place_at, place_in}
use Rattle.proposer_clock.specs.Late.{none_below, late_of}
use Rattle.proposer_clock.specs.LateLaws.{LateAt, late_none, late_some, length_late}
use Rattle.proposer_area.specs.Held.{Held}
use Rattle.proposer_area.specs.HeldLaws.{state_held, place_image_lem, lawful_at, with_place}
use Rattle.proposer_area.specs.declared.area.Area.{Area}
use Rattle.proposer_area.specs.State.{state, Becomes}
use Rattle.proposer_works.specs.Works.{answer_bytes, Worked, WorkedOn}
use Rattle.proposer_works.specs.WorksLaws.{refused_work}

-- ---- being late hangs on the timeout alone

module _ (s s' : Proposer) (t : ℕ) (same : s.timeout ≡ s'.timeout) where
  late_same : (p : Pending) → late s t p ≡ late s' t p
  late_same p = rw same

  pub ones_same : (l : List (Option Pending)) → late_ones s t l ≡ late_ones s' t l
  unfolding late_ones
  ones_same [] = refl
  ones_same (None ∷ l) = ones_same l
  ones_same (Some p ∷ l) = rw (late_same p, ones_same l)

  pub kept_same : (l : List (Option Pending)) → in_time s t l ≡ in_time s' t l
  unfolding in_time
  kept_same [] = refl
  kept_same (None ∷ l) = ap (λ (r : List (Option Pending)). None ∷ r) (kept_same l)
  kept_same (Some p ∷ l) = rw (late_same p, kept_same l)

late_within : (s : Proposer) (t : ℕ) (l : List (Option Pending)) → late_of s t l ≤ length l
unfolding late_of
late_within s t [] = omega arith
late_within s t (None ∷ l) = omega (arith, late_within s t l)
late_within s t (Some p ∷ l) = go (late s t p && none_below s t p.ballot l) (late_within s t l)
  where
    go : (z : Bool) → late_of s t l ≤ length l → cond z 0 (suc (late_of s t l)) ≤ length (Some p ∷ l)
    go true h = omega arith
    go false h = omega (arith, h)

-- ---- rows

pub length_rows : (l : List Row) → length (rows_bytes l) ≡ row_bytes * length l
unfolding rows_bytes
length_rows [] = refl
length_rows (r ∷ l) = simp (length-append, length-to_le, length_rows l) (omega arith)

rows_more : (r : Row) (l : List Row) → rows_bytes (r ∷ l) ≡ rows_bytes (r ∷ []) ++ rows_bytes l
unfolding rows_bytes
rows_more r l =
    ap (λ (u : List ℕ). to_le 2 r.client.0 ++ (u ++ rows_bytes l)) (sym (append-nil (to_le 8 r.id)))
    ∙ sym (append_assoc (to_le 2 r.client.0) (to_le 8 r.id ++ []) (rows_bytes l))

pub length-rows_of : (l : List Pending) → length (rows_of l) ≡ length l
unfolding rows_of
length-rows_of [] = refl
length-rows_of (p ∷ l) = ap suc (length-rows_of l)

-- ---- the loop

-- after k rows: what is left to drop and to tell gives what the rules drop and tell
pub record Expiring (a w : List ℕ) (n t k : ℕ) (a' w' : List ℕ) : Type 0 where
  pub held : Held a' n
  pub same : read_area a' n ≡ moved (read_area a n) (read_area a n).counter (read_area a' n).places
  pub kept : in_time (read_area a n) t (read_area a' n).places ≡ in_time (read_area a n) t (read_area a n).places
  pub count : k + length (late_ones (read_area a n) t (read_area a' n).places) ≡ length (late_ones (read_area a n) t (read_area a n).places)
  pub rows : sets w' (rows_at + row_bytes * k) (rows_bytes (rows_of (late_ones (read_area a n) t (read_area a' n).places))) ≡ sets w rows_at (rows_bytes (rows_of (late_ones (read_area a n) t (read_area a n).places)))
  pub size : length w' ≡ answer_bytes n

pub expire_begins : (a w : List ℕ) (n t : ℕ) → Held a n → length w ≡ answer_bytes n → Expiring a w n t 0 a w
expire_begins a w n t held size = record { held = held; same = refl; kept = refl; count = omega arith; rows = refl; size = size }

-- what the loop leaves in the end
pub record Expired (a w : List ℕ) (n t k : ℕ) (a' w' : List ℕ) : Type 0 where
  pub told : k ≡ length (late_ones (read_area a n) t (read_area a n).places)
  pub area : a' ≡ area_image (moved (read_area a n) (read_area a n).counter (in_time (read_area a n) t (read_area a n).places))
  pub rows : w' ≡ sets w rows_at (rows_bytes (rows_of (late_ones (read_area a n) t (read_area a n).places)))

module _ (a w : List ℕ) (n t k : ℕ) (a' w' : List ℕ) (here : Expiring a w n t k a' w') where
  abbrev s : Proposer
  s = read_area a n

  abbrev now_s : Proposer
  now_s = read_area a' n

  timeout_same : now_s.timeout ≡ s.timeout
  timeout_same = ap (λ (x : Proposer). x.timeout) here.same

  -- nothing more is late
  none_left : late_ones now_s t now_s.places ≡ [] → in_time now_s t now_s.places ≡ now_s.places → Expired a w n t k a' w'
  unfolding rows_of rows_bytes
  none_left nothing_late all-kept =
      let nothing-now : late_ones s t now_s.places ≡ [] = sym (ones_same now_s s t timeout_same now_s.places) ∙ nothing_late in
      let kept-now : in_time s t now_s.places ≡ now_s.places = sym (kept_same now_s s t timeout_same now_s.places) ∙ all-kept in
      record {
        told = omega (arith, here.count, ap length nothing-now);
        area =
            here.held.image ∙ ap area_image here.same
            ∙ ap (λ (l : List (Option Pending)). area_image (moved s s.counter l)) (sym kept-now ∙ here.kept);
        rows = rw nothing-now at here.rows;
      }

  pub expire_ends : (i : ℕ) → i ≡ late_of now_s t (read_places a' header_bytes n) → i ≡ n → Expired a w n t k a' w'
  unfolding read_area
  expire_ends i ei e =
      let nobody = late_none now_s t now_s.places (sym ei ∙ e ∙ sym here.held.lawful.full) in
      none_left nobody.nothing nobody.kept

  -- where as many rows are told as there are places, nothing more is late
  pub expire_full : k ≡ n → Expired a w n t k a' w'
  unfolding read_area
  expire_full e =
      let all : length (late_ones s t s.places) ≤ n = omega (arith, length_late s t s.places, length_read a header_bytes n) in
      let none-now : length (late_ones now_s t now_s.places) ≡ 0 = omega (arith, here.count, all, e, ap length (ones_same now_s s t timeout_same now_s.places)) in
      elim (dec_lt (late_of now_s t now_s.places) (length now_s.places)) [
        | yes lt ↦ absurd (omega (arith, none-now, ap length (late_some now_s t now_s.places (late_of now_s t now_s.places) refl lt).first))
        | no ge ↦
            let nobody = late_none now_s t now_s.places (omega (arith, ge, late_within now_s t now_s.places)) in
            none_left nobody.nothing nobody.kept
      ]

  -- one more row
  pub expire_goes_on : (i : ℕ) (f : Front) (a₁ w₁ : List ℕ) → i ≡ late_of now_s t (read_places a' header_bytes n) → i < n → f ≡ front_of (read_pending (place_in a' i)) → w₁ ≡ sets w' (rows_at + row_bytes * k) (rows_bytes (record { client = f.client; id = f.id } ∷ [])) → a₁ ≡ sets a' (place_at i) (place_image None) → Expiring a w n t (suc k) a₁ w₁
  unfolding read_area front_of rows_of
  expire_goes_on i f a₁ w₁ ei within ef ew ea =
      let l = now_s.places in
      let l₁ = set l i None in
      let found : LateAt now_s t l i = late_some now_s t l i (sym ei) (rw here.held.lawful.full within) in
      let p = found.pending in
      let lawful : Lawful p = subst (λ (q : Option Pending). LawfulPlace q) found.there (lawful_at a' n here.held i) in
      let same_pending : read_pending (place_in a' i) ≡ p = ap read_pending (place_image_lem a' n here.held i within ∙ ap place_image found.there) ∙ read_pending_lem p lawful in
      let s₁ : Proposer = moved now_s now_s.counter l₁ in
      let s₁-lawful : LawfulState s₁ n = lawful_place_set now_s n i None here.held.lawful tt in
      let image : a₁ ≡ area_image s₁ = ea ∙ with_place a' n here.held i None within tt in
      let back : read_area a₁ n ≡ s₁ = ap (λ (u : List ℕ). read_area u n) image ∙ read_written s₁ n s₁-lawful in
      let places_back : (read_area a₁ n).places ≡ l₁ = ap (λ (x : Proposer). x.places) back in
      let first : late_ones s t l ≡ p ∷ late_ones s t l₁ = sym (ones_same now_s s t timeout_same l) ∙ found.first ∙ ap (λ (r : List Pending). p ∷ r) (ones_same now_s s t timeout_same l₁) in
      let row : Row = record { client = f.client; id = f.id } in
      let told-row : row ≡ record { client = p.client; id = p.id } = rw (ef, same_pending) in
      let size = sized_of a' n here.held.sized in
      record {
        held = subst (λ (u : List ℕ). Held u n) (sym image) (state_held s₁ n s₁-lawful size.least size.most);
        same =
            back ∙ ap (λ (x : Proposer). moved x x.counter l₁) here.same
            ∙ ap (λ (r : List (Option Pending)). moved s s.counter r) (sym places_back);
        kept = rw places_back (sym (kept_same now_s s t timeout_same l₁) ∙ found.kept ∙ kept_same now_s s t timeout_same l ∙ here.kept);
        count = rw places_back (omega (arith, here.count, ap length first));
        rows =
            rw places_back
            (ap (λ (u : List ℕ). sets u (rows_at + row_bytes * suc k) (rows_bytes (rows_of (late_ones s t l₁)))) ew
            ∙ sets_join w' (rows_bytes (row ∷ [])) (rows_bytes (rows_of (late_ones s t l₁))) (rows_at + row_bytes * k) (rows_at + row_bytes * suc k) (omega (arith, length_rows (row ∷ [])))
            ∙ ap (λ (u : List ℕ). sets w' (rows_at + row_bytes * k) u) (sym (rows_more row (rows_of (late_ones s t l₁))) ∙ ap (λ (r : Row). rows_bytes (r ∷ rows_of (late_ones s t l₁))) told-row ∙ ap (λ (ps : List Pending). rows_bytes (rows_of ps)) (sym first))
            ∙ here.rows);
        size = ap length ew ∙ length-sets w' (rows_at + row_bytes * k) (rows_bytes (row ∷ [])) ∙ here.size;
      }

-- ---- the tick

pub tick_back : (a w : List ℕ) (n t : ℕ) (back : Bool) → Held a n → back ≡ clock_back t (read_places a header_bytes n) → back ≡ true → Worked w (tick (read_area a n) t) (Answer.Refused Refusal.ClockBack) a w
unfolding tick read_area
tick_back a w n t back held e behind = refused_work a w (read_area a n) (first_due (test (clock_back t (read_area a n).places) Refusal.ClockBack ∷ [])) _ Refusal.ClockBack held.image (rw (sym e ∙ behind))

-- the answer by the number of rows
told_rows : (l : List Pending) → cond (eqb (length l) 0) Answer.Nothing (Answer.Timeouts (length l)) ≡ answer_of (all_timeouts (rows_of l))
unfolding rows_of
told_rows [] = refl
told_rows (p ∷ l) = rw (ne_eqb (length (p ∷ l)) 0 (λ h. omega (arith, h)), length-rows_of l)

written_rows : (w : List ℕ) (l : List Pending) → sets w rows_at (rows_bytes (rows_of l)) ≡ written_in w (all_timeouts (rows_of l))
unfolding rows_of rows_bytes
written_rows w [] = refl
written_rows w (p ∷ l) = refl

module _ (a w : List ℕ) (n t k : ℕ) (back : Bool) (a' w' : List ℕ) (e : back ≡ clock_back t (read_places a header_bytes n)) (ahead : back ≡ false) (done : Expired a w n t k a' w') where
  ticked : Worked w (tick (read_area a n) t) (cond (eqb k 0) Answer.Nothing (Answer.Timeouts k)) a' w'
  unfolding tick read_area
  ticked =
      rw (sym e ∙ ahead)
      record {
        answer = ap (λ (j : ℕ). cond (eqb j 0) Answer.Nothing (Answer.Timeouts j)) done.told ∙ told_rows (late_ones (read_area a n) t (read_area a n).places);
        area = done.area;
        written = done.rows ∙ written_rows w (late_ones (read_area a n) t (read_area a n).places);
      }

  pub tick_nothing : k ≡ 0 → Worked w (tick (read_area a n) t) Answer.Nothing a' w'
  tick_nothing z = subst (λ (r : Answer). Worked w (tick (read_area a n) t) r a' w') (rw z) ticked

  pub tick_told : (k ≡ 0 → ⊥) → Worked w (tick (read_area a n) t) (Answer.Timeouts k) a' w'
  tick_told some-late = subst (λ (r : Answer). Worked w (tick (read_area a n) t) r a' w') (rw (ne_eqb k 0 some-late)) ticked

-- the same of an area, which stays the one that was lent
module _ (a b : Area) (w w' : List ℕ) (t k : ℕ) (ahead : clock_back t (state a).places ≡ false) (told : k ≡ length (late_ones (state a) t (state a).places)) (dropped : Becomes a b (moved (state a) (state a).counter (in_time (state a) t (state a).places))) (rows : w' ≡ sets w rows_at (rows_bytes (rows_of (late_ones (state a) t (state a).places)))) where
  expired : Expired a.bytes.now w a.places t k b.bytes.now w'
  expired = record { told = told; area = dropped.image; rows = rows }

  on_area : (r : Answer) → Worked w (tick (state a) t) r b.bytes.now w' → WorkedOn a w (tick (state a) t) r b w'
  on_area r worked = record { worked = worked; lent = dropped.lent; places = dropped.places }

  pub tick_nothing_on : k ≡ 0 → WorkedOn a w (tick (state a) t) Answer.Nothing b w'
  unfolding read_area
  tick_nothing_on z = on_area Answer.Nothing (tick_nothing a.bytes.now w a.places t k false b.bytes.now w' (sym ahead) refl expired z)

  pub tick_told_on : (k ≡ 0 → ⊥) → WorkedOn a w (tick (state a) t) (Answer.Timeouts k) b w'
  unfolding read_area
  tick_told_on some-late = on_area (Answer.Timeouts k) (tick_told a.bytes.now w a.places t k false b.bytes.now w' (sym ahead) refl expired some-late)
