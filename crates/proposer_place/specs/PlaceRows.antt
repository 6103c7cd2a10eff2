-- A place as rows: what a store into one row makes of it, what the stores of a message make of the image of a request, and a whole place written on zeros.
-- Assumes nothing.
use Rattle.std.specs.Prelude.{◌≡◌, refl, true, None}
use Rattle.std.proofs.Math.Path.{sym, ap}
use Rattle.std.proofs.Common.{◌∙◌, arith, length-append, leb-true}
use mathlib.Core.List.{List, [], ◌∷◌, ◌++◌, append_assoc, append-nil}
use Rattle.std.specs.Prelude.{Option, Some}
use Prim.Native.Nat.{ℕ, ◌+◌, ◌-◌, ◌*◌, ◌≤◌, ◌<◌}
use borrow.Rule.Slice.PartMut.{put_mid}
use Rattle.std.proofs.Math.ListN.{length, replicate}
use Rattle.std.proofs.lemmas.List.Edits.{sets}
use Rattle.std.proofs.Math.Seq.{length-sets}
use Rattle.leaf_fields.specs.Stores.{sets_left, sets_right, sets_whole, sets_zeros, padded_more, put_middle}
use Rattle.leaf_fields.specs.Fields.{to_le, padded}
use Rattle.leaf_fields.specs.Laws.{length-to_le}
use Rattle.messages.specs.declared.Address.{Address}
use Rattle.messages.specs.declared.Ballot.{Ballot}
use Rattle.messages.specs.declared.Lent.{Lent}
use Rattle.messages.specs.Message.{Value, given}
use Rattle.messages.specs.Fit.{marked-given}
use Rattle.messages.specs.Limits.{key_most, value_most, list_most, option_fits}
use Rattle.messages.specs.Answers.{bytes_of, entry_bytes}
use Rattle.proposer_rules.specs.State.{Pending, key_of, with_no, with_yes, second_phase, asked_again}
use Rattle.proposer_place.specs.Area.{list_bytes, waited_at, yes_at, no_at, key_start, values_at, promised_value_at, place_bytes, values_bytes, list_row, place_front, values_of, place_values, place_rest, place_image, read_pending}
use Rattle.proposer_place.specs.AreaRows.{length-padded, length_entries, length_list}
use Rattle.proposer_place.specs.AreaLaws.{Lawful, length_place}
use Rattle.proposer_place.specs.declared.front.Front.{Front}
use Rattle.proposer_place.specs.declared.rows.Rows.{Rows}
use Rattle.proposer_place.specs.Front.{front_of, front_bytes, with_promise, in_second, anew, place_rows, rows_image, Fit, Used}
use Rattle.proposer_place.specs.FrontLaws.{front_bytes_lem, length-front_bytes}
use Rattle.proposer_place.specs.Rows.{list_more}

-- ---- a place as rows that are full

unfoldable pub full_rows : List ℕ → List ℕ → List ℕ → List ℕ → List ℕ → List ℕ → List ℕ → List ℕ
full_rows f w y n k v p = f ++ (w ++ (y ++ (n ++ (0 ∷ 0 ∷ (k ++ (v ++ p))))))

pub record Sized (f w y n k v p : List ℕ) : Type 0 where
  pub front : length f ≡ waited_at
  pub waited : length w ≡ list_bytes
  pub yeses : length y ≡ list_bytes
  pub noes : length n ≡ list_bytes
  pub key : length k ≡ key_most
  pub values : length v ≡ values_bytes
  pub promised : length p ≡ value_most

-- the rows of an image
pub image_rows : (p : Pending) → place_image (Some p) ≡ full_rows (place_front p) (list_row p.waiting_for) (list_row p.acks_from) (list_row p.nacks_from) (padded key_most (key_of p.req)) (padded values_bytes (values_of p.req)) (padded value_most (bytes_of p.value))
unfolding place_image place_rest place_values full_rows
image_rows p = refl

pub image_place_rows : (p : Pending) → place_image (Some p) ≡ place_rows (place_front p) (entry_bytes p.waiting_for) (entry_bytes p.acks_from) (entry_bytes p.nacks_from) (key_of p.req) (values_of p.req) (bytes_of p.value)
unfolding place_image place_rest place_values list_row place_rows
image_place_rows p = refl

pub rows_padded : (f w y n k v p : List ℕ) → place_rows f w y n k v p ≡ full_rows f (padded list_bytes w) (padded list_bytes y) (padded list_bytes n) (padded key_most k) (padded values_bytes v) (padded value_most p)
unfolding place_rows full_rows
rows_padded f w y n k v p = refl

pub length-place_front : (p : Pending) → length (place_front p) ≡ waited_at
length-place_front p = ap length (sym (front_bytes_lem p)) ∙ length-front_bytes (front_of p)

pub image_sized : (p : Pending) → Lawful p → Sized (place_front p) (list_row p.waiting_for) (list_row p.acks_from) (list_row p.nacks_from) (padded key_most (key_of p.req)) (padded values_bytes (values_of p.req)) (padded value_most (bytes_of p.value))
image_sized p ok = record {
  front = length-place_front p;
  waited = length_list p.waiting_for ok.waited.short;
  yeses = length_list p.acks_from ok.yeses.short;
  noes = length_list p.nacks_from ok.noes.short;
  key = length-padded key_most (key_of p.req) ok.key.short;
  values = length-padded values_bytes (values_of p.req) (simp length-append (omega (arith, ok.first.short, ok.second.short)));
  promised = length-padded value_most (bytes_of p.value) ok.promised.short;
}

-- ---- a store into one row

module _ (f w y n k v p : List ℕ) (size : Sized f w y n k v p) where
  pub length_rows : length (full_rows f w y n k v p) ≡ place_bytes
  unfolding full_rows
  length_rows = simp (length-append, size.front, size.waited, size.yeses, size.noes, size.key, size.values, size.promised)

  pub into_front : (g : List ℕ) → length g ≡ waited_at → sets (full_rows f w y n k v p) 0 g ≡ full_rows g w y n k v p
  unfolding full_rows
  into_front g e =
      sets_left f _ g 0 (omega (arith, size.front)) ∙ ap (λ (r : List ℕ). r ++ (w ++ (y ++ (n ++ (0 ∷ 0 ∷ (k ++ (v ++ p))))))) (sets_whole f g (size.front ∙ sym e))

  pub into_waited : (vs : List ℕ) (at i : ℕ) → at ≡ waited_at + i → i + length vs ≤ list_bytes → sets (full_rows f w y n k v p) at vs ≡ full_rows f (sets w i vs) y n k v p
  unfolding full_rows
  into_waited vs at i e room =
      sets_right f _ vs at i (omega (arith, size.front))
      ∙ ap (λ (r : List ℕ). f ++ r) (sets_left w _ vs i (omega (arith, size.waited)))

  pub into_yeses : (vs : List ℕ) (at i : ℕ) → at ≡ yes_at + i → i + length vs ≤ list_bytes → sets (full_rows f w y n k v p) at vs ≡ full_rows f w (sets y i vs) n k v p
  unfolding full_rows
  into_yeses vs at i e room =
      sets_right f _ vs at (at - 52) (omega (arith, size.front))
      ∙ ap (λ (r : List ℕ). f ++ r) (sets_right w _ vs (at - 52) i (omega (arith, size.waited))
      ∙ ap (λ (r : List ℕ). w ++ r) (sets_left y _ vs i (omega (arith, size.yeses))))

  pub into_noes : (vs : List ℕ) (at i : ℕ) → at ≡ no_at + i → i + length vs ≤ list_bytes → sets (full_rows f w y n k v p) at vs ≡ full_rows f w y (sets n i vs) k v p
  unfolding full_rows
  into_noes vs at i e room =
      sets_right f _ vs at (at - 52) (omega (arith, size.front))
      ∙ ap (λ (r : List ℕ). f ++ r) (sets_right w _ vs (at - 52) (at - 82) (omega (arith, size.waited))
      ∙ ap (λ (r : List ℕ). w ++ r) (sets_right y _ vs (at - 82) i (omega (arith, size.yeses))
      ∙ ap (λ (r : List ℕ). y ++ r) (sets_left n _ vs i (omega (arith, size.noes)))))

  -- into what stands behind the lists
  into_rest : (rest vs : List ℕ) (at i : ℕ) → at ≡ key_start + i → sets (f ++ (w ++ (y ++ (n ++ (0 ∷ 0 ∷ rest))))) at vs ≡ f ++ (w ++ (y ++ (n ++ (0 ∷ 0 ∷ sets rest i vs))))
  into_rest rest vs at i e =
      sets_right f _ vs at (at - 52) (omega (arith, size.front))
      ∙ ap (λ (r : List ℕ). f ++ r) (sets_right w _ vs (at - 52) (at - 82) (omega (arith, size.waited))
      ∙ ap (λ (r : List ℕ). w ++ r) (sets_right y _ vs (at - 82) (at - 112) (omega (arith, size.yeses))
      ∙ ap (λ (r : List ℕ). y ++ r) (sets_right n _ vs (at - 112) (2 + i) (omega (arith, size.noes))
      ∙ ap (λ (r : List ℕ). n ++ r) (sets_right (0 ∷ 0 ∷ []) rest vs (2 + i) i (omega arith)))))

  pub into_key : (vs : List ℕ) (at i : ℕ) → at ≡ key_start + i → i + length vs ≤ key_most → sets (full_rows f w y n k v p) at vs ≡ full_rows f w y n (sets k i vs) v p
  unfolding full_rows
  into_key vs at i e room =
      into_rest (k ++ (v ++ p)) vs at i e
      ∙ ap (λ (r : List ℕ). f ++ (w ++ (y ++ (n ++ (0 ∷ 0 ∷ r))))) (sets_left k (v ++ p) vs i (omega (arith, size.key)))

  pub into_values : (vs : List ℕ) (at i : ℕ) → at ≡ values_at + i → i + length vs ≤ values_bytes → sets (full_rows f w y n k v p) at vs ≡ full_rows f w y n k (sets v i vs) p
  unfolding full_rows
  into_values vs at i e room =
      into_rest (k ++ (v ++ p)) vs at (64 + i) (omega arith)
      ∙ ap (λ (r : List ℕ). f ++ (w ++ (y ++ (n ++ (0 ∷ 0 ∷ r))))) (sets_right k (v ++ p) vs (64 + i) i (omega (arith, size.key))
      ∙ ap (λ (r : List ℕ). k ++ r) (sets_left v p vs i (omega (arith, size.values))))

  pub into_promised : (vs : List ℕ) (at i : ℕ) → at ≡ promised_value_at + i → sets (full_rows f w y n k v p) at vs ≡ full_rows f w y n k v (sets p i vs)
  unfolding full_rows
  into_promised vs at i e =
      into_rest (k ++ (v ++ p)) vs at (576 + i) (omega arith)
      ∙ ap (λ (r : List ℕ). f ++ (w ++ (y ++ (n ++ (0 ∷ 0 ∷ r))))) (sets_right k (v ++ p) vs (576 + i) (512 + i) (omega (arith, size.key))
      ∙ ap (λ (r : List ℕ). k ++ r) (sets_right v p vs (512 + i) i (omega (arith, size.values))))

  -- the three lists, or the promised value, cleared
  pub cleared_lists : put_mid waited_at 90 (full_rows f w y n k v p) (replicate 90 0) ≡ full_rows f (replicate list_bytes 0) (replicate list_bytes 0) (replicate list_bytes 0) k v p
  unfolding full_rows
  cleared_lists =
      let rest : List ℕ = 0 ∷ 0 ∷ (k ++ (v ++ p)) in
      let shape : f ++ (w ++ (y ++ (n ++ rest))) ≡ f ++ ((w ++ (y ++ n)) ++ rest) = simp append_assoc in
      let lists : length (w ++ (y ++ n)) ≡ 90 = simp (length-append, size.waited, size.yeses, size.noes) in
      ap (λ (r : List ℕ). put_mid waited_at 90 r (replicate 90 0)) shape ∙ put_middle f (w ++ (y ++ n)) rest (replicate 90 0) waited_at 90 size.front lists

  pub cleared_promised : put_mid promised_value_at 256 (full_rows f w y n k v p) (replicate 256 0) ≡ full_rows f w y n k v (replicate value_most 0)
  unfolding full_rows
  cleared_promised =
      let before : List ℕ = f ++ (w ++ (y ++ (n ++ (0 ∷ 0 ∷ (k ++ v))))) in
      let zeros : List ℕ = replicate 256 0 in
      let shape : f ++ (w ++ (y ++ (n ++ (0 ∷ 0 ∷ (k ++ (v ++ p)))))) ≡ before ++ (p ++ []) = simp (append_assoc, append-nil) in
      let place : length before ≡ promised_value_at = simp (length-append, size.front, size.waited, size.yeses, size.noes, size.key, size.values) in
      ap (λ (r : List ℕ). put_mid promised_value_at 256 r zeros) shape ∙ put_middle before p [] zeros promised_value_at 256 place size.promised ∙ simp (append_assoc, append-nil)

-- ---- what a message makes of a place

-- the front of the request with that many yeses and noes
abbrev pub counted : Front → ℕ → ℕ → Front
counted f yeses noes = record {
  phase = f.phase;
  retried = f.retried;
  req = f.req;
  key_len = f.key_len;
  first_len = f.first_len;
  second_len = f.second_len;
  mark = f.mark;
  value_len = f.value_len;
  client = f.client;
  id = f.id;
  ballot = f.ballot;
  promised = f.promised;
  received_at = f.received_at;
  waiting_for = f.waiting_for;
  acks_from = yeses;
  nacks_from = noes;
}

-- with one more no, or yes
abbrev pub one_more_no : Front → Front
one_more_no f = counted f f.acks_from (f.nacks_from + 1)

abbrev pub one_more_yes : Front → Front
one_more_yes f = counted f (f.acks_from + 1) f.nacks_from

pub front_no : (p : Pending) (from : Address) → front_bytes (one_more_no (front_of p)) ≡ place_front (with_no p from)
unfolding front_of
front_no p from = rw (← length-append p.nacks_from (from.0 ∷ [])) (front_bytes_lem (with_no p from))

pub front_yes : (p : Pending) (from : Address) → front_bytes (one_more_yes (front_of p)) ≡ place_front (with_yes p from p.promised p.value)
unfolding front_of
front_yes p from = rw (← length-append p.acks_from (from.0 ∷ [])) (front_bytes_lem (with_yes p from p.promised p.value))

pub front_promise : (p : Pending) (from : Address) (b : Ballot) (m : Option Lent) (v : Value) → front_bytes (with_promise (front_of p) b m (length (bytes_of (given m v)))) ≡ place_front (with_yes p from b (given m v))
unfolding front_of
front_promise p from b m v =
    cc (front_bytes_lem (with_yes p from b (given m v)), marked-given m v, length-append p.acks_from (from.0 ∷ []))

pub front_second : (p : Pending) (l : List ℕ) → front_bytes (in_second (front_of p) (length l)) ≡ place_front (second_phase l p)
unfolding front_of
front_second p l = front_bytes_lem (second_phase l p)

pub front_again : (p : Pending) (b : Ballot) (l : List ℕ) → front_bytes (anew (front_of p) b (length l)) ≡ place_front (asked_again b l p)
unfolding front_of
front_again p b l = front_bytes_lem (asked_again b l p)

-- a list of nothing, and nothing promised
nobody : list_row [] ≡ replicate list_bytes 0
unfolding list_row padded entry_bytes
nobody = refl

nothing_promised : padded value_most [] ≡ replicate value_most 0
unfolding padded
nothing_promised = refl

module _ (p : Pending) (ok : Lawful p) where
  abbrev f : List ℕ
  f = place_front p

  abbrev w : List ℕ
  w = list_row p.waiting_for

  abbrev y : List ℕ
  y = list_row p.acks_from

  abbrev n : List ℕ
  n = list_row p.nacks_from

  abbrev k : List ℕ
  k = padded key_most (key_of p.req)

  abbrev v : List ℕ
  v = padded values_bytes (values_of p.req)

  abbrev promised_row : List ℕ
  promised_row = padded value_most (bytes_of p.value)

  size : Sized f w y n k v promised_row
  size = image_sized p ok

  pub no_added : (from : Address) → length p.nacks_from < list_most → sets (sets (place_image (Some p)) (no_at + 2 * length p.nacks_from) (to_le 2 from.0)) 0 (place_front (with_no p from)) ≡ place_image (Some (with_no p from))
  no_added from few =
      let at = no_at + 2 * length p.nacks_from in
      let g = place_front (with_no p from) in
      let n' = list_row (p.nacks_from ++ (from.0 ∷ [])) in
      let ln : length n' ≡ list_bytes = length_list (p.nacks_from ++ (from.0 ∷ [])) (simp length-append (omega arith)) in
      ap (λ (r : List ℕ). sets (sets r at (to_le 2 from.0)) 0 g) (image_rows p)
      ∙ ap (λ (r : List ℕ). sets r 0 g) (into_noes f w y n k v promised_row size (to_le 2 from.0) at (2 * length p.nacks_from) refl (omega (arith, length-to_le 2 from.0)))
      ∙ ap (λ (r : List ℕ). sets (full_rows f w y r k v promised_row) 0 g) (list_more p.nacks_from from.0 (2 * length p.nacks_from) refl few)
      ∙ into_front f w y n' k v promised_row
      (record { front = size.front; waited = size.waited; yeses = size.yeses; noes = ln; key = size.key; values = size.values; promised = size.promised })
      g (length-place_front (with_no p from))
      ∙ sym (image_rows (with_no p from))

  -- the list of who said yes, with one more
  yes_row : (from : Address) → length p.acks_from < list_most → sets (place_image (Some p)) (yes_at + 2 * length p.acks_from) (to_le 2 from.0) ≡ full_rows f w (list_row (p.acks_from ++ (from.0 ∷ []))) n k v promised_row
  yes_row from few =
      let at = yes_at + 2 * length p.acks_from in
      ap (λ (r : List ℕ). sets r at (to_le 2 from.0)) (image_rows p)
      ∙ into_yeses f w y n k v promised_row size (to_le 2 from.0) at (2 * length p.acks_from) refl (omega (arith, length-to_le 2 from.0))
      ∙ ap (λ (r : List ℕ). full_rows f w r n k v promised_row) (list_more p.acks_from from.0 (2 * length p.acks_from) refl few)

  yes_sized : (from : Address) → length p.acks_from < list_most → Sized f w (list_row (p.acks_from ++ (from.0 ∷ []))) n k v promised_row
  yes_sized from few =
      let ly : length (list_row (p.acks_from ++ (from.0 ∷ []))) ≡ list_bytes = length_list (p.acks_from ++ (from.0 ∷ [])) (simp length-append (omega arith)) in
      record { front = size.front; waited = size.waited; yeses = ly; noes = size.noes; key = size.key; values = size.values; promised = size.promised }

  pub yes_added : (from : Address) → length p.acks_from < list_most → sets (sets (place_image (Some p)) (yes_at + 2 * length p.acks_from) (to_le 2 from.0)) 0 (place_front (with_yes p from p.promised p.value)) ≡ place_image (Some (with_yes p from p.promised p.value))
  yes_added from few =
      let p' = with_yes p from p.promised p.value in
      ap (λ (r : List ℕ). sets r 0 (place_front p')) (yes_row from few)
      ∙ into_front f w (list_row p'.acks_from) n k v promised_row (yes_sized from few) (place_front p') (length-place_front p')
      ∙ sym (image_rows p')

  pub promise_added : (from : Address) (b : Ballot) (o : Option Value) → length p.acks_from < list_most → length (bytes_of o) ≤ value_most → sets (sets (put_mid promised_value_at 256 (sets (place_image (Some p)) (yes_at + 2 * length p.acks_from) (to_le 2 from.0)) (replicate 256 0)) promised_value_at (bytes_of o)) 0 (place_front (with_yes p from b o)) ≡ place_image (Some (with_yes p from b o))
  promise_added from b o few short =
      let p' = with_yes p from b o in
      let g = place_front p' in
      let y' = list_row p'.acks_from in
      let s = yes_sized from few in
      let zeros : List ℕ = replicate value_most 0 in
      let s₀ : Sized f w y' n k v zeros = record { front = s.front; waited = s.waited; yeses = s.yeses; noes = s.noes; key = s.key; values = s.values; promised = refl } in
      let s₁ : Sized f w y' n k v (padded value_most (bytes_of o)) = record { front = s.front; waited = s.waited; yeses = s.yeses; noes = s.noes; key = s.key; values = s.values; promised = length-padded value_most (bytes_of o) short } in
      ap (λ (r : List ℕ). sets (sets (put_mid promised_value_at 256 r zeros) promised_value_at (bytes_of o)) 0 g) (yes_row from few)
      ∙ ap (λ (r : List ℕ). sets (sets r promised_value_at (bytes_of o)) 0 g) (cleared_promised f w y' n k v promised_row s)
      ∙ ap (λ (r : List ℕ). sets r 0 g) (into_promised f w y' n k v zeros s₀ (bytes_of o) promised_value_at 0 refl ∙ ap (full_rows f w y' n k v) (sets_zeros value_most (bytes_of o) short))
      ∙ into_front f w y' n k v (padded value_most (bytes_of o)) s₁ g (length-place_front p')
      ∙ sym (image_rows p')

  -- the lists cleared, and a list written there
  module _ (l : List ℕ) (few : length l ≤ list_most) where
    abbrev w' : List ℕ
    w' = list_row l

    bytes : length (entry_bytes l) ≡ 2 * length l
    bytes = length_entries l

    abbrev z : List ℕ
    z = replicate list_bytes 0

    list_row_lem : sets z 0 (entry_bytes l) ≡ w'
    unfolding list_row
    list_row_lem = sets_zeros list_bytes (entry_bytes l) (omega (arith, bytes))

    list_sized : length w' ≡ list_bytes
    list_sized = length_list l few

    pub second_entered : sets (sets (put_mid waited_at 90 (place_image (Some p)) (replicate 90 0)) waited_at (entry_bytes l)) 0 (place_front (second_phase l p)) ≡ place_image (Some (second_phase l p))
    second_entered =
        let p' = second_phase l p in
        let g = place_front p' in
        let s₀ : Sized f z z z k v promised_row = record { front = size.front; waited = refl; yeses = refl; noes = refl; key = size.key; values = size.values; promised = size.promised } in
        let s₁ : Sized f w' z z k v promised_row = record { front = size.front; waited = list_sized; yeses = refl; noes = refl; key = size.key; values = size.values; promised = size.promised } in
        ap (λ (r : List ℕ). sets (sets (put_mid waited_at 90 r (replicate 90 0)) waited_at (entry_bytes l)) 0 g) (image_rows p)
        ∙ ap (λ (r : List ℕ). sets (sets r waited_at (entry_bytes l)) 0 g) (cleared_lists f w y n k v promised_row size)
        ∙ ap (λ (r : List ℕ). sets r 0 g) (into_waited f z z z k v promised_row s₀ (entry_bytes l) waited_at 0 refl (omega (arith, bytes)) ∙ ap (λ (r : List ℕ). full_rows f r z z k v promised_row) list_row_lem)
        ∙ into_front f w' z z k v promised_row s₁ g (length-place_front p')
        ∙ ap (λ (r : List ℕ). full_rows g w' r r k v promised_row) (sym nobody)
        ∙ sym (image_rows p')

    pub again_entered : (b : Ballot) → sets (sets (put_mid promised_value_at 256 (put_mid waited_at 90 (place_image (Some p)) (replicate 90 0)) (replicate 256 0)) waited_at (entry_bytes l)) 0 (place_front (asked_again b l p)) ≡ place_image (Some (asked_again b l p))
    again_entered b =
        let p' = asked_again b l p in
        let g = place_front p' in
        let zeros : List ℕ = replicate value_most 0 in
        let s₀ : Sized f z z z k v promised_row = record { front = size.front; waited = refl; yeses = refl; noes = refl; key = size.key; values = size.values; promised = size.promised } in
        let s₁ : Sized f z z z k v zeros = record { front = size.front; waited = refl; yeses = refl; noes = refl; key = size.key; values = size.values; promised = refl } in
        let s₂ : Sized f w' z z k v zeros = record { front = size.front; waited = list_sized; yeses = refl; noes = refl; key = size.key; values = size.values; promised = refl } in
        ap (λ (r : List ℕ). sets (sets (put_mid promised_value_at 256 (put_mid waited_at 90 r (replicate 90 0)) zeros) waited_at (entry_bytes l)) 0 g) (image_rows p)
        ∙ ap (λ (r : List ℕ). sets (sets (put_mid promised_value_at 256 r zeros) waited_at (entry_bytes l)) 0 g) (cleared_lists f w y n k v promised_row size)
        ∙ ap (λ (r : List ℕ). sets (sets r waited_at (entry_bytes l)) 0 g) (cleared_promised f z z z k v promised_row s₀)
        ∙ ap (λ (r : List ℕ). sets r 0 g) (into_waited f z z z k v zeros s₁ (entry_bytes l) waited_at 0 refl (omega (arith, bytes)) ∙ ap (λ (r : List ℕ). full_rows f r z z k v zeros) list_row_lem)
        ∙ into_front f w' z z k v zeros s₂ g (length-place_front p')
        ∙ ap (λ (r : List ℕ). full_rows g w' r r k v zeros) (sym nobody)
        ∙ ap (full_rows g w' (list_row []) (list_row []) k v) (sym nothing_promised)
        ∙ sym (image_rows p')

-- ---- a used place

pub used_length : (b : List ℕ) → Used b → length b ≡ place_bytes
used_length b u = ap length u.image ∙ length_place (Some (read_pending b)) u.lawful

-- and after stores into it
pub used_stored : (b n vs : List ℕ) (at : ℕ) → Used b → n ≡ sets b at vs → length n ≡ place_bytes
used_stored b n vs at u e = ap length e ∙ length-sets b at vs ∙ used_length b u

-- the front counts the answers, and there is room for one more
pub few_noes : (b : List ℕ) (f : Front) → f ≡ front_of (read_pending b) → length (read_pending b).nacks_from < list_most → f.nacks_from < list_most
unfolding front_of
few_noes b f e few = rw e few

pub few_yeses : (b : List ℕ) (f : Front) → f ≡ front_of (read_pending b) → length (read_pending b).acks_from < list_most → f.acks_from < list_most
unfolding front_of
few_yeses b f e few = rw e few

pub room_no : (b : List ℕ) (f : Front) → Used b → f ≡ front_of (read_pending b) → length (read_pending b).nacks_from < list_most → no_at + 2 * f.nacks_from + 2 ≤ length b
room_no b f u e few = omega (arith, used_length b u, few_noes b f e few)

pub room_yes : (b : List ℕ) (f : Front) → Used b → f ≡ front_of (read_pending b) → length (read_pending b).acks_from < list_most → yes_at + 2 * f.acks_from + 2 ≤ length b
room_yes b f u e few = omega (arith, used_length b u, few_yeses b f e few)

pub room_front : (b n vs : List ℕ) (at : ℕ) → Used b → n ≡ sets b at vs → waited_at ≤ length n
room_front b n vs at u e = omega (arith, used_stored b n vs at u e)

-- ---- a whole place, written on zeros

sized_padded : (f w y n k v p : List ℕ) → length f ≡ waited_at → length w ≤ list_bytes → length y ≤ list_bytes → length n ≤ list_bytes → length k ≤ key_most → length v ≤ values_bytes → length p ≤ value_most → Sized f (padded list_bytes w) (padded list_bytes y) (padded list_bytes n) (padded key_most k) (padded values_bytes v) (padded value_most p)
sized_padded f w y n k v p lf lw ly ln lk lv lp = record {
  front = lf;
  waited = length-padded list_bytes w lw;
  yeses = length-padded list_bytes y ly;
  noes = length-padded list_bytes n ln;
  key = length-padded key_most k lk;
  values = length-padded values_bytes v lv;
  promised = length-padded value_most p lp;
}

pub length-place_rows : (f w y n k v p : List ℕ) → length f ≡ waited_at → length w ≤ list_bytes → length y ≤ list_bytes → length n ≤ list_bytes → length k ≤ key_most → length v ≤ values_bytes → length p ≤ value_most → length (place_rows f w y n k v p) ≡ place_bytes
length-place_rows f w y n k v p lf lw ly ln lk lv lp =
    ap length (rows_padded f w y n k v p) ∙ length_rows f _ _ _ _ _ _ (sized_padded f w y n k v p lf lw ly ln lk lv lp)

-- a value within the limit fits its row
pub short_value : (mark : Option Lent) (v : Value) → option_fits (given mark v) ≡ true → length (bytes_of (given mark v)) ≤ value_most
short_value None v h = omega arith
short_value (Some mark) v h = leb-true (length v) 256 h

-- ---- what is made of a place is as long as it

length-full : (f w y n k v p : List ℕ) → Sized f w y n k v p → length (full_rows f w y n k v p) ≡ place_bytes
unfolding full_rows
length-full f w y n k v p s = simp length-append (omega (arith, s.front, s.waited, s.yeses, s.noes, s.key, s.values, s.promised))

pub length-rows : (f : Front) (r : Rows) → Fit r → length (rows_image f r) ≡ place_bytes
length-rows f r fit =
    let values : length (r.first.now ++ r.second.now) ≤ values_bytes = simp length-append fit.values in
    ap length (rows_padded (front_bytes f) r.waited.now r.yes.now r.no.now r.key.now (r.first.now ++ r.second.now) r.promised.now)
    ∙ length-full _ _ _ _ _ _ _ (sized_padded _ _ _ _ _ _ _ (length-front_bytes f) fit.waited fit.yes fit.no fit.key values fit.promised)

-- by its rows, of which the request's own are those of a place that is used
length-used : (b : List ℕ) → Used b → (q : Pending) → q.req ≡ (read_pending b).req → length q.waiting_for ≤ list_most → length q.acks_from ≤ list_most → length q.nacks_from ≤ list_most → length (bytes_of q.value) ≤ value_most → length (place_image (Some q)) ≡ place_bytes
length-used b u q same lw ly ln lp =
    let ok = u.lawful in
    let key : length (key_of q.req) ≤ key_most = rw same ok.key.short in
    let values : length (values_of q.req) ≤ values_bytes = rw same (simp length-append (omega (arith, ok.first.short, ok.second.short))) in
    ap length (image_place_rows q ∙ rows_padded _ _ _ _ _ _ _)
    ∙ length-full _ _ _ _ _ _ _ (sized_padded _ _ _ _ _ _ _ (length-place_front q) (omega (arith, length_entries q.waiting_for)) (omega (arith, length_entries q.acks_from)) (omega (arith, length_entries q.nacks_from)) key values lp)

module _ (b : List ℕ) (u : Used b) where
  abbrev was : Pending
  was = read_pending b

  pub length-no : (from : Address) → length was.nacks_from < list_most → length (place_image (Some (with_no was from))) ≡ place_bytes
  length-no from few = length-used b u (with_no was from) refl u.lawful.waited.short u.lawful.yeses.short (simp length-append (omega arith)) u.lawful.promised.short

  pub length-yes : (from : Address) (ballot : Ballot) (o : Option Value) → length was.acks_from < list_most → length (bytes_of o) ≤ value_most → length (place_image (Some (with_yes was from ballot o))) ≡ place_bytes
  length-yes from ballot o few short = length-used b u (with_yes was from ballot o) refl u.lawful.waited.short (simp length-append (omega arith)) u.lawful.noes.short short

  pub length-second : (l : List ℕ) → length l ≤ list_most → length (place_image (Some (second_phase l was))) ≡ place_bytes
  length-second l few = length-used b u (second_phase l was) refl few (omega arith) (omega arith) u.lawful.promised.short

  pub length-again : (ballot : Ballot) (l : List ℕ) → length l ≤ list_most → length (place_image (Some (asked_again ballot l was))) ≡ place_bytes
  length-again ballot l few = length-used b u (asked_again ballot l was) refl few (omega arith) (omega arith) (omega arith)

module _ (f w y n k v p : List ℕ) (lf : length f ≡ waited_at) (lw : length w ≤ list_bytes) (ly : length y ≤ list_bytes) (ln : length n ≤ list_bytes) (lk : length k ≤ key_most) (lv : length v ≤ values_bytes) (lp : length p ≤ value_most) where
  abbrev all_sized : Sized f (padded list_bytes w) (padded list_bytes y) (padded list_bytes n) (padded key_most k) (padded values_bytes v) (padded value_most p)
  all_sized = sized_padded f w y n k v p lf lw ly ln lk lv lp

  more_waited : (vs : List ℕ) (at : ℕ) → at ≡ waited_at + length w → length w + length vs ≤ list_bytes → sets (place_rows f w y n k v p) at vs ≡ place_rows f (w ++ vs) y n k v p
  more_waited vs at e room =
      ap (λ (r : List ℕ). sets r at vs) (rows_padded f w y n k v p)
      ∙ into_waited f _ _ _ _ _ _ all_sized vs at (length w) e room
      ∙ ap (λ (r : List ℕ). full_rows f r (padded list_bytes y) (padded list_bytes n) (padded key_most k) (padded values_bytes v) (padded value_most p)) (padded_more list_bytes w vs (length w) refl room)
      ∙ sym (rows_padded f (w ++ vs) y n k v p)

  more_yeses : (vs : List ℕ) (at : ℕ) → at ≡ yes_at + length y → length y + length vs ≤ list_bytes → sets (place_rows f w y n k v p) at vs ≡ place_rows f w (y ++ vs) n k v p
  more_yeses vs at e room =
      ap (λ (r : List ℕ). sets r at vs) (rows_padded f w y n k v p)
      ∙ into_yeses f _ _ _ _ _ _ all_sized vs at (length y) e room
      ∙ ap (λ (r : List ℕ). full_rows f (padded list_bytes w) r (padded list_bytes n) (padded key_most k) (padded values_bytes v) (padded value_most p)) (padded_more list_bytes y vs (length y) refl room)
      ∙ sym (rows_padded f w (y ++ vs) n k v p)

  more_noes : (vs : List ℕ) (at : ℕ) → at ≡ no_at + length n → length n + length vs ≤ list_bytes → sets (place_rows f w y n k v p) at vs ≡ place_rows f w y (n ++ vs) k v p
  more_noes vs at e room =
      ap (λ (r : List ℕ). sets r at vs) (rows_padded f w y n k v p)
      ∙ into_noes f _ _ _ _ _ _ all_sized vs at (length n) e room
      ∙ ap (λ (r : List ℕ). full_rows f (padded list_bytes w) (padded list_bytes y) r (padded key_most k) (padded values_bytes v) (padded value_most p)) (padded_more list_bytes n vs (length n) refl room)
      ∙ sym (rows_padded f w y (n ++ vs) k v p)

  more_key : (vs : List ℕ) (at : ℕ) → at ≡ key_start + length k → length k + length vs ≤ key_most → sets (place_rows f w y n k v p) at vs ≡ place_rows f w y n (k ++ vs) v p
  more_key vs at e room =
      ap (λ (r : List ℕ). sets r at vs) (rows_padded f w y n k v p)
      ∙ into_key f _ _ _ _ _ _ all_sized vs at (length k) e room
      ∙ ap (λ (r : List ℕ). full_rows f (padded list_bytes w) (padded list_bytes y) (padded list_bytes n) r (padded values_bytes v) (padded value_most p)) (padded_more key_most k vs (length k) refl room)
      ∙ sym (rows_padded f w y n (k ++ vs) v p)

  more_values : (vs : List ℕ) (at : ℕ) → at ≡ values_at + length v → length v + length vs ≤ values_bytes → sets (place_rows f w y n k v p) at vs ≡ place_rows f w y n k (v ++ vs) p
  more_values vs at e room =
      ap (λ (r : List ℕ). sets r at vs) (rows_padded f w y n k v p)
      ∙ into_values f _ _ _ _ _ _ all_sized vs at (length v) e room
      ∙ ap (λ (r : List ℕ). full_rows f (padded list_bytes w) (padded list_bytes y) (padded list_bytes n) (padded key_most k) r (padded value_most p)) (padded_more values_bytes v vs (length v) refl room)
      ∙ sym (rows_padded f w y n k (v ++ vs) p)

  more_promised : (vs : List ℕ) (at : ℕ) → at ≡ promised_value_at + length p → length p + length vs ≤ value_most → sets (place_rows f w y n k v p) at vs ≡ place_rows f w y n k v (p ++ vs)
  more_promised vs at e room =
      ap (λ (r : List ℕ). sets r at vs) (rows_padded f w y n k v p)
      ∙ into_promised f _ _ _ _ _ _ all_sized vs at (length p) e
      ∙ ap (full_rows f (padded list_bytes w) (padded list_bytes y) (padded list_bytes n) (padded key_most k) (padded values_bytes v)) (padded_more value_most p vs (length p) refl room)
      ∙ sym (rows_padded f w y n k v (p ++ vs))

  other_front : (g : List ℕ) → length g ≡ waited_at → sets (place_rows f w y n k v p) 0 g ≡ place_rows g w y n k v p
  other_front g e =
      ap (λ (r : List ℕ). sets r 0 g) (rows_padded f w y n k v p) ∙ into_front f _ _ _ _ _ _ all_sized g e ∙ sym (rows_padded g w y n k v p)

-- a place of zeros
blank : replicate place_bytes 0 ≡ place_rows (replicate waited_at 0) [] [] [] [] [] []
unfolding place_rows padded
blank = refl

module _ (w y n : List ℕ) (lw : length w ≤ list_bytes) (ly : length y ≤ list_bytes) (ln : length n ≤ list_bytes) where
  pub lists_written : sets (sets (sets (replicate place_bytes 0) waited_at w) yes_at y) no_at n ≡ place_rows (replicate waited_at 0) w y n [] [] []
  lists_written =
      let z : List ℕ = replicate waited_at 0 in
      ap (λ (r : List ℕ). sets (sets (sets r waited_at w) yes_at y) no_at n) blank
      ∙ ap (λ (r : List ℕ). sets (sets r yes_at y) no_at n) (more_waited z [] [] [] [] [] [] refl (omega arith) (omega arith) (omega arith) (omega arith) (omega arith) (omega arith) w waited_at refl (omega arith))
      ∙ ap (λ (r : List ℕ). sets r no_at n) (more_yeses z w [] [] [] [] [] refl lw (omega arith) (omega arith) (omega arith) (omega arith) (omega arith) y yes_at refl (omega arith))
      ∙ more_noes z w y [] [] [] [] refl lw ly (omega arith) (omega arith) (omega arith) (omega arith) n no_at refl (omega arith)

  pub place_written : (g k v₁ v₂ p : List ℕ) → length g ≡ waited_at → length k ≤ key_most → length v₁ + length v₂ ≤ values_bytes → length p ≤ value_most → sets (sets (sets (sets (sets (place_rows (replicate waited_at 0) w y n [] [] []) key_start k) values_at v₁) (values_at + length v₁) v₂) promised_value_at p) 0 g ≡ place_rows g w y n k (v₁ ++ v₂) p
  place_written g k v₁ v₂ p lg lk lv lp =
      let z : List ℕ = replicate waited_at 0 in
      let lvs : length (v₁ ++ v₂) ≤ values_bytes = simp length-append lv in
      ap (λ (r : List ℕ). sets (sets (sets (sets r values_at v₁) (values_at + length v₁) v₂) promised_value_at p) 0 g) (more_key z w y n [] [] [] refl lw ly ln (omega arith) (omega arith) (omega arith) k key_start refl (omega arith))
      ∙ ap (λ (r : List ℕ). sets (sets (sets r (values_at + length v₁) v₂) promised_value_at p) 0 g) (more_values z w y n k [] [] refl lw ly ln lk (omega arith) (omega arith) v₁ values_at refl (omega arith))
      ∙ ap (λ (r : List ℕ). sets (sets r promised_value_at p) 0 g) (more_values z w y n k v₁ [] refl lw ly ln lk (omega arith) (omega arith) v₂ (values_at + length v₁) refl lv)
      ∙ ap (λ (r : List ℕ). sets r 0 g) (more_promised z w y n k (v₁ ++ v₂) [] refl lw ly ln lk lvs (omega arith) p promised_value_at refl (omega arith))
      ∙ other_front z w y n k (v₁ ++ v₂) p refl lw ly ln lk lvs lp g lg
