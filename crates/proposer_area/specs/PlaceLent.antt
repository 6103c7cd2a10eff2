-- Place i of an area, lent on as its array: what it is, and what becomes of the area.
-- Assumes nothing.
use Rattle.std.specs.Prelude.{◌≡◌, List, ◌++◌, ℕ, ◌+◌, ◌*◌, ◌≤◌, length, take, drop}
use Rattle.std.proofs.Common.{sym, ap, subst, ◌∙◌, append_assoc, arith, drop-drop, length-take, length-drop}
use Rattle.std.specs.Prelude.{None}
use Rattle.std.specs.Array.{IsFirstChunk}
use Rattle.std.proofs.lemmas.List.Edits.{sets, sets-eq}
use Rattle.proposer_place.specs.Area.{place_bytes, place_image}
use Rattle.proposer_place.specs.AreaLaws.{length_place}
use Rattle.proposer_place.specs.Front.{Used}
use Rattle.proposer_place.specs.PlaceRows.{used_length}
use Rattle.proposer_area.specs.Places.{place_at, place_in}

-- a place that holds what a place holds is within the area
room_of : (a : List ℕ) (i : ℕ) → length (place_in a i) ≡ 976 → place_at i + place_bytes ≤ length a
room_of a i e = omega (arith, e, length-take 976 (drop (80 + 976 * i) a), length-drop (80 + 976 * i) a)

pub used_room : (a : List ℕ) (i : ℕ) → Used (place_in a i) → place_at i + place_bytes ≤ length a
used_room a i u = room_of a i (used_length (place_in a i) u)

pub free_room : (a : List ℕ) (i : ℕ) → place_in a i ≡ place_image None → place_at i + place_bytes ≤ length a
free_room a i e = room_of a i (ap length e ∙ length_place None tt)

-- how place i goes out from behind what stands before it, and how it comes back
module _ (a f r b : List ℕ) (i s : ℕ) (at : s ≡ place_at i) (before : f ≡ take s a) (behind : r ≡ drop s a) (first : IsFirstChunk r b 976) where
  pub lent_is : b ≡ place_in a i
  lent_is = first.same ∙ ap (take 976) behind ∙ ap (λ (k : ℕ). take 976 (drop k a)) at

  -- what holds of place i holds of what is lent
  pub lent_has : (P : List ℕ → Type 0) → P (place_in a i) → P b
  lent_has P h = subst P (sym lent_is) h

  -- what comes back replaces place i
  pub put_place : (n : List ℕ) → place_at i + place_bytes ≤ length a → length n ≡ 976 → f ++ (n ++ drop 976 r) ≡ sets a (place_at i) n
  put_place n room e =
      rw (before, behind, at)
      (ap (λ (k : ℕ). take (80 + 976 * i) a ++ (n ++ drop k (drop (80 + 976 * i) a))) (sym e)
      ∙ ap (λ (q : List ℕ). take (80 + 976 * i) a ++ (n ++ q)) (drop-drop (length n) (80 + 976 * i) a)
      ∙ sym (append_assoc (take (80 + 976 * i) a) n (drop (80 + 976 * i + length n) a))
      ∙ sym (sets-eq n a (80 + 976 * i) (omega arith)))

  -- what is made of what is lent is made of place i
  pub place_worked : (work : List ℕ → List ℕ) (n : List ℕ) → place_at i + place_bytes ≤ length a → length (work (place_in a i)) ≡ 976 → n ≡ work b → f ++ (n ++ drop 976 r) ≡ sets a (place_at i) (work (place_in a i))
  place_worked work n room long told =
      let e : n ≡ work (place_in a i) = told ∙ ap work lent_is in
      put_place n room (ap length e ∙ long) ∙ ap (sets a (place_at i)) e
