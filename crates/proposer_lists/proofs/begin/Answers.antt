-- `proposer_lists::begin` meets its contract: of zeros, with the timeout and both lists stored, the start's image is made.
-- Assumes nothing.
use mathlib.Core.Path.{◌≡◌, ap}
use mathlib.Core.Bool.{true}
use mathlib.Core.List.{List, []}
use Prim.Native.Nat.{ℕ, ◌+◌, ◌≤◌, ◌<◌}
use native.Mathlib.Omega.{arith}
use lib.ListN.{length, set, replicate, length-set, length-replicate}
use lib.Seq.{sets, length-sets}
use Rattle.proposer_area.specs.Turns.{sized_of}
use Rattle.leaf_fields.specs.Fields.{to_le}
use Rattle.proposer_place.specs.Area.{timeout_at, accept_count_at, propose_count_at, accept_list_at, propose_list_at, header_bytes, list_bytes, list_row, sized}
use Rattle.proposer_lists.specs.ListLaws.{list_short, started}
use Rattle.proposer_lists.proofs.begin.Goals as goal

timeout_room : (a a₀ : List ℕ) (n : ℕ) → sized a n ≡ true → a₀ ≡ replicate (length a) 0 → timeout_at + 8 ≤ length a₀
timeout_room a a₀ n h e = omega (arith, (sized_of a n h).bytes, ap length e, length-replicate {A = ℕ} (length a) 0)

module _ (a : List ℕ) (n t : ℕ) (l a₀ a₁ : List ℕ) (h : sized a n ≡ true) (e₀ : a₀ ≡ replicate (length a) 0) (e₁ : a₁ ≡ sets a₀ timeout_at (to_le 8 t)) where
  timed_long : header_bytes ≤ length a₁
  timed_long = omega (arith, (sized_of a n h).bytes, ap length e₀, length-replicate {A = ℕ} (length a) 0, ap length e₁, length-sets a₀ timeout_at (to_le 8 t))

  accepting_long : (a₂ : List ℕ) → a₂ ≡ set (sets a₁ accept_list_at (list_row l)) accept_count_at (length l) → header_bytes ≤ length a₂
  accepting_long a₂ e₂ = omega (arith, timed_long, ap length e₂, length-set (sets a₁ accept_list_at (list_row l)) accept_count_at (length l), length-sets a₁ accept_list_at (list_row l))

accept_row_room : (a : List ℕ) (n t : ℕ) (a₀ a₁ : List ℕ) → sized a n ≡ true → a₀ ≡ replicate (length a) 0 → a₁ ≡ sets a₀ timeout_at (to_le 8 t) → accept_list_at + list_bytes ≤ length a₁
accept_row_room a n t a₀ a₁ h e₀ e₁ = omega (arith, timed_long a n t [] a₀ a₁ h e₀ e₁)

accept_count_room : (a : List ℕ) (n t : ℕ) (a₀ a₁ : List ℕ) → sized a n ≡ true → a₀ ≡ replicate (length a) 0 → a₁ ≡ sets a₀ timeout_at (to_le 8 t) → accept_count_at < length a₁
accept_count_room a n t a₀ a₁ h e₀ e₁ = omega (arith, timed_long a n t [] a₀ a₁ h e₀ e₁)

propose_row_room : (a : List ℕ) (n t : ℕ) (l a₀ a₁ a₂ : List ℕ) → sized a n ≡ true → a₀ ≡ replicate (length a) 0 → a₁ ≡ sets a₀ timeout_at (to_le 8 t) → a₂ ≡ set (sets a₁ accept_list_at (list_row l)) accept_count_at (length l) → propose_list_at + list_bytes ≤ length a₂
propose_row_room a n t l a₀ a₁ a₂ h e₀ e₁ e₂ = omega (arith, accepting_long a n t l a₀ a₁ h e₀ e₁ a₂ e₂)

propose_count_room : (a : List ℕ) (n t : ℕ) (l a₀ a₁ a₂ : List ℕ) → sized a n ≡ true → a₀ ≡ replicate (length a) 0 → a₁ ≡ sets a₀ timeout_at (to_le 8 t) → a₂ ≡ set (sets a₁ accept_list_at (list_row l)) accept_count_at (length l) → propose_count_at < length a₂
propose_count_room a n t l a₀ a₁ a₂ h e₀ e₁ e₂ = omega (arith, accepting_long a n t l a₀ a₁ h e₀ e₁ a₂ e₂)

pub write-requires : goal.write-requires
write-requires c = search timeout_room

pub put_list-requires : goal.put_list-requires
put_list-requires c =
    let sizes = c.requires.0 in
    (accept_row_room _ _ _ _ _ sizes c.clear.ensures c.write.ensures, accept_count_room _ _ _ _ _ sizes c.clear.ensures c.write.ensures, search list_short)

pub put_list-requires-2 : goal.put_list-requires-2
put_list-requires-2 c =
    let sizes = c.requires.0 in
    (propose_row_room _ _ _ _ _ _ _ sizes c.clear.ensures c.write.ensures c.put_list.ensures, propose_count_room _ _ _ _ _ _ _ sizes c.clear.ensures c.write.ensures c.put_list.ensures, search list_short)

pub returns : goal.returns
returns c = search started depth 9
