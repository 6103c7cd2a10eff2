-- `proposer_lists::put_list` meets its contract: the lent part, written, is the row in the header.
-- Assumes nothing.
use mathlib.Core.Path.{◌≡◌, sym, ap, ◌∙◌}
use mathlib.Core.List.{List, ◌++◌, append_assoc}
use Prim.Native.Nat.{ℕ, ◌+◌, ◌-◌, ◌≤◌}
use native.Mathlib.Omega.{arith}
use borrow.Rule.Slice.PartMut.{put_mid}
use lib.ListN.{length, take, drop, set}
use lib.Seq.{sets, sets-eq, drop-drop}
use Rattle.leaf_fields.specs.Laws.{length-part}
use Rattle.messages.specs.Limits.{list_most}
use Rattle.proposer_place.specs.Area.{list_bytes, list_row}
use Rattle.proposer_place.specs.AreaRows.{length_list}
use borrow.Author.Rules.{rules}
use Rattle.proposer_lists.proofs.put_list.Goals as goal

lent_bytes : (a : List ℕ) (row : ℕ) → row + list_bytes ≤ length a → length (take (row + 30 - row) (drop row a)) ≡ list_bytes
lent_bytes a row room =
    let e : row + 30 - row ≡ list_bytes = omega arith in
    ap (λ (k : ℕ). length (take k (drop row a))) e ∙ length-part a row list_bytes room

put_row : (a list ys : List ℕ) (row : ℕ) → row + list_bytes ≤ length a → length list ≤ list_most → ys ≡ list_row list → put_mid row (row + 30 - row) a ys ≡ sets a row (list_row list)
put_row a list ys row room short e =
    let long : length ys ≡ 30 = ap length e ∙ length_list list short in
    let lent : row + 30 - row ≡ length ys = omega (arith, long) in
    ap (λ (k : ℕ). put_mid row k a ys) lent
    ∙ ap (λ (r : List ℕ). take row a ++ (ys ++ r)) (drop-drop (length ys) row a)
    ∙ sym (append_assoc (take row a) ys (drop (row + length ys) a))
    ∙ sym (sets-eq ys a row (omega (arith, long)))
    ∙ ap (sets a row) e

list_put : (a list ys : List ℕ) (row count : ℕ) → row + list_bytes ≤ length a → length list ≤ list_most → ys ≡ list_row list → set (put_mid row (row + 30 - row) a ys) count (length list) ≡ set (sets a row (list_row list)) count (length list)
list_put a list ys row count room short e = ap (λ (r : List ℕ). set r count (length list)) (put_row a list ys row room short e)

pub write_row-requires : goal.write_row-requires
write_row-requires c = (search lent_bytes, search rules)

pub returns : goal.returns
returns c = search list_put
