-- `proposer_clock::put_row` meets its contract: the client and, behind it, the id are the row.
-- Assumes nothing.
use mathlib.Core.Path.{◌≡◌, sym, ap, ◌∙◌}
use mathlib.Core.List.{List, [], ◌∷◌, ◌++◌, append-nil}
use Prim.Native.Nat.{ℕ, ◌+◌, ◌*◌}
use native.Mathlib.Omega.{arith}
use lib.Seq.{sets}
use Rattle.leaf_fields.specs.Stores.{sets_join}
use Rattle.leaf_fields.specs.Fields.{to_le}
use Rattle.leaf_fields.specs.Laws.{length-to_le}
use Rattle.messages.specs.declared.Address.{Address}
use Rattle.messages.specs.Answers.{rows_at, row_bytes, rows_bytes}
use Rattle.proposer_clock.proofs.put_row.Goals as goal

row_stored : (w w₁ w₂ : List ℕ) (k id : ℕ) (client : Address) → w₁ ≡ sets w (350 + 10 * k) (to_le 2 client.0) → w₂ ≡ sets w₁ (350 + 10 * k + 2) (to_le 8 id) → w₂ ≡ sets w (rows_at + row_bytes * k) (rows_bytes (record { client = client; id = id } ∷ []))
unfolding rows_bytes
row_stored w w₁ w₂ k id client e₁ e₂ =
    e₂ ∙ ap (λ (r : List ℕ). sets r (350 + 10 * k + 2) (to_le 8 id)) e₁
    ∙ sets_join w (to_le 2 client.0) (to_le 8 id) (350 + 10 * k) (350 + 10 * k + 2) (omega (arith, length-to_le 2 client.0))
    ∙ ap (λ (r : List ℕ). sets w (350 + 10 * k) (to_le 2 client.0 ++ r)) (sym (append-nil (to_le 8 id)))

pub returns : goal.returns
returns c = search row_stored
