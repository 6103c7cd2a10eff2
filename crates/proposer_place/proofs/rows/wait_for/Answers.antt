-- `proposer_place::rows::wait_for` meets its contract: the bytes that are stored are those of the entries.
-- Assumes nothing.
use Rattle.std.proofs.Common.{◌≡◌, List, [], ℕ, ◌+◌, ◌*◌, ◌≤◌, ◌<◌, length, get_or, sym, ap, subst, ◌∙◌, arith}
use Rattle.std.specs.List.{flat_map}
use Rattle.std.proofs.lemmas.List.Edits.{sets}
use Rattle.leaf_fields.specs.Fields.{part, Bytes}
use Rattle.leaf_fields.specs.Laws.{bytes_part, part_same}
use Rattle.messages.specs.Answers.{entries, entry_bytes}
use Rattle.proposer_place.specs.Rows.{entries_flat, entries_whole, numbers}
use Rattle.proposer_place.proofs.rows.wait_for.Goals as goal

stored : (es : List (List ℕ)) → ((i : ℕ) → i < length es → length (get_or es i []) ≡ 2) → (b l n : List ℕ) → 52 + 2 * length es ≤ length b → l ≡ flat_map (λ e. e) es → length l ≡ length es * 2 → n ≡ sets b 52 l → Bytes n → n ≡ sets b 52 (entry_bytes (numbers es))
stored es pairs b l n room el many e known =
    let told : entries l 0 (length es) ≡ numbers es = ap (λ (x : List ℕ). entries x 0 (length es)) el ∙ entries_flat es pairs in
    let bytes : Bytes l = subst (λ (r : List ℕ). Bytes r) (ap (λ (r : List ℕ). part r 52 (length l)) e ∙ part_same b 52 l (omega arith)) (bytes_part n 52 (length l) known) in
    e ∙ ap (sets b 52) (sym (entries_whole l (length es) (omega arith) bytes) ∙ ap entry_bytes told)

bytes_of : (b : List ℕ) → ((i : ℕ) → get_or b i 0 < 256) → Bytes b
unfolding Bytes
bytes_of b h = h

pub returns : goal.returns
returns c =
    stored c.args.list.now c.told-list _ _ _ c.requires c.as_flattened.ensures.value c.as_flattened.ensures.len c.copy.ensures (bytes_of _ (λ i. (c.type_inv.b i).fits))
