-- `script_run::show::put_table` meets its contract: the lines of the blocks that are left, put behind, give the whole text.
-- Assumes nothing.
use Rattle.std.proofs.Common.{◌≡◌, refl, ◌∙◌, ap, List, [], ◌∷◌, ◌++◌, ℕ, zero, suc, ◌+◌, ◌-◌, ◌≤◌, ◌<◌, min, length, take, drop, arith, length-append, add-one}
use Rattle.std.proofs.lemmas.Bool.{ne_eqb}
use Rattle.std.proofs.lemmas.List.{append-nil, take_all, drop_all}
use Rattle.std.proofs.Math.Nat.{sub-zero}
use Rattle.std.proofs.Math.Seq.{take-append_seam, drop-append_seam}
use Rattle.script_words.specs.LentLaws.{Left, all_left, less_left, all_put}
use Rattle.script_answer.specs.Lines.{block_line}
use Rattle.script_run.specs.Obeyed.{block_lines, table_text}
use Rattle.script_run.proofs.show.put_table.Goals as goal

-- a block, and what is behind it
front : (b l : List ℕ) → length b ≡ min 512 (length (b ++ l)) → take 512 (b ++ l) ≡ b
front b [] h = rw (append-nil b) (take_all 512 b (omega (arith, h)))
front b (x ∷ l) h =
    let n : length b ≡ 512 = omega (arith, h, length-append b (x ∷ l)) in
    rw (← n) (take-append_seam b (x ∷ l))

behind : (b l : List ℕ) → length b ≡ min 512 (length (b ++ l)) → drop 512 (b ++ l) ≡ l
behind b [] h = rw (append-nil b) (drop_all 512 b (omega (arith, h)))
behind b (x ∷ l) h =
    let n : length b ≡ 512 = omega (arith, h, length-append b (x ∷ l)) in
    rw (← n) (drop-append_seam b (x ∷ l))

-- one block's line, and the lines of those behind it
unroll : (m i : ℕ) (t : List ℕ) → (length t ≡ 0 → ⊥) → block_lines (suc m) i t ≡ block_line i (take 512 t) ++ block_lines m (suc i) (drop 512 t)
unfolding block_lines
unroll m i t some = rw (ne_eqb (length t) 0 some)

turn : (all : ℕ) (b rest rest' : List ℕ) (i j : ℕ) → rest ≡ b ++ rest' → length b ≡ min 512 (length rest) → 0 < length rest → i + length rest ≤ all → j ≡ i + 1 → block_lines (all - i) i rest ≡ block_line i b ++ block_lines (all - j) j rest'
turn all b rest rest' i j cut size some room ej =
    let k : all - i ≡ suc (all - j) = omega arith in
    let s : length b ≡ min 512 (length (b ++ rest')) = rw cut at size in
    rw (k, cut) (unroll (all - j) i (b ++ rest') (λ z. absurd (omega (arith, z, some, ap length cut))) ∙ rw (front b rest' s, behind b rest' s, ej, add-one))

end : (m i : ℕ) (rest : List ℕ) → length rest ≡ 0 → block_lines m i rest ≡ []
unfolding block_lines
end zero i rest h = refl
end (suc m) i [] h = refl
end (suc m) i (x ∷ l) h = absurd (omega arith)

begins : (out table : List ℕ) (at : ℕ) → Left out at (table_text table) out at (block_lines (length table - 0) 0 table)
unfolding table_text
begins out table at = rw (sub-zero (length table)) all_left

pub loop-i-init : goal.loop-i-init
loop-i-init c =
    let d = c.into_iter-i-iterator.ensures.into_iter_gives in
    let t = c.enumerate-i-items.ensures in
    let r = c.chunks.ensures in
    record {
      size = rw (d, t.source) r.size;
      enough = rw (d, t.source, t.count, r.rest) (omega arith);
      left = rw (d, t.source, t.count, r.rest) (begins c.args.out.now c.args.table.now c.args.at);
    }

pub loop-i-preserved : goal.loop-i-preserved
loop-i-preserved c =
    let cut = c.in-Some.ensures.steps in
    let was = c.loop-i.invariant in
    record {
      size = cut.0.0 ∙ was.size;
      enough = omega (arith, was.enough, cut.2, ap length cut.0.1.0, length-append c.in-Some.block.now c.next.new.self.iter.rest.now, cut.0.1.1, cut.0.1.2);
      left = less_left was.left (rw cut.1 at c.put_block_at-end.ensures) (turn _ _ _ _ _ _ cut.0.1.0 (cut.0.1.1 ∙ ap (λ (k : ℕ). min k (length c.loop-i.i-iterator.iter.rest.now)) was.size) cut.0.1.2 was.enough cut.2);
    }

pub returns : goal.returns
returns c =
    let last = c.in-None.ensures.steps in
    all_put c.loop-i.invariant.left (end _ _ _ last.0.1.0) c.min.ensures
