-- `proposer_image::Read::same_again` meets its contract: the rows that the struct tells are written as the image of the request.
-- Assumes nothing.
use mathlib.Core.Path.{◌≡◌, ap, ◌∙◌}
use mathlib.Core.Bool.{Bool, true}
use mathlib.Core.List.{List, ◌++◌}
use Rattle.std.specs.Prelude.{Some}
use Prim.Native.Nat.{ℕ, ◌+◌, ◌*◌, ◌≤◌, ◌<◌}
use lib.ListN.{length, length-take}
use Rattle.leaf_fields.specs.Fields.{span, byte, same, Bytes}
use Rattle.proposer_place.specs.declared.front.Front.{Front}
use Rattle.proposer_place.specs.Area.{read_pending, sizes_fit, place_image}
use Rattle.proposer_image.specs.Good.{TakenFrom}
use Rattle.proposer_image.specs.Taken.{short_taken, ShortFront}
use Rattle.proposer_place.specs.Front.{front_bytes, place_rows}
use Rattle.proposer_image.specs.Again.{written_again}
use borrow.Author.Rules.{rules}
use native.Mathlib.Omega.{arith}
use Rattle.proposer_image.proofs.Read.same_again.Goals as goal

-- each row has its room
short_part : (b : List ℕ) (at n most : ℕ) → n ≤ most → length (span b at (at + n)) ≤ most
short_part b at n most h = simp length-take (omega arith)

module _ (b : List ℕ) (f : Front) (taken : TakenFrom b f) (fit : sizes_fit (read_pending b) ≡ true) where
  short : ShortFront f
  short = short_taken b f taken fit

  waited_short : length (span b 52 (52 + 2 * f.waiting_for)) ≤ 30
  waited_short = let s = short in short_part b 52 (2 * f.waiting_for) 30 (omega arith)

  yes_short : length (span b 82 (82 + 2 * f.acks_from)) ≤ 30
  yes_short = let s = short in short_part b 82 (2 * f.acks_from) 30 (omega arith)

  no_short : length (span b 112 (112 + 2 * f.nacks_from)) ≤ 30
  no_short = let s = short in short_part b 112 (2 * f.nacks_from) 30 (omega arith)

  key_short : length (span b 144 (144 + f.key_len)) ≤ 64
  key_short = short_part b 144 f.key_len 64 short.key

  values_short : length (span b 208 (208 + f.first_len)) + length (span b (208 + f.first_len) (208 + f.first_len + f.second_len)) ≤ 512
  values_short =
      let first = short_part b 208 f.first_len 256 short.first in
      let second = short_part b (208 + f.first_len) f.second_len 256 short.second in
      omega arith

  promised_short : length (span b 720 (720 + f.value_len)) ≤ 256
  promised_short = short_part b 720 f.value_len 256 taken.promised

again : (b n : List ℕ) (f : Front) (r : Bool) → Bytes b → TakenFrom b f → sizes_fit (read_pending b) ≡ true → n ≡ place_rows (front_bytes f) (span b 52 (52 + 2 * f.waiting_for)) (span b 82 (82 + 2 * f.acks_from)) (span b 112 (112 + 2 * f.nacks_from)) (span b 144 (144 + f.key_len)) ((span b 208 (208 + f.first_len)) ++ (span b (208 + f.first_len) (208 + f.first_len + f.second_len))) (span b 720 (720 + f.value_len)) → r ≡ same b n → r ≡ same b (place_image (Some (read_pending b)))
again b n f r bytes taken fit en er = er ∙ ap (same b) (en ∙ written_again b f taken bytes fit)

bytes_of : (b : List ℕ) → ((i : ℕ) → byte b i < 256) → Bytes b
unfolding Bytes
bytes_of b h = h

pub write-requires : goal.write-requires
write-requires c =
    (search rules, search rules, record { waited = search waited_short; yes = search yes_short; no = search no_short; key = search key_short; values = search values_short; promised = search promised_short })

pub returns : goal.returns
returns c =
    again c.args.self.now.bytes.now _ _ _ (bytes_of _ c.args.self.now.numbers) c.args.self.now.taken c.requires c.write.ensures c.same.ensures
