-- `proposer_place::front::take` meets its contract: each field is read from its bytes, and the lengths are cut where the row ends.
-- Assumes nothing.
use Rattle.messages.specs.Message.{lent}
use Rattle.std.specs.Prelude.{Option, None, Some}
use mathlib.Core.Path.{◌≡◌}
use mathlib.Core.Bool.{cond}
use mathlib.Core.List.{List}
use Prim.Native.Nat.{ℕ, ◌-◌, ◌<◌, min}
use lib.Dec.{eqb}
use lib.ListN.{length}
use Rattle.leaf_fields.specs.Fields.{from_le, part, byte}
use Rattle.messages.specs.declared.Lent.{Lent}
use Rattle.messages.specs.declared.Req.{Req}
use Rattle.proposer_place.specs.declared.front.Phase.{Phase}
use Rattle.proposer_place.specs.declared.front.Front.{Front}
use Rattle.proposer_place.specs.Area.{phase_from, read_pending}
use Rattle.proposer_place.specs.Front.{phase_of, front_of}
use Rattle.proposer_place.specs.FrontLaws.{front_read}
use native.Mathlib.Omega.{arith}
use Rattle.proposer_place.proofs.front.take.Goals as goal

taken : (b : List ℕ) (n₁ first n₂ second n₃ value client id ballot promised at : ℕ) (phase : Phase) (req : Req) (mark : Option Lent) → length b ≡ 976 → ((i : ℕ) → byte b i < 256) → n₁ ≡ from_le (part b 10 2) → first ≡ cond (eqb (byte b 3) 1) 0 (cond (eqb (byte b 3) 2) 0 (cond (eqb (byte b 5) 0) 0 (min n₁ 768))) → n₂ ≡ from_le (part b 12 2) → second ≡ cond (eqb (byte b 3) 1) 0 (cond (eqb (byte b 3) 2) 0 (cond (eqb (byte b 3) 3) 0 (cond (eqb (byte b 6) 0) 0 (min n₂ (768 - first))))) → n₃ ≡ from_le (part b 14 2) → value ≡ cond (eqb (byte b 7) 0) 0 (min n₃ 256) → phase ≡ phase_of (phase_from (byte b 1)) → req ≡ cond (eqb (byte b 3) 1) Req.Get (cond (eqb (byte b 3) 2) Req.Del (cond (eqb (byte b 3) 3) Req.Set (Req.Cas (cond (eqb (byte b 5) 0) None (Some lent)) (cond (eqb (byte b 6) 0) None (Some lent))))) → mark ≡ cond (eqb (byte b 7) 0) None (Some lent) → client ≡ from_le (part b 8 2) → id ≡ from_le (part b 16 8) → ballot ≡ from_le (part b 24 8) → promised ≡ from_le (part b 32 8) → at ≡ from_le (part b 40 8) → ◌≡◌ {A = Front} (record { phase = phase; retried = eqb (byte b 2) 1; req = req; key_len = byte b 4; first_len = first; second_len = second; mark = mark; value_len = value; client = record { 0 = client }; id = id; ballot = record { 0 = ballot }; promised = record { 0 = promised }; received_at = at; waiting_for = byte b 48; acks_from = byte b 49; nacks_from = byte b 50 }) (front_of (read_pending b))
taken b n₁ first n₂ second n₃ value client id ballot promised at phase req mark long small e₁ ef e₂ es e₃ ev ep er em ec ei eb eq ea =
    rw (front_read b long small, es, ef, e₁, e₂, ev, e₃, ep, er, em, ec, ei, eb, eq, ea)

pub returns : goal.returns
returns c =
    let known = c.fits-b in (
      rw (c.from-2.ensures, c.from-3.ensures, c.from-4.ensures, c.from-5.ensures)
          (taken c.args.b.now _ c.first_from-first.result _ c.second_from-second.result _ c.length_from-value.result _ _ _ _ _ _ _ _ c.told-b (λ i. omega (arith, known i)) c.read.ensures c.first_from-first.ensures.0 c.read-2.ensures c.second_from-second.ensures.0 c.read-3.ensures c.length_from-value.ensures.0 c.from.ensures c.req_from.ensures (rw c.into.ensures at c.of_mark.ensures) c.read-4.ensures c.read-5.ensures c.read-6.ensures c.read-7.ensures c.read-8.ensures),
      record { key = omega (arith, known 4, c.from-2.ensures); waited = omega (arith, known 48, c.from-3.ensures); yeses = omega (arith, known 49, c.from-4.ensures); noes = omega (arith, known 50, c.from-5.ensures) },
      c.second_from-second.ensures.1,
      c.length_from-value.ensures.1,
    )
