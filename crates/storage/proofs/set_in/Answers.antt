-- `storage::set_in` meets its contract: what the change leaves is read from the block, and the value through a copy.
-- Assumes nothing.
use Rattle.std.proofs.Common.{◌≡◌, refl, true, List, ℕ, Option, Result, Some, length, take, replicate, length-take, arith}
use Rattle.std.specs.Prelude.{option_map, unwrap_or}
use denote.Ref.{Bor}
use Rattle.std.specs.Option.{option_and}
use Rattle.std.proofs.lemmas.List.{length-replicate}
use Rattle.std.proofs.lemmas.List.Edits.{sets}
use Rattle.messages.specs.declared.Ballot.{Ballot}
use Rattle.messages.specs.declared.answer.Refusal.{Refusal}
use Rattle.messages.specs.Answers.{bytes_of}
use Rattle.storage_block.specs.Block.{readable, register_of, register_with, register}
use Rattle.storage_block.specs.Read.{value_fits_lem}
use Rattle.storage_block.specs.Stores.{copied_back, copied_room}
use Rattle.storage.specs.declared.Change.{Change}
use Rattle.storage.specs.Operations.{changed, RegisterSet}
use Rattle.storage.proofs.set_in.Goals as goal

module _ (b : List ℕ) (lb : length b ≡ 512) (h : readable b ≡ true) (len : Option ℕ) (el : len ≡ option_map length (register_of b).value) (n : ℕ) (en : n ≡ unwrap_or len 0) (a : List ℕ) (ea : a ≡ sets (replicate 256 0) 0 (bytes_of (register_of b).value)) (v : Option (Bor (List ℕ))) (s : Bor (List ℕ)) (hs : s.now ≡ take n a) (ev : v ≡ option_and len (Some s)) (key bytes : List ℕ) (change : Change) (d : Result (Unit {0}) Refusal) (b' : List ℕ) where
  kept : option_map (λ x. x.now) v ≡ (register_of b).value
  kept = copied_back (register_of b).value len el n (replicate 256 0) a v s hs ev en ea (rw (length-replicate {A = ℕ} 256 0) (value_fits_lem b lb h))

  seen_set : (x accepted : Ballot) → change ≡ Change.HighestSeen x → accepted ≡ (register_of b).accepted → RegisterSet (register key x accepted (option_map (λ x. x.now) v)) b d b' → RegisterSet (changed change bytes (register_with key b)) b d b'
  seen_set x accepted e eb r = rw e (rw (eb, kept) at r)

  ballot_set : (x seen : Ballot) → change ≡ Change.AcceptedBallot x → seen ≡ (register_of b).seen → RegisterSet (register key seen x (option_map (λ x. x.now) v)) b d b' → RegisterSet (changed change bytes (register_with key b)) b d b'
  ballot_set x seen e es r = rw e (rw (es, kept) at r)

pub slice_bounds-area-end : goal.slice_bounds-area-end
slice_bounds-area-end c =
    let r = copied_room _ _ _ c.told-b c.requires c.copy_value-len.ensures.len c.unwrap_or.ensures in
    omega (arith, c.copy_value-len.array_long)

pub slice_bounds-and-end : goal.slice_bounds-and-end
slice_bounds-and-end c =
    let r = copied_room _ _ _ c.told-b c.requires c.copy_value-len.ensures.len c.unwrap_or.ensures in
    simp length-take (omega (arith, c.copy_value-len.array_long))

pub returns-in-HighestSeen : goal.returns-in-HighestSeen
returns-in-HighestSeen c =
    seen_set _ c.told-b c.requires _ c.copy_value-len.ensures.len _ c.unwrap_or.ensures _ c.copy_value-len.ensures.copied _ _ refl c.and-kept.ensures _ _ _ _ _ _ _ c.in-HighestSeen.is c.accepted_ballot.ensures c.write_register.ensures

pub returns-in-AcceptedBallot : goal.returns-in-AcceptedBallot
returns-in-AcceptedBallot c =
    ballot_set _ c.told-b c.requires _ c.copy_value-len.ensures.len _ c.unwrap_or.ensures _ c.copy_value-len.ensures.copied _ _ refl c.and-kept.ensures _ _ _ _ _ _ _ c.in-AcceptedBallot.is c.highest_seen.ensures c.write_register-in-AcceptedBallot.ensures
