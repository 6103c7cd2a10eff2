-- `acceptor_work::propose_in` meets its contract: the comparison decides between a rejection that stores nothing and a promise whose block is written anew.
-- Assumes nothing.
use Rattle.std.specs.Prelude.{Option, Some, Ok, option_map, unwrap_or}
use Rattle.std.proofs.Common.{◌≡◌, refl, sym, ap, ◌∙◌, true, List, ℕ, length, take}
use denote.Ref.{Bor}
use Rattle.std.specs.Option.{option_and}
use Rattle.std.proofs.lemmas.List.Edits.{sets}
use Rattle.messages.specs.declared.Address.{Address}
use Rattle.messages.specs.declared.Ballot.{Ballot}
use Rattle.messages.specs.declared.Lent.{Lent}
use Rattle.messages.specs.declared.Rpc.{Rpc}
use Rattle.messages.specs.declared.answer.Answer.{Answer}
use Rattle.messages.specs.Ballots.{above}
use Rattle.messages.specs.Message.{lent}
use Rattle.messages.specs.Answers.{marked, bytes_of}
use Rattle.storage_block.specs.Block.{readable, register_of, register_with, register, image}
use Rattle.storage_block.specs.Read.{value_fits_lem}
use Rattle.storage_block.specs.Stores.{copied_length, copied_mark, copied_back, copied_room}
use Rattle.acceptor_rules.specs.Rules.{proposed}
use Rattle.acceptor_work.specs.Contract.{Worked}
use Rattle.acceptor_work.proofs.propose_in.Goals as goal

-- the value, read back out of the area that it was copied to
module _ (b : List ℕ) (lb : length b ≡ 512) (h : readable b ≡ true) (len : Option ℕ) (el : len ≡ option_map length (register_of b).value) (n : ℕ) (en : n ≡ unwrap_or len 0) (mark : Option Lent) (em : mark ≡ option_and len (Some lent)) (a a' : List ℕ) (la : length a ≡ 256) (ea : a' ≡ sets a 0 (bytes_of (register_of b).value)) where
  promised : (v : Option (Bor (List ℕ))) (s : Bor (List ℕ)) → s.now ≡ take n a' → v ≡ option_and len (Some s) → (key : List ℕ) (from : Address) (ballot seen last : Ballot) (b' : List ℕ) → seen ≡ (register_of b).seen → last ≡ (register_of b).accepted → true ≡ above ballot seen → b' ≡ image (register key ballot last (option_map (λ x. x.now) v)) → Worked (proposed ballot (register_with key b)) from b (Answer.Message from (Rpc.ProposeRes ballot last mark (Ok tt)) n) b'
  promised v s hs ev key from ballot seen last b' es ea' above_seen e =
      let promise : above ballot (register_of b).seen ≡ true = sym (above_seen ∙ ap (above ballot) es) in
      let mark_is : mark ≡ marked (register_of b).value = em ∙ copied_mark (register_of b).value len el in
      let long : n ≡ length (bytes_of (register_of b).value) = en ∙ copied_length (register_of b).value len el in
      let back : option_map (λ x. x.now) v ≡ (register_of b).value = copied_back (register_of b).value len el n a a' v s hs ev en ea (rw la (value_fits_lem b lb h)) in
      record { answer = rw (promise, ea', mark_is, long); block = rw promise (e ∙ rw (ea', back)) }

pub shared_ref_as_front-bytes : goal.shared_ref_as_front-bytes
shared_ref_as_front-bytes c = copied_room _ _ _ c.told-b c.requires.0 c.copy_value-value.ensures.len c.unwrap_or-len.ensures

pub returns-then-above : goal.returns-then-above
returns-then-above c =
    (promised _ c.told-b c.requires.0 _ c.copy_value-value.ensures.len _ c.unwrap_or-len.ensures _ c.and-mark.ensures _ _ c.told-area c.copy_value-value.ensures.copied _ _ refl c.and.ensures _ _ _ _ _ _ c.highest_seen-seen.ensures c.accepted_ballot-last.ensures c.if-above.ensures c.write.ensures, c.copy_value-value.ensures.copied)
