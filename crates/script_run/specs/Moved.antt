-- Where the output is written up to changes nothing else of a line: what it does, every byte and its text are the same at any place.
-- Assumes nothing.
use Rattle.std.specs.Prelude.{◌≡◌, refl, Bool, true, false, cond, List, ℕ, ◌-◌, ◌*◌, ltb, length}
use Rattle.std.proofs.Common.{ap, ◌∙◌}
use Rattle.messages.specs.declared.Address.{Address}
use Rattle.messages.specs.Message.{Message}
use Rattle.messages.specs.Limits.{registers_most}
use Rattle.storage_block.specs.Block.{block_bytes}
use Rattle.proposer_place.specs.Area.{area_bytes}
use Rattle.proposer_works.specs.Works.{answer_bytes}
use Rattle.script.specs.declared.step.Step.{Step}
use Rattle.script.specs.Read.{step_of, key_of, value_of, other_of, numbers_of}
use Rattle.script_run.specs.declared.run.Party.{Party}
use Rattle.script_run.specs.declared.run.Run.{Run}
use Rattle.script_run.specs.Run.{put_up_to}
use Rattle.script_run.specs.Obeyed.{Ran, ran, is_started, is_proposer, has_room, fresh_in, acceptor_in, opened_by, places_room, proposer_in, message_in, ticked_in, tick_in, lend_in, poke_in, lacks_party, step_in, taken_in, line_most, obeyed}

-- an outcome, with the output written up to another place
abbrev pub moved : ℕ → Ran → Ran
moved k o = ran (put_up_to o.run k) o.table o.area o.text

either : (k : ℕ) (p : Bool) (x y x' y' : Ran) → x' ≡ moved k x → y' ≡ moved k y → cond p x' y' ≡ moved k (cond p x y)
either k true x y x' y' e f = e
either k false x y x' y' e f = f

fresh_moved : (k : ℕ) (s : Run) (t a : List ℕ) (line : ℕ) (party : Party) (capacity bytes n : ℕ) → fresh_in (put_up_to s k) t a line party capacity bytes n ≡ moved k (fresh_in s t a line party capacity bytes n)
unfolding fresh_in
fresh_moved k s t a line party capacity bytes n = either k (has_room t a bytes n) _ _ _ _ refl refl

acceptor_moved : (k : ℕ) (s : Run) (t a : List ℕ) (line registers : ℕ) → acceptor_in (put_up_to s k) t a line registers ≡ moved k (acceptor_in s t a line registers)
unfolding acceptor_in
acceptor_moved k s t a line registers =
    either k (ltb registers_most registers) _ _ _ _ refl (fresh_moved k s t a line Party.Acceptor registers (registers * block_bytes) 256)

opened_moved : (k : ℕ) (r : Ran) (timeout : ℕ) (list : List ℕ) → opened_by (moved k r) timeout list ≡ moved k (opened_by r timeout list)
opened_moved k r timeout list = either k r.run.ended _ _ _ _ refl refl

proposer_moved : (k : ℕ) (s : Run) (t a : List ℕ) (line places timeout : ℕ) (list : List ℕ) → proposer_in (put_up_to s k) t a line places timeout list ≡ moved k (proposer_in s t a line places timeout list)
unfolding proposer_in
proposer_moved k s t a line places timeout list =
    let r : Ran = fresh_in s t a line Party.Proposer places (area_bytes places) (answer_bytes places) in
    let e : fresh_in (put_up_to s k) t a line Party.Proposer places (area_bytes places) (answer_bytes places) ≡ moved k r = fresh_moved k s t a line Party.Proposer places (area_bytes places) (answer_bytes places) in
    either k (ltb places_room places) _ _ _ _ refl (ap (λ (x : Ran). opened_by x timeout list) e ∙ opened_moved k r timeout list)

message_moved : (k : ℕ) (s : Run) (t a : List ℕ) (from : Address) (m : Message) → message_in (put_up_to s k) t a from m ≡ moved k (message_in s t a from m)
unfolding message_in
message_moved k s t a from m = refl

tick_moved : (k : ℕ) (s : Run) (t a : List ℕ) (time : ℕ) → tick_in (put_up_to s k) t a time ≡ moved k (tick_in s t a time)
unfolding tick_in ticked_in
tick_moved k s t a time = either k (is_proposer s.party) _ _ _ _ refl refl

lend_moved : (k : ℕ) (s : Run) (t a : List ℕ) (line capacity bytes n : ℕ) → lend_in (put_up_to s k) t a line capacity bytes n ≡ moved k (lend_in s t a line capacity bytes n)
unfolding lend_in
lend_moved k s t a line capacity bytes n = either k (has_room t a bytes n) _ _ _ _ refl refl

poke_moved : (k : ℕ) (s : Run) (t a : List ℕ) (line at : ℕ) (v : List ℕ) → poke_in (put_up_to s k) t a line at v ≡ moved k (poke_in s t a line at v)
unfolding poke_in
poke_moved k s t a line at v =
    either k (ltb (length t) at) _ _ _ _ refl (either k (ltb (length t - at) (length v)) _ _ _ _ refl refl)

step_moved : (k : ℕ) (s : Run) (t a : List ℕ) (line : ℕ) (step : Step) (key value other list : List ℕ) → step_in (put_up_to s k) t a line step key value other list ≡ moved k (step_in s t a line step key value other list)
step_moved k s t a line Step.Pass key value other list = refl
step_moved k s t a line (Step.Acceptor registers) key value other list = acceptor_moved k s t a line registers
step_moved k s t a line (Step.Proposer places timeout) key value other list = proposer_moved k s t a line places timeout list
step_moved k s t a line (Step.Clock time) key value other list = refl
step_moved k s t a line (Step.Lend capacity bytes n) key value other list = lend_moved k s t a line capacity bytes n
step_moved k s t a line (Step.Poke at) key value other list = poke_moved k s t a line at value
step_moved k s t a line Step.Table key value other list = refl
step_moved k s t a line Step.Area key value other list = refl
step_moved k s t a line (Step.Tick time) key value other list = tick_moved k s t a time
step_moved k s t a line (Step.Message from m) key value other list = message_moved k s t a from _
step_moved k s t a line Step.Unreadable key value other list = refl

taken_moved : (k : ℕ) (s : Run) (t a : List ℕ) (line : ℕ) (step : Step) (key value other list : List ℕ) → taken_in (put_up_to s k) t a line step key value other list ≡ moved k (taken_in s t a line step key value other list)
unfolding taken_in
taken_moved k s t a line step key value other list =
    either k (lacks_party step (is_started s.party)) _ _ _ _ refl (step_moved k s t a line step key value other list)

pub line_moved : (k : ℕ) (s : Run) (t a : List ℕ) (line : ℕ) (text : List ℕ) → obeyed (put_up_to s k) t a line text ≡ moved k (obeyed s t a line text)
unfolding obeyed
line_moved k s t a line text =
    either k (ltb line_most (length text)) _ _ _ _ refl (taken_moved k s t a line (step_of text) (key_of text) (value_of text) (other_of text) (numbers_of text))
