-- `script_run::party::tick` meets its contract: a proposer is asked, and an acceptor answers nothing.
-- Assumes nothing.
use Rattle.std.proofs.Common.{◌≡◌, refl, sym, ◌∙◌, Bool, true, false, List, ℕ, ◌-◌, take, drop}
use Rattle.messages.specs.declared.answer.Answer.{Answer}
use Rattle.script_words.specs.LentLaws.{Put}
use Rattle.script_answer.specs.Lines.{answer_line}
use Rattle.script_run.specs.declared.run.Run.{Run}
use Rattle.script_run.specs.Run.{put_up_to}
use Rattle.script_run.specs.Obeyed.{ran, is_proposer, ticked_in, tick_in, Held, Stepped}
use Rattle.script_run.specs.Laws.{first_of, second_of, lent}
use Rattle.script_run.proofs.party.tick.Goals as goal

at_proposer : (s r : Run) (t a out t' a' out' : List ℕ) (time : ℕ) (b : Bool) → b ≡ is_proposer s.party → b ≡ true → Stepped s out (ticked_in s t a time) r t' a' out' → Stepped s out (tick_in s t a time) r t' a' out'
unfolding tick_in
at_proposer s r t a out t' a' out' time b e f k = first_of s r out t' a' out' (is_proposer s.party) _ _ (sym e ∙ f) k

at_acceptor : (s r : Run) (t a out out' : List ℕ) (at time : ℕ) (x : Answer) (b : Bool) → Held s t a out → b ≡ is_proposer s.party → b ≡ false → x ≡ Answer.Nothing → Put out s.at (answer_line x (take (s.area - 0) (drop 0 a))) at out' → r ≡ put_up_to s at → Stepped s out (tick_in s t a time) r t a out'
unfolding tick_in
at_acceptor s r t a out out' at time x b held e g n put f =
    let p : Put out s.at (answer_line Answer.Nothing (take s.area a)) at out' = rw (lent a s.area, n) at put in
    let k : Stepped s out (ran s t a (answer_line Answer.Nothing (take s.area a))) r t a out' = rw f (record { run = refl; table = refl; area = refl; put = p; held = (held.0, held.1, held.2, p.within) }) in
    second_of s r out t a out' (is_proposer s.party) _ _ (sym e ∙ g) k

pub returns-then-is_proposer : goal.returns-then-is_proposer
returns-then-is_proposer c = search at_proposer depth 12

pub returns : goal.returns
returns c = search at_acceptor depth 12
