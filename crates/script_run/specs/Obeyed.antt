-- What each step of a script does (docs/SCRIPT.md): where the run then stands, every byte of the table or area and of the answer area, and the text that it puts out. A message, a tick and a start are the party's own rules on what is lent to it.
-- Assumes nothing.
use Rattle.std.specs.Prelude.{◌≡◌, Bool, true, false, not, ◌&&◌, cond, List, [], ◌++◌, ℕ, zero, suc, ◌+◌, ◌-◌, ◌*◌, ◌≤◌, eqb, leb, ltb, length, take, drop, replicate, Option, None, Some}
use Rattle.std.proofs.lemmas.List.Edits.{sets}
use Rattle.messages.specs.declared.Address.{Address}
use Rattle.messages.specs.declared.answer.Answer.{Answer}
use Rattle.messages.specs.Message.{Message, message_of}
use Rattle.messages.specs.Limits.{registers_most}
use Rattle.messages.specs.Answers.{Told, answer_of, written_in}
use Rattle.storage_block.specs.Block.{block_bytes}
use Rattle.acceptor_rules.specs.Rules as Accepting
use Rattle.acceptor.specs.Contract as Acceptor
use Rattle.proposer_rules.specs.Rules as Proposing
use Rattle.proposer_place.specs.Area.{area_bytes}
use Rattle.proposer_works.specs.Works.{answer_bytes}
use Rattle.proposer.specs.Contract as Proposer
use Rattle.script_words.specs.Letters.{letters}
use Rattle.script_words.specs.Written.{put, decimal}
use Rattle.script_words.specs.LentLaws.{Put}
use Rattle.script_answer.specs.Lines.{answer_line, area_line, block_line}
use Rattle.script.specs.declared.step.Step.{Step}
use Rattle.script.specs.Read.{step_of, key_of, value_of, other_of, numbers_of}
use Rattle.script_run.specs.declared.run.Party.{Party}
use Rattle.script_run.specs.declared.run.Run.{Run}
use Rattle.script_run.specs.Run.{put_up_to, timed, lending, reached, begun, over}
use Rattle.script_run.specs.State.{State}

-- ---- the outcome of a step

pub record Ran : Type 0 where
  pub run : Run
  pub table : List ℕ
  pub area : List ℕ
  pub text : List ℕ

abbrev pub ran : Run → List ℕ → List ℕ → List ℕ → Ran
ran s t a text = record { run = s; table = t; area = a; text = text }

-- the state after a step: its text stands behind what was put out, in room for n bytes
abbrev pub after : ℕ → State → Ran → State
after n v o = record { run = o.run; table = o.table; area = o.area; out = put n v.out o.text }

-- the run's last line
abbrev pub stopped : Run → List ℕ → List ℕ → ℕ → List ℕ → Ran
stopped s t a line why = ran (over s) t a (letters "line " ++ (decimal line ++ why))

abbrev pub unreadable : Run → List ℕ → List ℕ → ℕ → Ran
unreadable s t a line = stopped s t a line (letters ": can't be read\n")

-- what is lent is the first n elements, and x is what comes back
abbrev pub lent_back : List ℕ → ℕ → List ℕ → List ℕ
lent_back l n x = x ++ drop n l

-- ---- a party

abbrev pub is_started : Option Party → Bool
is_started None = false
is_started (Some p) = true

abbrev pub is_proposer : Option Party → Bool
is_proposer None = false
is_proposer (Some Party.Acceptor) = false
is_proposer (Some Party.Proposer) = true

-- a table and an answer area have room for so many bytes
abbrev pub has_room : List ℕ → List ℕ → ℕ → ℕ → Bool
has_room t a bytes n = leb bytes (length t) && leb n (length a)

-- a party that is lent a table or area of so many bytes and an answer area of n: all of it zeros
unfoldable pub fresh_in : Run → List ℕ → List ℕ → ℕ → Party → ℕ → ℕ → ℕ → Ran
fresh_in s t a line party capacity bytes n =
    cond (has_room t a bytes n)
    (ran (lending (begun s party) capacity bytes n) (lent_back t s.reach (replicate s.reach 0)) (replicate (length a) 0) [])
    (unreadable s t a line)

-- `acceptor REGISTERS`
unfoldable pub acceptor_in : Run → List ℕ → List ℕ → ℕ → ℕ → Ran
acceptor_in s t a line registers =
    cond (ltb registers_most registers) (unreadable s t a line) (fresh_in s t a line Party.Acceptor registers (registers * block_bytes) 256)

-- a proposer's start, on the area that it is lent
abbrev pub started_by : Ran → Proposing.Outcome → Ran
started_by r o =
    ran r.run
    (lent_back r.table r.run.bytes (Proposer.area_after (take r.run.bytes r.table) o.told o.state))
    r.area
    (r.text ++ answer_line (answer_of o.told) (take r.run.area r.area))

abbrev pub opened_by : Ran → ℕ → List ℕ → Ran
opened_by r timeout list =
    cond r.run.ended r (started_by r (Proposer.start_on (take r.run.bytes r.table) r.run.capacity timeout list))

-- the most places that the buffers have room for
abbrev pub places_room : ℕ
places_room = 60

-- `proposer PLACES TIMEOUT LIST`
unfoldable pub proposer_in : Run → List ℕ → List ℕ → ℕ → ℕ → ℕ → List ℕ → Ran
proposer_in s t a line places timeout list =
    cond (ltb places_room places) (unreadable s t a line)
    (opened_by (fresh_in s t a line Party.Proposer places (area_bytes places) (answer_bytes places)) timeout list)

-- ---- a message and a tick

-- what a party gives back: its answer, and the two areas that it was lent
pub record Heard : Type 0 where
  pub told : Told
  pub lent : List ℕ
  pub area : List ℕ

abbrev pub by_acceptor : List ℕ → List ℕ → Accepting.Outcome → Heard
by_acceptor t a o = record { told = o.told; lent = Acceptor.stored t o.store; area = written_in a o.told }

abbrev pub by_proposer : List ℕ → List ℕ → Proposing.Outcome → Heard
by_proposer t a o = record { told = o.told; lent = Proposer.area_after t o.told o.state; area = written_in a o.told }

-- a message at the party that there is: a proposer or not, what it is lent, its capacity and its answer area, the sender and the time
unfoldable pub message_on : Bool → List ℕ → ℕ → List ℕ → Address → ℕ → Message → Heard
message_on true t n a from at m = by_proposer t a (Proposer.outcome_on t n a from at m)
message_on false t n a from at m = by_acceptor t a (Acceptor.outcome_on t n a from m)

-- a party's answer and what it leaves of the two areas
pub record Gave (h : Heard) (r : Answer) (t' a' : List ℕ) : Type 0 where
  pub answer : r ≡ answer_of h.told
  pub lent : t' ≡ h.lent
  pub area : a' ≡ h.area

-- the run after a party was heard
abbrev pub heard_in : Run → List ℕ → List ℕ → Heard → Ran
heard_in s t a h =
    ran s (lent_back t s.bytes h.lent) (lent_back a s.area h.area) (answer_line (answer_of h.told) h.area)

-- `FROM MESSAGE`
unfoldable pub message_in : Run → List ℕ → List ℕ → Address → Message → Ran
message_in s t a from m =
    heard_in s t a (message_on (is_proposer s.party) (take s.bytes t) s.capacity (take s.area a) from s.clock m)

-- a tick at a proposer
unfoldable pub ticked_in : Run → List ℕ → List ℕ → ℕ → Ran
ticked_in s t a time =
    heard_in s t a (by_proposer (take s.bytes t) (take s.area a) (Proposer.tick_on (take s.bytes t) s.capacity (take s.area a) time))

-- `tick TIME`: an acceptor's is answered with nothing
unfoldable pub tick_in : Run → List ℕ → List ℕ → ℕ → Ran
tick_in s t a time = cond (is_proposer s.party) (ticked_in s t a time) (ran s t a (answer_line Answer.Nothing (take s.area a)))

-- ---- what is lent

-- `lend CAPACITY BYTES AREA`
unfoldable pub lend_in : Run → List ℕ → List ℕ → ℕ → ℕ → ℕ → ℕ → Ran
lend_in s t a line capacity bytes n =
    cond (has_room t a bytes n) (ran (lending s capacity bytes n) t a []) (unreadable s t a line)

-- `poke AT BYTES`
unfoldable pub poke_in : Run → List ℕ → List ℕ → ℕ → ℕ → List ℕ → Ran
poke_in s t a line at v =
    cond (ltb (length t) at) (unreadable s t a line)
    (cond (ltb (length t - at) (length v)) (unreadable s t a line) (ran (reached s (at + length v)) (sets t at v) a []))

-- a line for each block, the first being block i; the last may be cut short. At most n blocks
unfoldable pub block_lines : ℕ → ℕ → List ℕ → List ℕ
block_lines zero i t = []
block_lines (suc n) i t = cond (eqb (length t) 0) [] (block_line i (take block_bytes t) ++ block_lines n (suc i) (drop block_bytes t))

-- `table`
unfoldable pub table_text : List ℕ → List ℕ
table_text t = block_lines (length t) 0 t

-- ---- a step

-- a step on a party, where there is none yet
abbrev pub lacks_party : Step → Bool → Bool
lacks_party Step.Pass started = false
lacks_party (Step.Acceptor n) started = false
lacks_party (Step.Proposer n t) started = false
lacks_party (Step.Clock t) started = false
lacks_party (Step.Lend r b a) started = not started
lacks_party (Step.Poke at) started = not started
lacks_party Step.Table started = not started
lacks_party Step.Area started = not started
lacks_party (Step.Tick t) started = not started
lacks_party (Step.Message from m) started = not started
lacks_party Step.Unreadable started = false

-- a step with its key k, its value v, its other value o and its list l
abbrev pub step_in : Run → List ℕ → List ℕ → ℕ → Step → List ℕ → List ℕ → List ℕ → List ℕ → Ran
step_in s t a line Step.Pass k v o l = ran s t a []
step_in s t a line (Step.Acceptor registers) k v o l = acceptor_in s t a line registers
step_in s t a line (Step.Proposer places timeout) k v o l = proposer_in s t a line places timeout l
step_in s t a line (Step.Clock time) k v o l = ran (timed s time) t a []
step_in s t a line (Step.Lend capacity bytes n) k v o l = lend_in s t a line capacity bytes n
step_in s t a line (Step.Poke at) k v o l = poke_in s t a line at v
step_in s t a line Step.Table k v o l = ran s t a (table_text (take s.bytes t))
step_in s t a line Step.Area k v o l = ran s t a (area_line (take s.area a))
step_in s t a line (Step.Tick time) k v o l = tick_in s t a time
step_in s t a line (Step.Message from m) k v o l = message_in s t a from (message_of m k v o l)
step_in s t a line Step.Unreadable k v o l = unreadable s t a line

unfoldable pub taken_in : Run → List ℕ → List ℕ → ℕ → Step → List ℕ → List ℕ → List ℕ → List ℕ → Ran
taken_in s t a line step k v o l =
    cond (lacks_party step (is_started s.party)) (stopped s t a line (letters ": no party yet\n")) (step_in s t a line step k v o l)

-- the longest line that is read
abbrev pub line_most : ℕ
line_most = 4096

-- line number `line` of a script
unfoldable pub obeyed : Run → List ℕ → List ℕ → ℕ → List ℕ → Ran
obeyed s t a line text =
    cond (ltb line_most (length text)) (unreadable s t a line)
    (taken_in s t a line (step_of text) (key_of text) (value_of text) (other_of text) (numbers_of text))

-- ---- the contract of a step

-- a run, its table, its answer area and its output: the parts that it lends and writes are within its buffers
abbrev pub Held : Run → List ℕ → List ℕ → List ℕ → Type 0
Held s table area out = (s.bytes ≤ length table) × (s.reach ≤ length table) × (s.area ≤ length area) × (s.at ≤ length out)

-- the run stands where the outcome says, every byte of the areas is the outcome's, and its text is put behind what stood in the output
pub record Stepped (s : Run) (out : List ℕ) (o : Ran) (r : Run) (t' a' out' : List ℕ) : Type 0 where
  pub run : r ≡ put_up_to o.run r.at
  pub table : t' ≡ o.table
  pub area : a' ≡ o.area
  pub put : Put out s.at o.text r.at out'
  pub held : Held r t' a' out'

-- the same of an output that knows how far it is written: the run's place stays 0
pub record Follows (n : ℕ) (put_out : List ℕ) (o : Ran) (r : Run) (t' a' out' : List ℕ) : Type 0 where
  pub run : r ≡ o.run
  pub table : t' ≡ o.table
  pub area : a' ≡ o.area
  pub out : out' ≡ put n put_out o.text
  pub held : (r.bytes ≤ length t') × (r.reach ≤ length t') × (r.area ≤ length a') × (r.at ≡ 0)
