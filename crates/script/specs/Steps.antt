-- The steps of a script, as docs/SCRIPT.md has its lines. A line is its words w, of which it has n; the first is w 0, and past the last each is empty.
-- Assumes nothing.
use Rattle.std.specs.Prelude.{Bool, option_map, cond, List, [], ℕ, eqb, Option, Some, None}
use Rattle.leaf_fields.specs.Fields.{same}
use Rattle.messages.specs.declared.Address.{Address}
use Rattle.messages.specs.declared.Rpc.{Rpc}
use Rattle.script_words.specs.Letters.{letters}
use Rattle.script_words.specs.Text.{number_of, address_of, bytes_word, list_word}
use Rattle.script_message.specs.declared.places.Places.{Places}
use Rattle.script_message.specs.Messages.{message_in}
use Rattle.script_message.specs.Words.{words_at, list_at, message_words}
use Rattle.script.specs.declared.step.Step.{Step}

-- `proposer PLACES TIMEOUT LIST`
abbrev pub proposer_by : Option ℕ → Option ℕ → Bool → Option Step
proposer_by None t l = None
proposer_by (Some places) None l = None
proposer_by (Some places) (Some timeout) l = cond l (Some (Step.Proposer places timeout)) None

-- `lend CAPACITY BYTES AREA`
abbrev pub lend_by : Option ℕ → Option ℕ → Option ℕ → Option Step
lend_by None b a = None
lend_by (Some capacity) None a = None
lend_by (Some capacity) (Some bytes) None = None
lend_by (Some capacity) (Some bytes) (Some area) = Some (Step.Lend capacity bytes area)

-- `poke AT BYTES`
abbrev pub poke_by : Option ℕ → Bool → Option Step
poke_by None b = None
poke_by (Some at) b = cond b (Some (Step.Poke at)) None

-- `FROM MESSAGE`
abbrev pub sent_by : Option Address → Option Rpc → Option Step
sent_by None m = None
sent_by (Some from) None = None
sent_by (Some from) (Some m) = Some (Step.Message from m)

-- what a step of k words has
abbrev pub of_words : {A : Type 0} → ℕ → ℕ → Option A → Option A
of_words n k s = cond (eqb n k) s None

-- a step on the lent table and answer area, by its name, or a message
unfoldable pub lent_in : List ℕ → (ℕ → List ℕ) → ℕ → Option Step
lent_in name w n =
    cond (same name (letters "lend")) (of_words n 4 (lend_by (number_of (w 1)) (number_of (w 2)) (number_of (w 3))))
    (cond (same name (letters "poke")) (of_words n 3 (poke_by (number_of (w 1)) (bytes_word (w 2))))
    (cond (same name (letters "table")) (of_words n 1 (Some Step.Table))
    (cond (same name (letters "area")) (of_words n 1 (Some Step.Area))
    (sent_by (address_of (w 0)) (message_in w n)))))

-- the step of a line, `tick TIME`, `acceptor REGISTERS`, `proposer ..`, `clock TIME` or another; none where it is unreadable
unfoldable pub step_in : (ℕ → List ℕ) → ℕ → Option Step
step_in w n =
    cond (same (w 0) (letters "tick")) (of_words n 2 (option_map Step.Tick (number_of (w 1))))
    (cond (same (w 0) (letters "acceptor")) (of_words n 2 (option_map Step.Acceptor (number_of (w 1))))
    (cond (same (w 0) (letters "proposer")) (of_words n 4 (proposer_by (number_of (w 1)) (number_of (w 2)) (list_word (w 3))))
    (cond (same (w 0) (letters "clock")) (of_words n 2 (option_map Step.Clock (number_of (w 1))))
    (lent_in (w 0) w n))))

-- the words that hold a step's bytes and its list
abbrev pub step_words : Step → Places
step_words Step.Pass = words_at None None None
step_words (Step.Acceptor n) = words_at None None None
step_words (Step.Proposer n t) = list_at 3
step_words (Step.Clock t) = words_at None None None
step_words (Step.Lend n b a) = words_at None None None
step_words (Step.Poke a) = words_at None (Some 2) None
step_words Step.Table = words_at None None None
step_words Step.Area = words_at None None None
step_words (Step.Tick t) = words_at None None None
step_words (Step.Message from m) = message_words m
step_words Step.Unreadable = words_at None None None

-- the word at a place; empty where there is no place
abbrev pub word_in : (ℕ → List ℕ) → Option ℕ → List ℕ
word_in w None = []
word_in w (Some i) = w i
