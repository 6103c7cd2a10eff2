-- The answers of the two examples in docs/SCRIPT.md, and a line of each other kind, computed from the definitions.
-- Assumes nothing.
use Rattle.std.specs.Prelude.{◌≡◌, refl, List, [], ◌∷◌, ℕ, replicate, None, Ok, Err}
use Rattle.std.specs.Prelude.{Some}
use Rattle.leaf_fields.specs.Fields.{from_le, to_le, all_zero}
use Rattle.messages.specs.declared.Address.{Address}
use Rattle.messages.specs.declared.Ballot.{Ballot}
use Rattle.messages.specs.declared.Error.{Error}
use Rattle.messages.specs.declared.Rpc.{Rpc}
use Rattle.messages.specs.declared.answer.Answer.{Answer}
use Rattle.messages.specs.declared.answer.Refusal.{Refusal}
use Rattle.messages.specs.Message.{Message, lent}
use Rattle.messages.specs.Answers.{Told, each, timeouts, entries, rows, entry_bytes, rows_bytes, answer_of, written_in}
use Rattle.script_words.specs.Letters.{letters}
use Rattle.script_words.specs.Written.{hex_of, digits_before, decimal}
use Rattle.script_answer.specs.Lines.{entries_text, rows_text, entries_in, rows_in, answer_line, kept_of, area_line, block_line}

abbrev address : ℕ → Address
address n = record { 0 = n }

abbrev ballot : ℕ → Ballot
ballot n = record { 0 = n }

-- the line of an answer that stands in an area of zeros
abbrev line : Told → List ℕ
line t = answer_line (answer_of t) (written_in (replicate 400 0) t)

abbrev three : List ℕ
three = 1 ∷ 2 ∷ 3 ∷ []

abbrev key : List ℕ
key = 107 ∷ []

pub record Samples : Type 0 where
  pub promise : answer_line (Answer.Message (address 7) (Rpc.ProposeRes (ballot 1) (ballot 0) None (Ok tt)) 0) [] ≡ letters "to 7 ProposeRes 1 0 none Ok\n"
  pub acceptance : answer_line (Answer.Message (address 7) (Rpc.AcceptRes (ballot 1) (Ok tt)) 0) [] ≡ letters "to 7 AcceptRes 1 Ok\n"
  pub rejection : answer_line (Answer.Message (address 8) (Rpc.ProposeRes (ballot 1) (ballot 1) (Some lent) (Err (Error.ProposalRejected (ballot 1)))) 2) (65 ∷ 66 ∷ []) ≡ letters "to 8 ProposeRes 1 1 x4142 Err ProposalRejected 1\n"
  pub no_room : answer_line (Answer.Refused Refusal.NoRoom) [] ≡ letters "refused 11 NoRoom\n"
  pub over_limit : answer_line (Answer.Refused Refusal.OverLimit) [] ≡ letters "refused 4 OverLimit\n"
  pub nothing_said : answer_line Answer.Nothing [] ≡ letters "nothing\n"
  pub proposals : line (each three (Message.ProposeReq (ballot 1) key)) ≡ letters "each 1,2,3 ProposeReq 1 x6b\n"
  pub accepts : line (each three (Message.AcceptReq (ballot 1) key (Some (65 ∷ [])))) ≡ letters "each 1,2,3 AcceptReq 1 x6b x41\n"
  pub response : answer_line (Answer.Message (address 9) (Rpc.ClientResponse 1 (Ok (Some lent))) 1) (65 ∷ []) ≡ letters "to 9 ClientResponse 1 Ok x41\n"
  pub over_time : line (timeouts (record { client = address 9; id = 1234567890 } ∷ record { client = address 10; id = 0 } ∷ [])) ≡ letters "timeouts 9:1234567890 10:0\n"
  pub area : area_line (10 ∷ 0 ∷ 255 ∷ 0 ∷ 0 ∷ []) ≡ letters "area 0a00ff\n"
  pub block : block_line 12 (1 ∷ 0 ∷ []) ≡ letters "block 12 01\n"
  pub zeros : block_line 12 (0 ∷ 0 ∷ []) ≡ []

pub samples : Samples
unfolding from_le to_le all_zero entries rows entry_bytes rows_bytes hex_of digits_before decimal entries_text rows_text entries_in rows_in answer_line kept_of area_line block_line
samples =
    record {
      promise = refl;
      acceptance = refl;
      rejection = refl;
      no_room = refl;
      over_limit = refl;
      nothing_said = refl;
      proposals = refl;
      accepts = refl;
      response = refl;
      over_time = refl;
      area = refl;
      block = refl;
      zeros = refl;
    }
