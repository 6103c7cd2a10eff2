-- The front of a place as a struct by value: what it says of a pending request, and its bytes. Whole places as rows.
-- Assumes nothing.
use Rattle.std.specs.Prelude.{◌≡◌, true, List, [], ◌∷◌, ◌++◌, ℕ, ◌+◌, ◌≤◌, ◌<◌, length, Option, None}
use Rattle.std.specs.Prelude.{Some}
use Rattle.leaf_fields.specs.Fields.{to_le, padded}
use Rattle.messages.specs.declared.Lent.{Lent}
use Rattle.messages.specs.declared.Req.{Req}
use Rattle.messages.specs.declared.Ballot.{Ballot}
use Rattle.messages.specs.Ballots.{ballot0}
use Rattle.messages.specs.Message.{mark}
use Rattle.messages.specs.Limits.{key_most, value_most}
use Rattle.messages.specs.Answers.{marked, bytes_of, request_rpc}
use Rattle.proposer_place.specs.declared.front.Phase as Code
use Rattle.proposer_place.specs.declared.front.Front.{Front}
use Rattle.proposer_place.specs.declared.rows.Rows.{Rows}
use Rattle.proposer_rules.specs.State.{Phase, Propose, Accept, Pending, key_of}
use Rattle.proposer_place.specs.Area.{list_bytes, values_bytes, first_value, second_value, flag_byte, place_image, read_pending}
use Rattle.proposer_place.specs.AreaLaws.{Lawful}

-- ---- the struct

abbrev pub phase_of : Phase → Code.Phase
phase_of Propose = Code.Phase.Propose
phase_of Accept = Code.Phase.Accept

-- what of a pending request the struct has: all but its key, values and lists, of which it has the lengths
unfoldable pub front_of : Pending → Front
front_of p = record {
  phase = phase_of p.phase;
  retried = p.retried;
  req = request_rpc p.req;
  key_len = length (key_of p.req);
  first_len = length (bytes_of (first_value p.req));
  second_len = length (bytes_of (second_value p.req));
  mark = marked p.value;
  value_len = length (bytes_of p.value);
  client = p.client;
  id = p.id;
  ballot = p.ballot;
  promised = p.promised;
  received_at = p.received_at;
  waiting_for = length p.waiting_for;
  acks_from = length p.acks_from;
  nacks_from = length p.nacks_from;
}

-- ---- what a message makes of it

-- one more yes, and its promise taken over
abbrev pub with_promise : Front → Ballot → Option Lent → ℕ → Front
with_promise f b m n = record {
  phase = f.phase;
  retried = f.retried;
  req = f.req;
  key_len = f.key_len;
  first_len = f.first_len;
  second_len = f.second_len;
  mark = m;
  value_len = n;
  client = f.client;
  id = f.id;
  ballot = f.ballot;
  promised = b;
  received_at = f.received_at;
  waiting_for = f.waiting_for;
  acks_from = f.acks_from + 1;
  nacks_from = f.nacks_from;
}

-- the second phase, with n entries waited for
abbrev pub in_second : Front → ℕ → Front
in_second f n = record {
  phase = Code.Phase.Accept;
  retried = f.retried;
  req = f.req;
  key_len = f.key_len;
  first_len = f.first_len;
  second_len = f.second_len;
  mark = f.mark;
  value_len = f.value_len;
  client = f.client;
  id = f.id;
  ballot = f.ballot;
  promised = f.promised;
  received_at = f.received_at;
  waiting_for = n;
  acks_from = 0;
  nacks_from = 0;
}

-- the request anew at a ballot, with n entries waited for
abbrev pub anew : Front → Ballot → ℕ → Front
anew f b n = record {
  phase = Code.Phase.Propose;
  retried = true;
  req = f.req;
  key_len = f.key_len;
  first_len = f.first_len;
  second_len = f.second_len;
  mark = None;
  value_len = 0;
  client = f.client;
  id = f.id;
  ballot = b;
  promised = ballot0;
  received_at = f.received_at;
  waiting_for = n;
  acks_from = 0;
  nacks_from = 0;
}

-- ---- its bytes

abbrev pub phase_code : Code.Phase → ℕ
phase_code Code.Phase.Propose = 1
phase_code Code.Phase.Accept = 2

abbrev pub kind_code : Req → ℕ
kind_code Req.Get = 1
kind_code Req.Del = 2
kind_code Req.Set = 3
kind_code (Req.Cas old new) = 4

-- the marks of a request's two values
abbrev pub first_code : Req → ℕ
first_code Req.Get = 0
first_code Req.Del = 0
first_code Req.Set = 1
first_code (Req.Cas old new) = mark old

abbrev pub second_code : Req → ℕ
second_code Req.Get = 0
second_code Req.Del = 0
second_code Req.Set = 0
second_code (Req.Cas old new) = mark new

-- bytes 0 to 7
unfoldable pub mark_bytes : Front → List ℕ
mark_bytes f =
    1 ∷ phase_code f.phase ∷ flag_byte f.retried ∷ kind_code f.req ∷ f.key_len
    ∷ first_code f.req ∷ second_code f.req ∷ mark f.mark ∷ []

-- bytes 8 to 47
unfoldable pub number_bytes : Front → List ℕ
number_bytes f =
    to_le 2 f.client.0 ++ (to_le 2 f.first_len ++ (to_le 2 f.second_len ++ (to_le 2 f.value_len
    ++ (to_le 8 f.id ++ (to_le 8 f.ballot.0 ++ (to_le 8 f.promised.0 ++ to_le 8 f.received_at))))))

-- bytes 48 to 51
unfoldable pub count_bytes : Front → List ℕ
count_bytes f = f.waiting_for ∷ f.acks_from ∷ f.nacks_from ∷ 0 ∷ []

-- bytes 0 to 51
unfoldable pub front_bytes : Front → List ℕ
front_bytes f = mark_bytes f ++ (number_bytes f ++ count_bytes f)

-- ---- a place as rows

unfoldable pub place_rows : List ℕ → List ℕ → List ℕ → List ℕ → List ℕ → List ℕ → List ℕ → List ℕ
place_rows front waited yeses noes key values promised =
    front ++ (padded list_bytes waited ++ (padded list_bytes yeses ++ (padded list_bytes noes
    ++ (0 ∷ 0 ∷ (padded key_most key ++ (padded values_bytes values ++ padded value_most promised))))))

-- a front and the rows behind it, each with zeros behind what it holds
abbrev pub rows_image : Front → Rows → List ℕ
rows_image f r =
    place_rows (front_bytes f) r.waited.now r.yes.now r.no.now r.key.now (r.first.now ++ r.second.now) r.promised.now

-- ---- for the functions on a place

-- each row has room in a place
pub record Fit (r : Rows) : Type 0 where
  pub waited : length r.waited.now ≤ list_bytes
  pub yes : length r.yes.now ≤ list_bytes
  pub no : length r.no.now ≤ list_bytes
  pub key : length r.key.now ≤ key_most
  pub values : length r.first.now + length r.second.now ≤ values_bytes
  pub promised : length r.promised.now ≤ value_most

-- single bytes of the struct that must fit a byte
pub record Small (f : Front) : Type 0 where
  pub key : f.key_len < 256
  pub waited : f.waiting_for < 256
  pub yeses : f.acks_from < 256
  pub noes : f.nacks_from < 256

-- a place that holds a pending request, as its image
pub record Used (b : List ℕ) : Type 0 where
  pub image : b ≡ place_image (Some (read_pending b))
  pub lawful : Lawful (read_pending b)
