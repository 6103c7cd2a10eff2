-- The new value of a pending request by the bytes that its place holds: as the rules have it, and short.
-- Assumes nothing.
use Rattle.std.specs.Prelude.{◌≡◌, refl, Bool, true, false, cond, ◌≤◌, length}
use Rattle.std.proofs.Common.{append-nil, arith, take_at, drop_at}
use Rattle.std.specs.Prelude.{Option, None, Some}
use Rattle.messages.specs.Message.{Value, Request, given}
use Rattle.messages.specs.Limits.{value_most}
use Rattle.messages.specs.Answers.{marked, bytes_of, request_rpc}
use Rattle.proposer_rules.specs.Rules.{same_value, applied, request_in}
use Rattle.proposer_place.specs.Area.{first_value, second_value, values_of}

pub given_back : (v : Option Value) → given (marked v) (bytes_of v) ≡ v
given_back None = refl
given_back (Some v) = refl

-- the row of a request's values is the request again, but for its key
pub applied_in : (r : Request) (v : Option Value) → applied (request_in (request_rpc r) (values_of r) (length (bytes_of (first_value r)))) (given (marked v) (bytes_of v)) ≡ applied r v
applied_in (Request.Get k) v = rw (given_back v)
applied_in (Request.Del k) v = refl
applied_in (Request.Set k u) v = rw (append-nil u)
applied_in (Request.Cas k old new) v =
    rw (
      take_at (bytes_of old) (bytes_of new) (length (bytes_of old)) refl,
      drop_at (bytes_of old) (bytes_of new) (length (bytes_of old)) refl,
      given_back old,
      given_back new,
      given_back v,
    )

pub applied_short : (r : Request) (v : Option Value) → length (bytes_of (first_value r)) ≤ value_most → length (bytes_of (second_value r)) ≤ value_most → length (bytes_of v) ≤ value_most → length (bytes_of (applied r v).value) ≤ value_most
applied_short (Request.Get k) v h1 h2 h3 = h3
applied_short (Request.Del k) v h1 h2 h3 = omega arith
applied_short (Request.Set k u) v h1 h2 h3 = h1
applied_short (Request.Cas k old new) v h1 h2 h3 = go (same_value old v)
  where
    go : (z : Bool) → length (bytes_of (cond z new v)) ≤ value_most
    go true = h2
    go false = h3
