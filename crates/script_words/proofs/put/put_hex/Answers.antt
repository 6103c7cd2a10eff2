-- `script_words::put::put_hex` meets its contract. The loop's invariant: what is left to put gives the whole.
-- Assumes nothing.
use Rattle.std.proofs.Common.{◌≡◌, refl, List, [], ◌∷◌, ◌++◌, ℕ, ◌+◌, ◌/◌, ◌%◌, ◌≤◌, ◌<◌, length, get_or, drop, rules, add-one, drop-cons}
use Rattle.std.proofs.lemmas.List.{drop_all}
use Rattle.script_words.specs.Written.{hex_digit, hex_of}
use Rattle.script_words.specs.LentLaws.{less_left, all_put}
use Rattle.script_words.proofs.put.put_hex.Goals as goal

-- the two digits of the next byte
next : (bytes : List ℕ) (i a b : ℕ) → i < length bytes → a ≡ hex_digit (get_or bytes i 0 / 16) → b ≡ hex_digit (get_or bytes i 0 % 16) → hex_of (drop i bytes) ≡ (a ∷ []) ++ ((b ∷ []) ++ hex_of (drop (i + 1) bytes))
unfolding hex_of
next bytes i a b more ea eb = rw (drop-cons bytes i 0 more, ea, eb, add-one)

none_behind : (bytes : List ℕ) (i : ℕ) → length bytes ≤ i → hex_of (drop i bytes) ≡ []
unfolding hex_of
none_behind bytes i h = rw (drop_all i bytes h)

pub loop-b-preserved : goal.loop-b-preserved
loop-b-preserved c = less_left (less_left c.loop-b.invariant c.put_byte-next.ensures (next _ _ _ _ c.loop-b-test.true c.hex_digit.ensures c.hex_digit-in-loop-b.ensures)) c.put_byte-end.ensures refl

pub returns : goal.returns
returns c = search (rules, all_put, none_behind)
