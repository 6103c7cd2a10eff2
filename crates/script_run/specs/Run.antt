-- Where a run of a script stands, and how a step changes it.
-- Assumes nothing.
use Rattle.std.specs.Prelude.{true, false, ℕ, max, Option, None, Some}
use Rattle.script_run.specs.declared.run.Party.{Party}
use Rattle.script_run.specs.declared.run.Run.{Run}

abbrev pub fresh : Run
fresh = record {
  party = None;
  clock = 0;
  capacity = 0;
  bytes = 0;
  area = 0;
  reach = 0;
  at = 0;
  ended = false;
}

-- the output is written up to a place
abbrev pub put_up_to : Run → ℕ → Run
put_up_to s at = record {
  party = s.party;
  clock = s.clock;
  capacity = s.capacity;
  bytes = s.bytes;
  area = s.area;
  reach = s.reach;
  at = at;
  ended = s.ended;
}

-- messages carry this time from now on
abbrev pub timed : Run → ℕ → Run
timed s time = record {
  party = s.party;
  clock = time;
  capacity = s.capacity;
  bytes = s.bytes;
  area = s.area;
  reach = s.reach;
  at = s.at;
  ended = s.ended;
}

-- the table may hold anything up to a place
abbrev pub reached : Run → ℕ → Run
reached s to = record {
  party = s.party;
  clock = s.clock;
  capacity = s.capacity;
  bytes = s.bytes;
  area = s.area;
  reach = max s.reach to;
  at = s.at;
  ended = s.ended;
}

-- this party is there, and the table is zeros throughout
abbrev pub begun : Run → Party → Run
begun s party = record {
  party = Some party;
  clock = s.clock;
  capacity = s.capacity;
  bytes = s.bytes;
  area = s.area;
  reach = 0;
  at = s.at;
  ended = s.ended;
}

-- the party is lent this from now on
abbrev pub lending : Run → ℕ → ℕ → ℕ → Run
lending s capacity bytes area = record {
  party = s.party;
  clock = s.clock;
  capacity = capacity;
  bytes = bytes;
  area = area;
  reach = max s.reach bytes;
  at = s.at;
  ended = s.ended;
}

-- the table is zeros throughout
abbrev pub cleared : Run → Run
cleared s = record {
  party = s.party;
  clock = s.clock;
  capacity = s.capacity;
  bytes = s.bytes;
  area = s.area;
  reach = 0;
  at = s.at;
  ended = s.ended;
}

-- this party, or none, is lent this from now on
abbrev pub lending_to : Run → Option Party → ℕ → ℕ → ℕ → Run
lending_to s party capacity bytes area = record {
  party = party;
  clock = s.clock;
  capacity = capacity;
  bytes = bytes;
  area = area;
  reach = max s.reach bytes;
  at = s.at;
  ended = s.ended;
}

abbrev pub over : Run → Run
over s = record {
  party = s.party;
  clock = s.clock;
  capacity = s.capacity;
  bytes = s.bytes;
  area = s.area;
  reach = s.reach;
  at = s.at;
  ended = true;
}
