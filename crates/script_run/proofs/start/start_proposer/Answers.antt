-- `script_run::start::start_proposer` meets its contract: a fresh party, and its start unless there was no room for it.
-- Assumes nothing.
use Rattle.std.proofs.Common.{◌≡◌, sym, ap, ◌∙◌, true, false, List, [], ℕ, ◌+◌, ◌*◌, ◌≤◌, ◌<◌, lt-ltb, le-ltb, take}
use Rattle.proposer.specs.Contract.{start_on}
use Rattle.script_words.specs.LentLaws.{Put, joined}
use Rattle.script_run.specs.declared.run.Party.{Party}
use Rattle.script_run.specs.declared.run.Run.{Run}
use Rattle.script_run.specs.Run.{put_up_to}
use Rattle.script_run.specs.Obeyed.{Ran, ran, unreadable, fresh_in, started_by, opened_by, proposer_in, Held, Stepped}
use Rattle.script_run.specs.Laws.{first_of, second_of}
use Rattle.script_run.proofs.start.start_proposer.Goals as goal

too_many : (s r : Run) (t a out out' list : List ℕ) (line places timeout : ℕ) → 60 < places → Stepped s out (unreadable s t a line) r t a out' → Stepped s out (proposer_in s t a line places timeout list) r t a out'
unfolding proposer_in
too_many s r t a out out' list line places timeout h k = rw (lt-ltb 60 places h) k

-- no room: the run is over
over_already : (s r : Run) (out t' a' out' list : List ℕ) (timeout : ℕ) (o : Ran) → Stepped s out o r t' a' out' → r.ended ≡ true → Stepped s out (opened_by o timeout list) r t' a' out'
over_already s r out t' a' out' list timeout o k e =
    first_of s r out t' a' out' o.run.ended o _ (sym (ap (λ (x : Run). x.ended) k.run) ∙ e) k

-- the start's text is put behind what the fresh party put out
opened : (s u r : Run) (out t' a' o1 t'' out' list : List ℕ) (timeout : ℕ) (o : Ran) → Stepped s out o u t' a' o1 → u.ended ≡ false → Stepped u o1 (started_by (ran u t' a' []) (start_on (take u.bytes t') u.capacity timeout list)) r t'' a' out' → Stepped s out (opened_by o timeout list) r t'' a' out'
opened s u r out t' a' o1 t'' out' list timeout o k e q =
    second_of s r out t'' a' out' o.run.ended _ _ (sym (ap (λ (x : Run). x.ended) k.run) ∙ e)
    (both o.run u.at u k.run o.table k.table o.area k.area k.put q)
  where
    both : (v : Run) (at : ℕ) (w : Run) → w ≡ put_up_to v at → (x : List ℕ) → t' ≡ x → (y : List ℕ) → a' ≡ y → Put out s.at o.text at o1 → Stepped w o1 (started_by (ran w t' a' []) (start_on (take w.bytes t') w.capacity timeout list)) r t'' a' out' → Stepped s out (started_by (ran v x y o.text) (start_on (take v.bytes x) v.capacity timeout list)) r t'' a' out'
    both v at w ew x ex y ey p z =
        let f : Stepped (put_up_to v at) o1 (started_by (ran (put_up_to v at) t' a' []) (start_on (take v.bytes t') v.capacity timeout list)) r t'' a' out' = rw ew at z in
        rw (← ex, ← ey) (record { run = f.run; table = f.table; area = f.area; put = joined p f.put; held = f.held })

few : (s r : Run) (t a out t' a' out' list : List ℕ) (line places timeout : ℕ) → places ≤ 60 → Stepped s out (opened_by (fresh_in s t a line Party.Proposer places (80 + 976 * places) (350 + 10 * places)) timeout list) r t' a' out' → Stepped s out (proposer_in s t a line places timeout list) r t' a' out'
unfolding proposer_in
few s r t a out t' a' out' list line places timeout h k = rw (le-ltb 60 places h) k

unopened : (s r : Run) (t a out t' a' out' list : List ℕ) (line places timeout : ℕ) → places ≤ 60 → Stepped s out (fresh_in s t a line Party.Proposer places (80 + 976 * places) (350 + 10 * places)) r t' a' out' → r.ended ≡ true → Stepped s out (proposer_in s t a line places timeout list) r t' a' out'
unopened s r t a out t' a' out' list line places timeout h k e =
    few s r t a out t' a' out' list line places timeout h (over_already s r out t' a' out' list timeout (fresh_in s t a line Party.Proposer places (80 + 976 * places) (350 + 10 * places)) k e)

begun : (s u r : Run) (t a out t' a' o1 t'' out' list : List ℕ) (line places timeout : ℕ) → places ≤ 60 → Stepped s out (fresh_in s t a line Party.Proposer places (80 + 976 * places) (350 + 10 * places)) u t' a' o1 → u.ended ≡ false → Stepped u o1 (started_by (ran u t' a' []) (start_on (take u.bytes t') u.capacity timeout list)) r t'' a' out' → Stepped s out (proposer_in s t a line places timeout list) r t'' a' out'
begun s u r t a out t' a' o1 t'' out' list line places timeout h k e q =
    few s r t a out t'' a' out' list line places timeout h (opened s u r out t' a' o1 t'' out' list timeout (fresh_in s t a line Party.Proposer places (80 + 976 * places) (350 + 10 * places)) k e q)

held_fresh : (s u : Run) (out t' a' o1 : List ℕ) (o : Ran) → Stepped s out o u t' a' o1 → Held u t' a' o1
held_fresh s u out t' a' o1 o k = k.held

pub returns-then-places-gt-PLACES_ROOM : goal.returns-then-places-gt-PLACES_ROOM
returns-then-places-gt-PLACES_ROOM c = search too_many depth 12

pub returns-then-begun : goal.returns-then-begun
returns-then-begun c = search unopened depth 12

pub open_proposer-requires : goal.open_proposer-requires
open_proposer-requires c = search held_fresh

pub returns : goal.returns
returns c = search begun depth 12
