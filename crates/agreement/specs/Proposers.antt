-- What a proposer notes, drops and tells keeps the plant tied to the core: promises are grants, yeses are acceptances, and a success or failed compare speaks of a majority.
-- Assumes nothing.
use Rattle.std.specs.Prelude.{◌≡◌, refl, ◌⊎◌, Bool, true, false, cond, not, List, [], ◌∷◌, ◌++◌, ℕ, ◌≤◌}
use Rattle.std.proofs.Common.{sym, ◌∙◌, subst, inl, inr, arith}
use Rattle.std.proofs.Math.Path.{ap}
use Rattle.std.proofs.lemmas.Bool.{false≢true}
use mathlib.Core.List.Memᴰ
use Rattle.std.specs.Prelude.{Option, None, Some}
use Rattle.messages.specs.declared.Ballot.{Ballot}
use Rattle.messages.specs.Ballots.{above}
use Rattle.messages.specs.Message.{Key, Value, Request, Failure, Reply, Message}
use Rattle.messages.specs.Answers.{Row}
use Rattle.proposer_rules.specs.State.{Phase, Propose, Accept, Pending, Proposer, key_of, with_no, with_yes}
use Rattle.proposer_rules.specs.Rules.{reached, same_value, applied, reply_of, replace_at, to_each, all_timeouts, moved, promised_by}
use Rattle.agreement.specs.Members.{either, In, SomeOf, all_cons, all_append, Distinct, none_yet, one_more, distinct_append}
use Rattle.agreement.specs.Order.{plant_order, NotAbove, itself, below_not_above, not_above_trans}
use Rattle.agreement.specs.Majority.{SameSet, Majority, same_majority, reached_majority}
use Rattle.agreement.specs.Core.{made, chosen, valve, AcceptedBy, AtStart, Accepted}
use Rattle.agreement.specs.Plant.{Party, proposer, Frame, Plant, address, with_party, to_entries, to_rows, sent_by, Speaks}
use Rattle.agreement.specs.Outcomes.{Waiting}
use Rattle.agreement.specs.Places.{none_not_some, some_same, listed_in, not_listed, found_there, in_replaced, apart_replaced}
use Rattle.agreement.specs.Link.{Use, Past, holds_of, Means, First, Second, Stage, PendingOk, ProposerOk, Tied, party_each}
use Rattle.agreement.specs.Acceptors.{core_kept}

pub proposer_same : {P Q : Proposer} → proposer P ≡ proposer Q → P ≡ Q
proposer_same e = cc

pub flip : {l m : List ℕ} → SameSet l m → SameSet m l
flip e = record { to = e.fro; fro = e.to }

-- a compare that fails keeps the value
failed_keeps : (r : Request) (v : Option Value) → (applied r v).failed ≡ true → made r v ≡ v
failed_keeps (Request.Get k) v e = refl
failed_keeps (Request.Del k) v e = absurd (false≢true e)
failed_keeps (Request.Set k w) v e = absurd (false≢true e)
failed_keeps (Request.Cas k old new) v e = go (same_value old v) e
  where
    go : (b : Bool) → not b ≡ true → cond b new v ≡ v
    go true e = absurd (false≢true e)
    go false e = refl

-- ---- what is sent

-- one message to each entry of a list
entries_each : (X : Frame → Type 0) (p : ℕ) (l : List ℕ) (m : Message) → ((a : ℕ) → X (record { from = p; to = a; message = m })) → (f : Frame) → In f (to_entries p l m) → X f
unfolding to_entries
entries_each X p [] m each-one f n = absurd (Memᴰ.not-nil n)
entries_each X p (a ∷ l) m each-one f n = all_cons {P = X} (each-one a) (entries_each X p l m each-one) f n

pub to_each_lem : (X : Frame → Type 0) (p : ℕ) (l : List ℕ) (m : Message) → ((a : ℕ) → X (record { from = p; to = a; message = m })) → (f : Frame) → In f (sent_by p (to_each l m)) → X f
unfolding sent_by
to_each_lem X p [] m each-one f n = absurd (Memᴰ.not-nil n)
to_each_lem X p (a ∷ l) m each-one f n = entries_each X p (a ∷ l) m each-one f n

-- a row of timeouts
rows_each : (X : Frame → Type 0) (p : ℕ) (rs : List Row) → ((a id : ℕ) → X (record { from = p; to = a; message = Message.ClientResponse id (Reply.Failed Failure.Timeout) })) → (f : Frame) → In f (to_rows p rs) → X f
unfolding to_rows
rows_each X p [] each-one f n = absurd (Memᴰ.not-nil n)
rows_each X p (r ∷ rs) each-one f n = all_cons {P = X} (each-one r.client.0 r.id) (rows_each X p rs each-one) f n

pub to_rows_lem : (X : Frame → Type 0) (p : ℕ) (rs : List Row) → ((a id : ℕ) → X (record { from = p; to = a; message = Message.ClientResponse id (Reply.Failed Failure.Timeout) })) → (f : Frame) → In f (sent_by p (all_timeouts rs)) → X f
unfolding sent_by
to_rows_lem X p [] each-one f n = absurd (Memᴰ.not-nil n)
to_rows_lem X p (r ∷ rs) each-one f n = rows_each X p (r ∷ rs) each-one f n

module _ (fixed : List ℕ) (s : Plant) (h : Past) (tie : Tied fixed s h) (p : ℕ) (P : Proposer) (here : s.party p ≡ proposer P) where
  pub its_ok : ProposerOk fixed s h p P
  its_ok = tie.proposers p P here

  abbrev pub after : Proposer → ℕ → Party
  after P' = with_party s.party p (proposer P')

  pub held_kept : (P' : Proposer) (x : ℕ) (k : Key) → holds_of (after P' x) k ≡ holds_of (s.party x) k
  unfolding holds_of
  held_kept P' = party_each (λ x Q. (k : Key) → holds_of Q k ≡ holds_of (s.party x) k) s.party p (proposer P') (λ k. ap (λ (Q : Party). holds_of Q k) (sym here)) (λ x ne k. refl)

  -- the proposer changes and the core stays
  pub core_stays : (P' : Proposer) (frames : List Frame) → ProposerOk fixed s h p P' → ((f : Frame) → In f frames → Means fixed s h f f.message) → Tied fixed (record { party = after P'; frames = frames ++ s.frames; arrivals = s.arrivals; acceptances = s.acceptances }) h
  core_stays P' frames ok new =
      core_kept fixed s h tie (after P') frames (held_kept P')
      (party_each (λ x Q. (R : Proposer) → Q ≡ proposer R → ProposerOk fixed s h x R) s.party p (proposer P') (λ R e. subst (ProposerOk fixed s h p) (proposer_same e) ok) (λ x ne R e. tie.proposers x R e))
      new

  -- one request becomes another at its ballot, or is dropped, and the counter is not lower
  pub replaced_ok : (c : ℕ) (b : Ballot) (o : Option Pending) → P.counter ≤ c → ((q : Pending) → o ≡ Some q → PendingOk fixed s h p q) → ((q : Pending) → o ≡ Some q → q.ballot ≡ b) → ProposerOk fixed s h p (moved P c (replace_at b o P.places))
  replaced_ok c b o more new at = record {
    accept_set = its_ok.accept_set;
    propose_set = its_ok.propose_set;
    counted = λ u m e. let low = its_ok.counted u m e in omega (arith, more);
    apart = apart_replaced b o P.places its_ok.apart (λ q e x m ne d. ne (d ∙ at q e));
    pending = λ x m. either (in_replaced b o P.places its_ok.apart x m) (new x) (λ r. its_ok.pending x r.0);
  }

  pub dropped_ok : (c : ℕ) (b : Ballot) → P.counter ≤ c → ProposerOk fixed s h p (moved P c (replace_at b None P.places))
  dropped_ok c b more = replaced_ok c b None more (λ q e. absurd (none_not_some e)) (λ q e. absurd (none_not_some e))

  pub noted_ok : (c : ℕ) (q : Pending) → P.counter ≤ c → PendingOk fixed s h p q → ProposerOk fixed s h p (moved P c (replace_at q.ballot (Some q) P.places))
  noted_ok c q more ok = replaced_ok c q.ballot (Some q) more (λ x e. subst (PendingOk fixed s h p) (some_same e) ok) (λ x e. ap (λ (y : Pending). y.ballot) (sym (some_same e)))

  -- ---- an answer to a request that waits for it

  module _ (from t : ℕ) (b : Ballot) (f : Phase) (q : Pending) (w : Waiting P (address from) t b f q) where
    pub was : PendingOk fixed s h p q
    was = its_ok.pending q (found_there b P.places q w.found).0

    pub its_ballot : q.ballot ≡ b
    its_ballot = (found_there b P.places q w.found).1

    pub its_stage : Stage fixed s h p q f
    its_stage = subst (Stage fixed s h p q) w.phase was.stage

    pub answered_once : Distinct (q.acks_from ++ (from ∷ []))
    answered_once =
        distinct_append was.once (one_more (λ m. Memᴰ.not-nil m) none_yet)
        (λ a m n. either (Memᴰ.cases_cons n) (λ e. not_listed from q.acks_from w.silent (Memᴰ.cast (sym e) m)) (λ k. Memᴰ.not-nil k))

    pub answered_inside : (a : ℕ) → In a (q.acks_from ++ (from ∷ [])) → In a q.waiting_for
    answered_inside = all_append {P = λ a. In a q.waiting_for} q.acks_from was.inside (all_cons {P = λ a. In a q.waiting_for} (listed_in from q.waiting_for w.waited) (λ a m. absurd (Memᴰ.not-nil m)))

    -- a no
    pub no_ok : PendingOk fixed s h p (with_no q (address from))
    no_ok = record {
      its = was.its;
      used = was.used;
      by = was.by;
      ballot = was.ballot;
      client = was.client;
      id = was.id;
      request = was.request;
      latest = was.latest;
      once = was.once;
      inside = was.inside;
      set = was.set;
      stage = go q.phase was.stage;
    }
      where
        go : (g : Phase) → Stage fixed s h p q g → Stage fixed s h p (with_no q (address from)) g
        go Propose x = record { unchosen = x.unchosen; backed = x.backed; origin = x.origin }
        go Accept x = record { chose = x.chose; agreed = x.agreed }

    -- a yes, with the promise that the request then has
    yes_ok : (x : Ballot) (v : Option Value) → Stage fixed s h p (with_yes q (address from) x v) f → PendingOk fixed s h p (with_yes q (address from) x v)
    yes_ok x v stage = record {
      its = was.its;
      used = was.used;
      by = was.by;
      ballot = was.ballot;
      client = was.client;
      id = was.id;
      request = was.request;
      latest = was.latest;
      once = answered_once;
      inside = answered_inside;
      set = was.set;
      stage = subst (Stage fixed s h p (with_yes q (address from) x v)) (sym w.phase) stage;
    }

    -- a majority of yeses is one of the fixed set
    pub yes_majority : reached (q.acks_from ++ (from ∷ [])) q.waiting_for ≡ true → Majority fixed (q.acks_from ++ (from ∷ []))
    yes_majority e = same_majority (flip was.set) (reached_majority q.waiting_for (q.acks_from ++ (from ∷ [])) answered_once answered_inside e)

  -- ---- a promise

  module _ (from t : ℕ) (b a : Ballot) (v : Option Value) (q : Pending) (w : Waiting P (address from) t b Propose q) (g : SomeOf h.grants (λ g. (g.who ≡ from) × (g.to ≡ p) × (g.ballot ≡ b) × (g.had ≡ a) × (g.value ≡ v))) where
    asked_before : PendingOk fixed s h p q
    asked_before = was from t b Propose q w

    in_first_lem : First fixed s h p q
    in_first_lem = its_stage from t b Propose q w

    -- the grant is for the request's own key
    grant_key : g.it.key ≡ key_of q.req
    grant_key =
        let u = tie.grant_use g.it g.at in
        let e : u.it ≡ asked_before.its = tie.used_once u.it asked_before.its u.at asked_before.used (u.is.0 ∙ g.is.1 ∙ sym asked_before.by) (u.is.1 ∙ g.is.2 ∙ sym (its_ballot from t b Propose q w) ∙ sym asked_before.ballot) in
        sym u.is.2 ∙ ap (λ (x : Use). key_of x.arrival.request) e ∙ ap key_of asked_before.request

    grant_origin : AtStart plant_order a v ⊎ (plant_order.Below a q.ballot × Accepted plant_order s.acceptances (key_of q.req) a v)
    grant_origin =
        let o = tie.core.grant g.it g.at in
        either o.origin
        (λ z. inl (sym g.is.3 ∙ z.0, sym g.is.4 ∙ z.1))
        (λ x.
        let below : plant_order.Below a q.ballot = rw (its_ballot from t b Propose q w, ← g.is.3, ← g.is.2) o.earlier in
        inr (below, record { it = x.it; at = x.at; is = (x.is.1 ∙ grant_key, x.is.2 ∙ g.is.3, x.is.3 ∙ g.is.4) }))

    -- the new yes is backed, whatever promise from its own on the request keeps
    new_backed : (x : Ballot) → NotAbove plant_order a x → SomeOf h.grants (λ g. (g.who ≡ from) × (g.to ≡ p) × (g.key ≡ key_of q.req) × (g.ballot ≡ q.ballot) × NotAbove plant_order g.had x)
    new_backed x le = record { it = g.it; at = g.at; is = (g.is.0, g.is.1, grant_key, g.is.2 ∙ sym (its_ballot from t b Propose q w), rw g.is.3 le) }

    pub promised_ok : PendingOk fixed s h p (promised_by q (address from) a v)
    promised_ok = go (above a q.promised) refl
      where
        go : (k : Bool) → above a q.promised ≡ k → PendingOk fixed s h p (cond k (with_yes q (address from) a v) (with_yes q (address from) q.promised q.value))
        go true e = yes_ok from t b Propose q w a v (record {
          unchosen = in_first_lem.unchosen;
          backed = all_append {P = λ c. SomeOf h.grants (λ g. (g.who ≡ c) × (g.to ≡ p) × (g.key ≡ key_of q.req) × (g.ballot ≡ q.ballot) × NotAbove plant_order g.had a)} q.acks_from
              (λ c m.
              let u = in_first_lem.backed c m in
              record { it = u.it; at = u.at; is = (u.is.0, u.is.1, u.is.2, u.is.3, not_above_trans plant_order {x = u.it.had} {y = q.promised} {z = a} u.is.4 (below_not_above plant_order {x = q.promised} {y = a} e)) })
              (all_cons (new_backed a (itself plant_order a)) (λ c m. absurd (Memᴰ.not-nil m)));
          origin = grant_origin;
        })
        go false e = yes_ok from t b Propose q w q.promised q.value (record {
          unchosen = in_first_lem.unchosen;
          backed = all_append {P = λ c. SomeOf h.grants (λ g. (g.who ≡ c) × (g.to ≡ p) × (g.key ≡ key_of q.req) × (g.ballot ≡ q.ballot) × NotAbove plant_order g.had q.promised)} q.acks_from in_first_lem.backed (all_cons (new_backed q.promised (λ d. false≢true (sym e ∙ d))) (λ c m. absurd (Memᴰ.not-nil m)));
          origin = in_first_lem.origin;
        })

  -- ---- an acceptance

  module _ (from t : ℕ) (b : Ballot) (q : Pending) (w : Waiting P (address from) t b Accept q) (x : SomeOf h.choices (λ c. (c.by ≡ p) × (c.ballot ≡ b) × AcceptedBy plant_order s.acceptances from (valve plant_order c) b (chosen plant_order c))) where
    chosen_before : PendingOk fixed s h p q
    chosen_before = was from t b Accept q w

    in_second_lem : Second fixed s h p q
    in_second_lem = its_stage from t b Accept q w

    new_agreed : AcceptedBy plant_order s.acceptances from (key_of q.req) q.ballot (made q.req q.value)
    new_agreed =
        let d = in_second_lem.chose in
        let e : x.it ≡ d.it = tie.core.single x.it d.it x.at d.at (x.is.0 ∙ sym d.is.0) (x.is.1 ∙ sym (its_ballot from t b Accept q w) ∙ sym d.is.1) in
        let y = x.is.2 in
        let its-value : chosen plant_order x.it ≡ made q.req q.value = ap (chosen plant_order) e ∙ ap (λ (r : Request). made r d.it.old) d.is.2 ∙ ap (made q.req) d.is.3 in
        record { it = y.it; at = y.at; is = (y.is.0, y.is.1 ∙ ap (valve plant_order) e ∙ ap key_of d.is.2, y.is.2 ∙ sym (its_ballot from t b Accept q w), y.is.3 ∙ its-value) }

    all_agreed : (a : ℕ) → In a (q.acks_from ++ (from ∷ [])) → AcceptedBy plant_order s.acceptances a (key_of q.req) q.ballot (made q.req q.value)
    all_agreed = all_append {P = λ a. AcceptedBy plant_order s.acceptances a (key_of q.req) q.ballot (made q.req q.value)} q.acks_from in_second_lem.agreed (all_cons new_agreed (λ c m. absurd (Memᴰ.not-nil m)))

    pub accepted_ok : PendingOk fixed s h p (with_yes q (address from) q.promised q.value)
    accepted_ok = yes_ok from t b Accept q w q.promised q.value (record { chose = in_second_lem.chose; agreed = all_agreed })

    -- what the client is told
    module _ (enough : reached (q.acks_from ++ (from ∷ [])) q.waiting_for ≡ true) where
      abbrev answer_frame : Reply → Frame
      answer_frame r = record { from = p; to = q.client.0; message = Message.ClientResponse q.id r }

      speaks : (r : Reply) → r ≡ reply_of q.req q.value → (v : Option Value) → v ≡ made q.req q.value → Speaks fixed s (answer_frame (reply_of q.req q.value)) q.id v r
      speaks r er v ev =
          let u = tie.arrived chosen_before.its chosen_before.used in
          let er' = chosen_before.request in
          record {
            arrival = chosen_before.its.arrival;
            arrived = u.0;
            its_client = chosen_before.client;
            its_proposer = u.1 ∙ chosen_before.by;
            its_id = chosen_before.id;
            old = q.value;
            reply = er ∙ ap (λ (x : Request). reply_of x q.value) (sym er');
            value = ev ∙ ap (λ (x : Request). made x q.value) (sym er');
            ballot = q.ballot;
            accepted = record {
              voters = q.acks_from ++ (from ∷ []);
              majority = yes_majority from t b Accept q w enough;
              all = λ a m. rw (er', ev) (all_agreed a m);
            };
          }

      pub told : Means fixed s h (answer_frame (reply_of q.req q.value)) (Message.ClientResponse q.id (reply_of q.req q.value))
      told = go (applied q.req q.value).failed refl
        where
          go : (k : Bool) → (applied q.req q.value).failed ≡ k → Means fixed s h (answer_frame (reply_of q.req q.value)) (Message.ClientResponse q.id (cond k (Reply.Failed (Failure.CasFailed q.value)) (Reply.Done (made q.req q.value))))
          go true e = speaks (Reply.Failed (Failure.CasFailed q.value)) (rw e) q.value (sym (failed_keeps q.req q.value e))
          go false e = speaks (Reply.Done (made q.req q.value)) (rw e) (made q.req q.value) refl
