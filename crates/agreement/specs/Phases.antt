-- The two steps of a proposer that reach the core keep the plant tied to it: a majority of promises makes a choice, and a request gets a ballot that the proposer never used.
-- Assumes nothing.
use Rattle.std.specs.Prelude.{◌≡◌, refl, ◌⊎◌, Bool, true, List, ◌∷◌, ◌++◌, ℕ, ◌+◌, ◌≤◌}
use Rattle.std.proofs.Common.{sym, ◌∙◌, ap, subst, inl, inr, arith}
use mathlib.Core.List.Memᴰ
use Rattle.std.specs.Prelude.{Option, Some}
use Rattle.messages.specs.declared.Address.{Address}
use Rattle.messages.specs.Ballots.{above}
use Rattle.messages.specs.Message.{Request, Message}
use Rattle.proposer_rules.specs.State.{Propose, Pending, Proposer, key_of}
use Rattle.proposer_rules.specs.Rules.{reached, next_ballot, replace_at, to_each, moved, asked, proposals, to_accept}
use Rattle.agreement.specs.Members.{either, In, some_head, some_cons, all_cons, all_append, pair_cons, none_yet}
use Rattle.agreement.specs.Order.{plant_order, NotAbove, itself, below_not_above, not_above_both, counter_of, next_above, next_counted}
use Rattle.agreement.specs.Majority.{Majority, someone, same_majority, reached_majority}
use Rattle.agreement.specs.Core.{made, Choice, ChoiceOk, choose_sound}
use Rattle.agreement.specs.Plant.{proposer, Arrival, Plant, sent_by}
use Rattle.agreement.specs.Places.{some_same, Apart, in_replaced, apart_replaced}
use Rattle.agreement.specs.Link.{Use, Past, holds_of, core_of, Means, First, Stage, PendingOk, ProposerOk, ChoiceUse, Tied, Grows, means_grows, pending_grows, party_each, sound_same}
use Rattle.agreement.specs.Proposers.{flip, proposer_same, to_each_lem, its_ok, after, held_kept}

module _ (fixed : List ℕ) (s : Plant) (h : Past) (tie : Tied fixed s h) where
  -- an arrival is served by the proposer that it came to
  server : (u w : Use) → In u h.uses → In w h.uses → u.arrival.number ≡ w.arrival.number → u.by ≡ w.by
  server u w m n e =
      let a = tie.arrived u m in
      let b = tie.arrived w n in
      let same : u.arrival ≡ w.arrival = tie.number_once u.arrival w.arrival a.0 b.0 e in
      sym a.1 ∙ ap (λ (x : Arrival). x.at) same ∙ b.1

  -- two pending requests of one arrival are at one ballot of one proposer
  pub one_pending : (p r : ℕ) (q y : Pending) (o : PendingOk fixed s h p q) (x : PendingOk fixed s h r y) → x.its.arrival.number ≡ o.its.arrival.number → (r ≡ p) × (y.ballot ≡ q.ballot)
  one_pending p r q y o x e = (
    sym x.by ∙ server x.its o.its x.used o.used e ∙ o.by,
    not_above_both plant_order {x = y.ballot} {y = q.ballot} (subst (λ b. NotAbove plant_order b q.ballot) x.ballot (o.latest x.its x.used e)) (subst (λ b. NotAbove plant_order b y.ballot) o.ballot (x.latest o.its o.used (sym e))),
  )

  -- a request in its first phase has made no choice, at any ballot
  pub no_choice : (p : ℕ) (q : Pending) (o : PendingOk fixed s h p q) → First fixed s h p q → (d : Choice plant_order) → In d h.choices → d.arrival ≡ o.its.arrival.number → ⊥
  no_choice p q o first d m e =
      let u = tie.choice_use d m in
      let its-number : u.its.arrival.number ≡ o.its.arrival.number = u.number ∙ e in
      let by : d.by ≡ p = sym u.by ∙ server u.its o.its u.used o.used its-number ∙ o.by in
      let low : NotAbove plant_order d.ballot q.ballot = subst (λ b. NotAbove plant_order b q.ballot) u.ballot (o.latest u.its u.used its-number) in
      let high : NotAbove plant_order q.ballot d.ballot = subst (λ b. NotAbove plant_order b d.ballot) o.ballot (u.latest o.its o.used (sym e)) in
      first.unchosen d m by (not_above_both plant_order {x = d.ballot} {y = q.ballot} low high)

-- ---- a majority of promises

module _ (fixed : List ℕ) (s : Plant) (h : Past) (tie : Tied fixed s h) (p : ℕ) (P : Proposer) (here : s.party p ≡ proposer P) (q : Pending) (ok : PendingOk fixed s h p q) (in_first_lem : q.phase ≡ Propose) (enough : reached q.acks_from q.waiting_for ≡ true) where
  first : First fixed s h p q
  first = subst (Stage fixed s h p q) in_first_lem ok.stage

  most : Majority fixed q.acks_from
  most = same_majority (flip ok.set) (reached_majority q.waiting_for q.acks_from ok.once ok.inside enough)

  abbrev new_choice : Choice plant_order
  new_choice = record { by = p; ballot = q.ballot; request = q.req; arrival = ok.its.arrival.number; source = q.promised; old = q.value }

  positive : plant_order.Below plant_order.zero q.ballot
  positive =
      let x = someone most in
      let g = first.backed x.who x.there in
      subst (plant_order.Below plant_order.zero) g.is.3 (tie.core.grant g.it g.at).positive

  choice_ok : ChoiceOk plant_order (Majority fixed) h.grants s.acceptances new_choice
  choice_ok = record {
    voters = q.acks_from;
    quorum = most;
    backed = first.backed;
    rises = either first.origin (λ z. subst (λ b. plant_order.Below b q.ballot) (sym z.0) positive) (λ w. w.0);
    origin = either first.origin (λ z. inl z) (λ w. inr w.1);
  }

  abbrev chosen_state : Proposer
  chosen_state = moved P P.counter (replace_at q.ballot (Some (to_accept P q)) P.places)

  abbrev pub chosen_plant : Plant
  chosen_plant = record { party = after fixed s h tie p P here chosen_state; frames = sent_by p (to_each P.accept_acceptors (Message.AcceptReq q.ballot (key_of q.req) (made q.req q.value))) ++ s.frames; arrivals = s.arrivals; acceptances = s.acceptances }

  abbrev pub chosen_past : Past
  chosen_past = record { grants = h.grants; choices = new_choice ∷ h.choices; uses = h.uses }

  choice_grows : Grows fixed s h chosen_plant chosen_past
  choice_grows = record { arrivals = λ _ m. m; acceptances = λ _ m. m; grants = λ _ m. m; choices = λ _ m. Memᴰ.tail m; uses = λ _ m. m }

  accepting : PendingOk fixed chosen_plant chosen_past p (to_accept P q)
  accepting = record {
    its = ok.its;
    used = ok.used;
    by = ok.by;
    ballot = ok.ballot;
    client = ok.client;
    id = ok.id;
    request = ok.request;
    latest = ok.latest;
    once = none_yet;
    inside = λ a m. absurd (Memᴰ.not-nil m);
    set = (its_ok fixed s h tie p P here).accept_set;
    stage = record { chose = some_head (refl, refl, refl, refl); agreed = λ a m. absurd (Memᴰ.not-nil m) };
  }

  -- the proposer itself, and every other
  chosen_here : ProposerOk fixed chosen_plant chosen_past p chosen_state
  chosen_here =
      let was = its_ok fixed s h tie p P here in
      record {
        accept_set = was.accept_set;
        propose_set = was.propose_set;
        counted = was.counted;
        apart = apart_replaced q.ballot (Some (to_accept P q)) P.places was.apart (λ x e y m ne d. ne (d ∙ ap (λ (z : Pending). z.ballot) (sym (some_same e))));
        pending = λ y m. either (in_replaced q.ballot (Some (to_accept P q)) P.places was.apart y m)
            (λ e. subst (PendingOk fixed chosen_plant chosen_past p) (some_same e) accepting)
            (λ r.
            let o = was.pending y r.0 in
            pending_grows fixed choice_grows p y (all_cons (λ _ d. absurd (r.1 (sym d))) (λ c n _ _. n)) o o.latest);
      }

  chosen_there : (x : ℕ) → (x ≡ p → ⊥) → (R : Proposer) → s.party x ≡ proposer R → ProposerOk fixed chosen_plant chosen_past x R
  chosen_there x ne R e =
      let was = tie.proposers x R e in
      record {
        accept_set = was.accept_set;
        propose_set = was.propose_set;
        counted = was.counted;
        apart = was.apart;
        pending = λ y m.
            let o = was.pending y m in
            pending_grows fixed choice_grows x y (all_cons (λ d _. absurd (ne (sym d))) (λ c n _ _. n)) o o.latest;
      }

  keep_use : (c : Choice plant_order) → ChoiceUse fixed h c → ChoiceUse fixed chosen_past c
  keep_use c u = record { its = u.its; used = u.used; by = u.by; ballot = u.ballot; number = u.number; request = u.request; latest = u.latest }

  pub chosen_tied : Tied fixed chosen_plant chosen_past
  chosen_tied = record {
    core = sound_same (Majority fixed) (λ a. holds_of (s.party a)) (λ a. holds_of (chosen_plant.party a)) h.grants (new_choice ∷ h.choices) s.acceptances (held_kept fixed s h tie p P here chosen_state) (choose_sound plant_order (Majority fixed) (core_of s h) tie.core new_choice choice_ok first.unchosen (no_choice fixed s h tie p q ok first));
    proposers = party_each (λ x Q. (R : Proposer) → Q ≡ proposer R → ProposerOk fixed chosen_plant chosen_past x R) s.party p (proposer chosen_state) (λ R e. subst (ProposerOk fixed chosen_plant chosen_past p) (proposer_same e) chosen_here) chosen_there;
    sent = all_append {P = λ f. Means fixed chosen_plant chosen_past f f.message} _ (to_each_lem (λ f. Means fixed chosen_plant chosen_past f f.message) p P.accept_acceptors _ (λ a. some_head (refl, refl, refl, refl))) (λ f m. means_grows fixed choice_grows f f.message (tie.sent f m));
    arrived = tie.arrived;
    used_once = tie.used_once;
    grant_use = tie.grant_use;
    choice_use = all_cons (record { its = ok.its; used = ok.used; by = ok.by; ballot = ok.ballot; number = refl; request = ok.request; latest = ok.latest }) (λ c m. keep_use c (tie.choice_use c m));
    numbered = tie.numbered;
    number_once = tie.number_once;
  }

-- ---- a new ballot

module _ (fixed : List ℕ) (s : Plant) (h : Past) (tie : Tied fixed s h) (p : ℕ) (P : Proposer) (here : s.party p ≡ proposer P) (c : ℕ) (more : P.counter ≤ c) where
  -- the ballot after the counter is new
  pub unused : (u : Use) → In u h.uses → u.by ≡ p → u.ballot ≡ next_ballot c → ⊥
  unused u m e d =
      let low = (its_ok fixed s h tie p P here).counted u m e in
      plant_order.irreflexive (next_ballot c) (subst (λ b. above (next_ballot c) b ≡ true) d (next_above u.ballot c (omega (arith, more))))

  module _ (x : Arrival) (came : In x s.arrivals) (at : x.at ≡ p) (client : Address) (id : ℕ) (req : Request) (time : ℕ) (again : Bool) (its_client : x.client ≡ client.0) (its_id : x.id ≡ id) (its_request : x.request ≡ req) (places : List (Option Pending)) (apart : Apart places) (member : (y : Pending) → In (Some y) places → (y ≡ asked P c client id req time again) ⊎ (In (Some y) P.places × ((o : PendingOk fixed s h p y) → o.its.arrival.number ≡ x.number → ⊥))) (unspent : (d : Choice plant_order) → In d h.choices → d.arrival ≡ x.number → ⊥) where
    abbrev new_use : Use
    new_use = record { by = p; ballot = next_ballot c; arrival = x }

    abbrev asked_state : Proposer
    asked_state = moved P (c + 1) places

    abbrev pub asked_plant : Plant
    asked_plant = record { party = after fixed s h tie p P here asked_state; frames = sent_by p (proposals P c req) ++ s.frames; arrivals = s.arrivals; acceptances = s.acceptances }

    abbrev pub asked_past : Past
    asked_past = record { grants = h.grants; choices = h.choices; uses = new_use ∷ h.uses }

    ask_grows : Grows fixed s h asked_plant asked_past
    ask_grows = record { arrivals = λ _ m. m; acceptances = λ _ m. m; grants = λ _ m. m; choices = λ _ m. m; uses = λ _ m. Memᴰ.tail m }

    -- a use of this arrival is this proposer's
    mine : (u : Use) → In u h.uses → u.arrival.number ≡ x.number → u.by ≡ p
    mine u m e =
        let a = tie.arrived u m in
        let same : u.arrival ≡ x = tie.number_once u.arrival x a.0 came e in
        sym a.1 ∙ ap (λ (y : Arrival). y.at) same ∙ at

    asking : PendingOk fixed asked_plant asked_past p (asked P c client id req time again)
    asking = record {
      its = new_use;
      used = Memᴰ.head refl;
      by = refl;
      ballot = refl;
      client = its_client;
      id = its_id;
      request = its_request;
      latest = all_cons {P = λ u. u.arrival.number ≡ x.number → NotAbove plant_order u.ballot (next_ballot c)} (λ _. itself plant_order (next_ballot c)) (λ u m e.
          let low = (its_ok fixed s h tie p P here).counted u m (mine u m e) in
          below_not_above plant_order {x = u.ballot} {y = next_ballot c} (next_above u.ballot c (omega (arith, more))));
      once = none_yet;
      inside = λ a m. absurd (Memᴰ.not-nil m);
      set = (its_ok fixed s h tie p P here).propose_set;
      stage = record {
        unchosen = λ d m e f.
            let u = tie.choice_use d m in
            unused u.its u.used (u.by ∙ e) (u.ballot ∙ f);
        backed = λ a m. absurd (Memᴰ.not-nil m);
        origin = inl (refl, refl);
      };
    }

    -- a pending request of another arrival
    still : (r : ℕ) (y : Pending) (o : PendingOk fixed s h r y) → (o.its.arrival.number ≡ x.number → ⊥) → PendingOk fixed asked_plant asked_past r y
    still r y o other = pending_grows fixed ask_grows r y (λ d m _ _. m) o (all_cons {P = λ u. u.arrival.number ≡ o.its.arrival.number → NotAbove plant_order u.ballot y.ballot} (λ e. absurd (other (sym e))) o.latest)

    asked_here : ProposerOk fixed asked_plant asked_past p asked_state
    asked_here =
        let was = its_ok fixed s h tie p P here in
        record {
          accept_set = was.accept_set;
          propose_set = was.propose_set;
          counted = all_cons {P = λ u. u.by ≡ p → counter_of u.ballot ≤ c + 1} (λ _. next_counted c) (λ u m e. let low = was.counted u m e in omega (arith, more));
          apart = apart;
          pending = λ y m. either (member y m) (λ e. subst (PendingOk fixed asked_plant asked_past p) (sym e) asking) (λ r.
              let o = was.pending y r.0 in
              still p y o (r.1 o));
        }

    asked_there : (r : ℕ) → (r ≡ p → ⊥) → (R : Proposer) → s.party r ≡ proposer R → ProposerOk fixed asked_plant asked_past r R
    asked_there r ne R e =
        let was = tie.proposers r R e in
        record {
          accept_set = was.accept_set;
          propose_set = was.propose_set;
          counted = all_cons {P = λ u. u.by ≡ r → counter_of u.ballot ≤ R.counter} (λ d. absurd (ne (sym d))) was.counted;
          apart = was.apart;
          pending = λ y m.
              let o = was.pending y m in
              still r y o (λ d. ne (sym o.by ∙ mine o.its o.used d));
        }

    pub asked_tied : Tied fixed asked_plant asked_past
    asked_tied = record {
      core = sound_same (Majority fixed) (λ a. holds_of (s.party a)) (λ a. holds_of (asked_plant.party a)) h.grants h.choices s.acceptances (held_kept fixed s h tie p P here asked_state) tie.core;
      proposers = party_each (λ r Q. (R : Proposer) → Q ≡ proposer R → ProposerOk fixed asked_plant asked_past r R) s.party p (proposer asked_state) (λ R e. subst (ProposerOk fixed asked_plant asked_past p) (proposer_same e) asked_here) asked_there;
      sent = all_append {P = λ f. Means fixed asked_plant asked_past f f.message} _ (to_each_lem (λ f. Means fixed asked_plant asked_past f f.message) p P.propose_acceptors _ (λ a. some_head (refl, refl, ap key_of its_request))) (λ f m. means_grows fixed ask_grows f f.message (tie.sent f m));
      arrived = all_cons {P = λ u. In u.arrival s.arrivals × (u.arrival.at ≡ u.by)} (came, at) tie.arrived;
      used_once = pair_cons {P = λ u w. u.by ≡ w.by → u.ballot ≡ w.ballot → u ≡ w} (λ _ _. refl) (λ u m e d. absurd (unused u m (sym e) (sym d))) (λ u m e d. absurd (unused u m e d)) tie.used_once;
      grant_use = λ g m. some_cons (tie.grant_use g m);
      choice_use = λ d m.
          let u = tie.choice_use d m in
          record { its = u.its; used = Memᴰ.tail u.used; by = u.by; ballot = u.ballot; number = u.number; request = u.request; latest = all_cons {P = λ w. w.arrival.number ≡ d.arrival → NotAbove plant_order w.ballot d.ballot} (λ e. absurd (unspent d m (sym e))) u.latest };
      numbered = tie.numbered;
      number_once = tie.number_once;
    }
