-- What the core's invariant says of acceptances, where any two majorities meet: one value a ballot of a valve, and the chain of client requests above a ballot that a majority accepted.
-- Assumes nothing.
use Rattle.std.specs.Prelude.{◌≡◌, refl, List, [], ◌∷◌, ℕ}
use Rattle.std.proofs.Common.{sym, ◌∙◌, ap, subst₂}
use mathlib.Core.List.Memᴰ
use Rattle.std.specs.Prelude.{Option}
use Rattle.messages.specs.Message.{Key, Value}
use Rattle.agreement.specs.Members.{either, In, SomeOf, all_cons, Distinct, none_yet, one_more}
use Rattle.agreement.specs.Majority.{Common, Member}
use Rattle.agreement.specs.Order.{Order, NotAbove, itself, below_not_above, then_below, not_above_trans, below_or_equal}
use Rattle.agreement.specs.Core.{Core, Choice, chosen, valve, Acceptance, Accepted, AcceptedBy, Sound, Rooted, bare, grown, Parent}

module _ (O : Order) (Quorum : List ℕ → Type 0) where
  open O use {Ballot, Below, zero, irreflexive}

  -- from value v at ballot b of valve k to a later value: each link is a choice whose value was accepted, at a higher ballot than the link before it, made by its own arrived request; the arrivals are listed, the last first
  pub data Chain (cs : List (Choice O)) (l : List (Acceptance O)) (k : Key) (b : Ballot) (v : Option Value) : Ballot → Option Value → List ℕ → Type 0 where
    here : Chain cs l k b v b v []
    next : {b₁ : Ballot} {v₁ : Option Value} {ns : List ℕ} → Chain cs l k b v b₁ v₁ ns → (c : Choice O) → In c cs → valve O c ≡ k → Below b₁ c.ballot → c.old ≡ v₁ → Accepted O l k c.ballot (chosen O c) → Chain cs l k b v c.ballot (chosen O c) (c.arrival ∷ ns)

  -- a majority has accepted what c chose
  pub record Won (s : Core O) (c : Choice O) : Type 0 where
    pub chose : In c s.choices
    pub voters : List ℕ
    pub quorum : Quorum voters
    pub all : (a : ℕ) → In a voters → AcceptedBy O s.acceptances a (valve O c) c.ballot (chosen O c)

  -- value v at ballot b comes of choice c by requests whose arrivals differ from one another and from c's own
  pub record Comes (s : Core O) (c : Choice O) (b : Ballot) (v : Option Value) : Type 0 where
    pub arrivals : List ℕ
    pub chain : Chain s.choices s.acceptances (valve O c) c.ballot (chosen O c) b v arrivals
    pub apart : Distinct arrivals
    pub fresh : In c.arrival arrivals → ⊥

  module _ (meet : (q r : List ℕ) → Quorum q → Quorum r → Common q r) (someone : (q : List ℕ) → Quorum q → Member q) (s : Core O) (i : Sound O Quorum s) where
    -- a choice's ballot is above zero
    pub above_zero : (c : Choice O) → In c s.choices → Below zero c.ballot
    above_zero c m =
        let o = i.choice c m in
        let x = someone o.voters o.quorum in
        let g = o.backed x.who x.there in
        rw g.is.3 at (i.grant g.it g.at).positive

    -- two choices at one ballot of a valve are one: an acceptor promises a ballot once
    pub one_choice : (c d : Choice O) → In c s.choices → In d s.choices → valve O c ≡ valve O d → c.ballot ≡ d.ballot → c ≡ d
    one_choice c d m n ek eb =
        let oc = i.choice c m in
        let od = i.choice d n in
        let x = meet oc.voters od.voters oc.quorum od.quorum in
        let g = oc.backed x.who x.left in
        let h = od.backed x.who x.right in
        let e : g.it.to ≡ h.it.to = i.once g.it h.it g.at h.at (g.is.0 ∙ sym h.is.0) (g.is.2 ∙ ek ∙ sym h.is.2) (g.is.3 ∙ eb ∙ sym h.is.3) in
        i.single c d m n (sym g.is.1 ∙ e ∙ h.is.1) eb

    -- clause one
    pub one_value_lem : (w u : Acceptance O) → In w s.acceptances → In u s.acceptances → w.key ≡ u.key → w.ballot ≡ u.ballot → w.value ≡ u.value
    one_value_lem w u m n ek eb =
        let c = i.asked w m in
        let d = i.asked u n in
        let e : c.it ≡ d.it = one_choice c.it d.it c.at d.at (c.is.0 ∙ ek ∙ sym d.is.0) (c.is.1 ∙ eb ∙ sym d.is.1) in
        sym c.is.2 ∙ ap (chosen O) e ∙ d.is.2

    -- a choice above one that a majority accepted comes from that ballot or a later one
    pub not_from_below : (c d : Choice O) → Won s c → In d s.choices → valve O d ≡ valve O c → Below c.ballot d.ballot → NotAbove O c.ballot d.source
    not_from_below c d won m ek lt =
        let o = i.choice d m in
        let x = meet o.voters won.voters o.quorum won.quorum in
        let g = o.backed x.who x.left in
        let w = won.all x.who x.right in
        let le : NotAbove O w.it.ballot g.it.had = (i.grant g.it g.at).covers w.it w.at (w.is.0 ∙ sym g.is.0) (w.is.1 ∙ sym ek ∙ sym g.is.2) (rw (w.is.2, g.is.3) lt) in
        not_above_trans O (rw w.is.2 at le) g.is.4

    -- ---- the arrivals of a chain

    climbs : {k : Key} {b : Ballot} {v : Option Value} {b₁ : Ballot} {v₁ : Option Value} {ns : List ℕ} → Chain s.choices s.acceptances k b v b₁ v₁ ns → NotAbove O b b₁
    climbs {b = b} here = itself O b
    climbs (next ch c m ek lt eo ac) = below_not_above O (then_below O (climbs ch) lt)

    links : {k : Key} {b : Ballot} {v : Option Value} {b₁ : Ballot} {v₁ : Option Value} {ns : List ℕ} → Chain s.choices s.acceptances k b v b₁ v₁ ns → (n : ℕ) → In n ns → SomeOf s.choices (λ d. (d.arrival ≡ n) × Below b d.ballot × NotAbove O d.ballot b₁)
    links here = λ n m. absurd (Memᴰ.not-nil m)
    links (next ch c m ek lt eo ac) =
        all_cons
        (record { it = c; at = m; is = (refl, then_below O (climbs ch) lt, itself O c.ballot) })
        (λ n h.
        let d = links ch n h in
        record { it = d.it; at = d.at; is = (d.is.0, d.is.1, below_not_above O (then_below O d.is.2 lt)) })

    arrivals_apart : {k : Key} {b : Ballot} {v : Option Value} {b₁ : Ballot} {v₁ : Option Value} {ns : List ℕ} → Chain s.choices s.acceptances k b v b₁ v₁ ns → Distinct ns
    arrivals_apart here = none_yet
    arrivals_apart (next ch c m ek lt eo ac) =
        one_more
        (λ h.
        let d = links ch c.arrival h in
        let e : d.it ≡ c = i.spent d.it c d.at m d.is.0 in
        d.is.2 (rw e lt))
        (arrivals_apart ch)

    -- ---- clause two

    module _ (c : Choice O) (won : Won s c) where
      abbrev Reached : Choice O → Type 0
      Reached d = (ns : List ℕ) × Chain s.choices s.acceptances (valve O c) c.ballot (chosen O c) d.ballot (chosen O d) ns

      abbrev Later : Choice O → Type 0
      Later d = valve O d ≡ valve O c → Below c.ballot d.ballot → Accepted O s.acceptances (valve O c) d.ballot (chosen O d) → Reached d

      link : (cs : List (Choice O)) → ((d : Choice O) → In d cs → In d s.choices) → ((d : Choice O) → In d cs → Later d) → (d : Choice O) → In d s.choices → Parent O cs d → Later d
      link cs sub before d m par ek lt ac =
          let o = i.choice d m in
          let le : NotAbove O c.ballot d.source = not_from_below c d won m ek lt in
          either o.origin
          (λ z. absurd (le (rw z.0 (above_zero c won.chose))))
          (λ w. either par
          (λ z. absurd (le (rw z.0 (above_zero c won.chose))))
          (λ f. either (below_or_equal O le)
          (λ up.
          let had : Accepted O s.acceptances (valve O c) f.it.ballot (chosen O f.it) = record { it = w.it; at = w.at; is = (w.is.0 ∙ ek, w.is.1 ∙ sym f.is.1, w.is.2 ∙ sym f.is.2) } in
          let r = before f.it f.at (f.is.0 ∙ ek) (rw f.is.1 up) had in
          (d.arrival ∷ r.0, next r.1 d m ek (rw f.is.1 o.rises) (sym f.is.2) ac))
          (λ e.
          let same : f.it ≡ c = one_choice f.it c (sub f.it f.at) won.chose (f.is.0 ∙ ek) (f.is.1 ∙ sym e) in
          (d.arrival ∷ [], next here d m ek lt (sym f.is.2 ∙ ap (chosen O) same) ac))))

      walk : (cs : List (Choice O)) → Rooted O cs → ((d : Choice O) → In d cs → In d s.choices) → (d : Choice O) → In d cs → Later d
      walk cs bare sub = λ d m. absurd (Memᴰ.not-nil m)
      walk cs (grown {c = first} {cs = rest} par r) sub =
          all_cons
          (link rest (λ d n. sub d (Memᴰ.tail n)) (walk rest r (λ d n. sub d (Memᴰ.tail n))) first (sub first (Memᴰ.head refl)) par)
          (walk rest r (λ d n. sub d (Memᴰ.tail n)))

      pub comes_of_lem : (w : Acceptance O) → In w s.acceptances → w.key ≡ valve O c → Below c.ballot w.ballot → Comes s c w.ballot w.value
      comes_of_lem w m ek lt =
          let d = i.asked w m in
          let ac : Accepted O s.acceptances (valve O c) d.it.ballot (chosen O d.it) = record { it = w; at = m; is = (ek, sym d.is.1, sym d.is.2) } in
          let r = walk s.choices i.rooted (λ _ n. n) d.it d.at (d.is.0 ∙ ek) (rw d.is.1 lt) ac in
          subst₂ (Comes s c) d.is.1 d.is.2 (record {
            arrivals = r.0;
            chain = r.1;
            apart = arrivals_apart r.1;
            fresh = λ h.
                let u = links r.1 c.arrival h in
                let e : u.it ≡ c = i.spent u.it c u.at won.chose u.is.0 in
                irreflexive c.ballot (rw e at u.is.1);
          })
