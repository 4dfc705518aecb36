-- A fresh name that was sent comes from an instance that declares it and has sent something.
use Rattle.std.proofs.Common.{◌≡◌, ℕ, ◌+◌, ◌<◌, ⊎_elim, List, [], ◌∷◌, ◌++◌, Some, Ok, slice_get, Contains, refl, ap, sym, ◌∙◌, subst, arith}
use Rattle.std.proofs.lemmas.List.Elements.{Contains-push_cases}
use Rattle.npa_term.specs.declared.term.Term.{Term}
use Rattle.npa_term.specs.declared.term.Term.TheVariants.{Name}
use Rattle.npa_term.specs.Parts.{IsPart}
use Rattle.npa_sig.specs.declared.protocol.Event.{Event}
use Rattle.npa_sig.specs.declared.protocol.Strand.{Strand}
use Rattle.npa_model.specs.declared.run.Instance.{Instance}
use Rattle.npa_model.specs.Instances.{AreApart, fresh_names}
use Rattle.npa_model.specs.Runs.{executions, message_of, Next, Happens, Executes, begin, step}
use Rattle.npa_model.specs.Freshness.{fresh_of, IsHeardBefore, AreOriginating, HasSent}
use Rattle.npa_model.proofs.Apart.{names_apart}
use Rattle.npa_model.proofs.Executions.{executions_push, executions_same}
use Rattle.npa_model.proofs.Places.{place_of}
use Rattle.npa_model.proofs.Shortening.{Sent, happened, executed_sent}

module _ (nf : Term → Term) (strands : List Strand) (instances : List Instance) where
  -- an instance that declares the name, and has sent something
  pub record Source (schedule : List ℕ) (n : ℕ) : Type 0 where
    pub k : ℕ
    pub instance : Instance
    pub there : slice_get instances k ≡ Some instance
    pub declares : Contains (fresh_of strands instance) (Name n)
    pub sent : HasSent nf strands instances schedule k

  later : (schedule : List ℕ) (i n : ℕ) → Source schedule n → Source (schedule ++ i ∷ []) n
  later schedule i n s = record {
    k = s.k;
    instance = s.instance;
    there = s.there;
    declares = s.declares;
    sent = record {
      place = s.sent.place;
      instance = s.sent.instance;
      event = s.sent.event;
      executed = omega (arith, s.sent.executed, executions_push s.k i schedule);
      next = s.sent.next;
      sends = s.sent.sends;
    };
  }

  module _ (originating : AreOriginating nf strands instances) where
    -- the names in the message of a send
    of_send : {before : List ℕ} {told after : List Term} {i : ℕ} → Executes nf strands instances before told → (s : Sent nf strands instances (executions i before) told i after) →
        ((t : Term) → Contains told t → (n : ℕ) → IsPart (Name n) t → Source before n) → (n : ℕ) → IsPart (Name n) (message_of nf strands instances s.instance s.event) → Source (before ++ i ∷ []) n
    of_send {before} {told} {after} {i} ex s known n part = ⊎_elim
        (λ (declares : Contains (fresh_of strands s.instance) (Name n)). record {
          k = i;
          instance = s.instance;
          there = s.next.there;
          declares = declares;
          sent = record {
            place = executions i before;
            instance = s.instance;
            event = s.event;
            executed = omega (arith, executions_same i i before refl);
            next = s.next;
            sends = s.gives;
          };
        })
        (λ (heard : IsHeardBefore nf strands instances s.instance (executions i before) n).
        let next : Next nf strands instances heard.earlier i s.instance heard.event = record { there = s.next.there; next = heard.there } in
        later before i n (known (message_of nf strands instances s.instance heard.event) (executed_sent nf strands instances ex i heard.earlier heard.before s.instance heard.event next) n heard.part))
        (originating i s.instance s.next.there (executions i before) s.event s.next.next s.gives n part)

    -- each fresh name in a term that was sent comes from an instance that declares it and has sent
    pub comes_from : {schedule : List ℕ} {sent : List Term} → Executes nf strands instances schedule sent → (t : Term) → Contains sent t → (n : ℕ) → IsPart (Name n) t → Source schedule n
    comes_from begin t was n part = absurd (omega (arith, was.1))
    comes_from (step before told after i ex h) t was n part = ⊎_elim
        (λ r. later before i n (comes_from ex t (subst (λ (ts : List Term). Contains ts t) r.same was) n part))
        (λ (s : Sent nf strands instances (executions i before) told i after). ⊎_elim
        (λ (old : Contains told t). later before i n (comes_from ex t old n part))
        (λ (e : message_of nf strands instances s.instance s.event ≡ t). of_send ex s (comes_from ex) n (subst (λ (u : Term). IsPart (Name n) u) (sym e) part))
        (Contains-push_cases told (message_of nf strands instances s.instance s.event) t (subst (λ (ts : List Term). Contains ts t) s.more was)))
        (happened nf strands instances h)

    -- where an instance has sent nothing, the names that it declares stand in no term that was sent
    pub unheard : AreApart (fresh_names strands instances) → {schedule : List ℕ} {sent : List Term} → Executes nf strands instances schedule sent → (k : ℕ) (instance : Instance) → slice_get instances k ≡ Some instance →
        (HasSent nf strands instances schedule k → ⊥) → (n : ℕ) → Contains (fresh_of strands instance) (Name n) → (t : Term) → Contains sent t → IsPart (Name n) t → ⊥
    unheard apart {schedule} ex k instance there silent n declares t was part =
        let source = comes_from ex t was n part in
        let first = place_of (fresh_of strands source.instance) (Name n) source.declares in
        let second = place_of (fresh_of strands instance) (Name n) declares in
        let one = names_apart strands instances apart source.k k first.0 second.0 n source.instance instance source.there there first.1 second.1 in
        silent (subst (λ (j : ℕ). HasSent nf strands instances schedule j) one.0 source.sent)

    -- nor in a message that was received
    pub unheard_message : AreApart (fresh_names strands instances) → {schedule : List ℕ} {sent : List Term} → Executes nf strands instances schedule sent → (k : ℕ) (instance : Instance) → slice_get instances k ≡ Some instance →
        (HasSent nf strands instances schedule k → ⊥) → (n : ℕ) → Contains (fresh_of strands instance) (Name n) →
        (m place : ℕ) (other : Instance) (event : Event) → place < executions m schedule → Next nf strands instances place m other event → IsPart (Name n) (message_of nf strands instances other event) → ⊥
    unheard_message apart ex k instance there silent n declares m place other event executed next part =
        unheard apart ex k instance there silent n declares (message_of nf strands instances other event) (executed_sent nf strands instances ex m place executed other event next) part
