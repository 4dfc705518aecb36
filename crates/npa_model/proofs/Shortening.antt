-- What a schedule has executed, and a schedule without one receive.
use Rattle.std.proofs.Common.{◌≡◌, ℕ, ◌+◌, ◌<◌, ◌≤◌, ◌==◌, ◌⊎◌, inl, inr, ⊎_elim, true, false, List, [], ◌∷◌, ◌++◌, Result, Ok, Err, cond, length, Contains, refl, ap, sym, ◌∙◌, subst, arith}
use Rattle.std.proofs.lemmas.Bool.{cases_eq, cases_lt}
use Rattle.std.proofs.lemmas.List.{length_push}
use Rattle.std.proofs.lemmas.List.Elements.{Contains-append_left, Contains-append_right}
use Rattle.npa_term.specs.declared.term.Term.{Term}
use Rattle.npa_sig.specs.declared.protocol.Event.{Event}
use Rattle.npa_sig.specs.declared.protocol.Strand.{Strand}
use Rattle.npa_model.specs.declared.run.Instance.{Instance}
use Rattle.npa_model.specs.declared.run.Cause.{Cause}
use Rattle.npa_model.specs.Runs.{executions, message_of, Next, Happens, no_instance, ended, unsent, receives, sends, Executes, begin, step}
use Rattle.npa_model.specs.Backward.{Without}
use Rattle.npa_model.proofs.Executions.{executions_push, executions_same, executions_other}
use Rattle.npa_model.proofs.RunLaws.{both_kinds, same_message}

module _ (nf : Term → Term) (strands : List Strand) (instances : List Instance) where
  -- a step that was executed received a message that was sent, or sent one
  pub record Received (done : ℕ) (sent : List Term) (i : ℕ) (after : List Term) : Type 0 where
    pub instance : Instance
    pub event : Event
    pub next : Next nf strands instances done i instance event
    pub receives : event.sent ≡ false
    pub was : Contains sent (message_of nf strands instances instance event)
    pub same : after ≡ sent

  pub record Sent (done : ℕ) (sent : List Term) (i : ℕ) (after : List Term) : Type 0 where
    pub instance : Instance
    pub event : Event
    pub next : Next nf strands instances done i instance event
    pub gives : event.sent ≡ true
    pub more : after ≡ sent ++ message_of nf strands instances instance event ∷ []

  same_list : {ts us : List Term} → ◌≡◌ {A = Result (List Term) Cause} (Ok ts) (Ok us) → us ≡ ts
  same_list e = cc

  outcome : {done i : ℕ} {sent : List Term} {r : Result (List Term) Cause} → Happens nf strands instances done sent i r → (after : List Term) → r ≡ Ok after → Received done sent i after ⊎ Sent done sent i after
  outcome (no_instance e) after o = cc
  outcome (ended a e f) after o = cc
  outcome (unsent a e n u c) after o = cc
  outcome (receives a e n u c) after o = inl (record { instance = a; event = e; next = n; receives = u; was = c; same = same_list o })
  outcome (sends a e n u) after o = inr (record { instance = a; event = e; next = n; gives = u; more = same_list o })

  pub happened : {done i : ℕ} {sent after : List Term} → Happens nf strands instances done sent i (Ok after) → Received done sent i after ⊎ Sent done sent i after
  happened {after = after} h = outcome h after refl

  -- the next event, at an equal place of an equal instance
  pub next_at : {done more i k : ℕ} {a : Instance} {e : Event} → done ≡ more → i ≡ k → Next nf strands instances done i a e → Next nf strands instances more k a e
  next_at {done} {more} {i} {k} {a} {e} d s n =
      subst (λ (j : ℕ). Next nf strands instances more j a e) s (subst (λ (j : ℕ). Next nf strands instances j i a e) d n)

  -- what was sent stays sent
  pub still_sent : {done i : ℕ} {sent after : List Term} → Happens nf strands instances done sent i (Ok after) → (t : Term) → Contains sent t → Contains after t
  still_sent {sent = sent} h t c = ⊎_elim
      (λ r. subst (λ (ts : List Term). Contains ts t) (sym r.same) c)
      (λ s. subst (λ (ts : List Term). Contains ts t) (sym s.more) (Contains-append_left sent (message_of nf strands instances s.instance s.event ∷ []) t c))
      (happened h)

  -- the message of a step is sent afterwards, whether the step sent or received it
  pub message_sent : {done i : ℕ} {sent after : List Term} → Happens nf strands instances done sent i (Ok after) → (a : Instance) (e : Event) → Next nf strands instances done i a e → Contains after (message_of nf strands instances a e)
  message_sent {sent = sent} {after = after} h a e n = ⊎_elim
      (λ r.
      subst (λ (t : Term). Contains after t) (same_message nf strands instances r.next n)
      (subst (λ (ts : List Term). Contains ts (message_of nf strands instances r.instance r.event)) (sym r.same) r.was))
      (λ s.
      subst (λ (t : Term). Contains after t) (same_message nf strands instances s.next n)
      (subst (λ (ts : List Term). Contains ts (message_of nf strands instances s.instance s.event)) (sym s.more)
      (Contains-append_right sent (message_of nf strands instances s.instance s.event ∷ []) (message_of nf strands instances s.instance s.event) (0, omega arith, refl))))
      (happened h)

  -- the message of each event that was executed was sent
  pub executed_sent : {schedule : List ℕ} {sent : List Term} → Executes nf strands instances schedule sent → (n j : ℕ) → j < executions n schedule → (a : Instance) (e : Event) → Next nf strands instances j n a e → Contains sent (message_of nf strands instances a e)
  executed_sent begin n j l a e next = absurd (omega (arith, l))
  executed_sent (step before sent after i ex h) n j l a e next = ⊎_elim
      (λ (b : j < executions n before). still_sent h (message_of nf strands instances a e) (executed_sent ex n j b a e next))
      (λ (b : executions n before ≤ j). ⊎_elim
      (λ (s : i ≡ n).
      let at : j ≡ executions i before = omega (arith, l, b, executions_same n i before s, ap (λ k. executions k before) s) in
      message_sent h a e (next_at at (sym s) next))
      (λ other. absurd (omega (arith, l, b, executions_other n i before other)))
      (cases_eq i n))
      (cases_lt j (executions n before))

  drop_last : {before : List ℕ} {sent after : List Term} {i : ℕ} → Executes nf strands instances before sent → Happens nf strands instances (executions i before) sent i (Ok after) → (n d : ℕ) → i ≡ n → executions n (before ++ i ∷ []) ≡ d + 1 →
      (a : Instance) (e : Event) → Next nf strands instances d n a e → e.sent ≡ false → Without nf strands instances (before ++ i ∷ []) after n d
  drop_last {before} {sent} {after} {i} ex h n d s c a e next gets =
      let executed : executions n before ≡ d = omega (arith, c, executions_same n i before s) in
      let done : executions i before ≡ d = ap (λ k. executions k before) s ∙ executed in
      ⊎_elim
      (λ (r : Received (executions i before) sent i after). record {
        rest = before;
        executes = subst (λ (ts : List Term). Executes nf strands instances before ts) (sym r.same) ex;
        shorter = length_push before i;
        executed = executed;
        others = λ k other. sym (executions_other k i before (λ f. other (sym f ∙ s)));
      })
      (λ (r : Sent (executions i before) sent i after). absurd (both_kinds nf strands instances (next_at done s r.next) next r.gives gets))
      (happened h)

  drop_later : {before : List ℕ} {sent after : List Term} {i : ℕ} → Happens nf strands instances (executions i before) sent i (Ok after) → (n d : ℕ) → (i ≡ n → ⊥) → Without nf strands instances before sent n d → Without nf strands instances (before ++ i ∷ []) after n d
  drop_later {before} {sent} {after} {i} h n d other w = record {
    rest = w.rest ++ i ∷ [];
    executes = step w.rest sent after i w.executes (subst (λ (k : ℕ). Happens nf strands instances k sent i (Ok after)) (sym (w.others i other)) h);
    shorter = length_push before i ∙ ap (λ k. k + 1) w.shorter ∙ ap (λ k. k + 1) (sym (length_push w.rest i));
    executed = executions_other n i w.rest other ∙ w.executed;
    others = λ k f. executions_push k i w.rest ∙ ap (λ m. m + cond (i == k) 1 0) (w.others k f) ∙ sym (executions_push k i before);
  }

  -- the last event of an instance, where it received, can be taken out of a schedule
  pub drop_receive : {schedule : List ℕ} {sent : List Term} → Executes nf strands instances schedule sent → (n d : ℕ) → executions n schedule ≡ d + 1 → (a : Instance) (e : Event) → Next nf strands instances d n a e → e.sent ≡ false → Without nf strands instances schedule sent n d
  drop_receive begin n d c a e next gets = absurd (omega (arith, c))
  drop_receive (step before sent after i ex h) n d c a e next gets = ⊎_elim
      (λ s. drop_last ex h n d s c a e next gets)
      (λ other. drop_later h n d other (drop_receive ex n d (sym (executions_other n i before other) ∙ c) a e next gets))
      (cases_eq i n)
