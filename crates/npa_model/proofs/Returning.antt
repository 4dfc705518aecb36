-- A run that meets a ground pattern, one step earlier.
use Rattle.std.proofs.Common.{◌≡◌, ℕ, zero, suc, ◌+◌, ◌<◌, ◌≤◌, ◌⊎◌, inl, inr, ⊎_elim, true, false, List, [], ◌∷◌, ◌++◌, Some, Ok, map, length, take, slice_get, slice_set, Contains, refl, ap, sym, ◌∙◌, subst, arith}
use Rattle.std.proofs.lemmas.Bool.{cases_eq}
use Rattle.std.proofs.lemmas.List.{length_push, take-take}
use Rattle.std.proofs.lemmas.List.Elements.{Contains-append_left, Contains-append_right, Contains-push_cases}
use Rattle.std.proofs.lemmas.Option.{same_Some}
use Rattle.npa_term.specs.declared.term.Term.{Term}
use Rattle.npa_term.specs.Canonical.{canonical}
use Rattle.npa_sig.specs.declared.protocol.Event.{Event}
use Rattle.npa_sig.specs.declared.protocol.Strand.{Strand}
use Rattle.npa_rewrite.proofs.InstanceParts.{here, member_cases}
use Rattle.npa_model.specs.declared.run.Instance.{Instance}
use Rattle.npa_model.specs.declared.pattern.PStrand.{PStrand}
use Rattle.npa_model.specs.declared.pattern.Pattern.{Pattern}
use Rattle.npa_model.specs.declared.pattern.Standing.{Standing}
use Rattle.npa_model.specs.declared.pattern.Standing.TheVariants.{Exactly}
use Rattle.npa_model.specs.Patterns.{events_at, IsInitial}
use Rattle.npa_model.specs.Runs.{events_of, executions, message_of, Next, Happens, Executes, begin, step}
use Rattle.npa_model.specs.Meeting.{Stands, Serves, AreServed, MeetsGround}
use Rattle.npa_model.specs.Backward.{set_back, received, moved_back, without_known, NoReceive, IsShorter, Shares, Without, BeforeReceive, ChosenSends, OtherSends, Earlier, idle, chosen_sends, other_sends, LastStep}
use Rattle.npa_model.proofs.Executions.{executions_push, executions_same, executions_other}
use Rattle.npa_model.proofs.Places.{within_at, mapped_at, at_mapped, member_at, front_at, front_mapped, length_set, set_here, set_elsewhere}
use Rattle.npa_model.proofs.Shortening.{Received, Sent, happened, still_sent, executed_sent, drop_receive}

-- a number stands at a place of a list, or nowhere
find_place : (xs : List ℕ) (i : ℕ) → ((k : ℕ) × (slice_get xs k ≡ Some i)) ⊎ (Contains xs i → ⊥)
find_place [] i = inr (λ c. omega (arith, c.1))
find_place (x ∷ xs) i = ⊎_elim
    (λ (e : x ≡ i). inl (zero, ap Some e))
    (λ other. ⊎_elim
    (λ (p : (k : ℕ) × (slice_get xs k ≡ Some i)). inl (suc p.0, p.1))
    (λ none. inr (λ c. ⊎_elim other none (member_cases x i xs c)))
    (find_place xs i))
    (cases_eq x i)

no_members : (ts : List Term) → ((t : Term) → Contains ts t → ⊥) → ts ≡ []
no_members [] none = refl
no_members (t ∷ ts) none = absurd (none t (here t ts))

module _ (nf : Term → Term) (strands : List Strand) (instances : List Instance) where
  -- strands are served by a schedule by which the chosen instances have executed as many events
  pub served_still : {standing : Standing} {schedule rest : List ℕ} {ps : List PStrand} {chosen : List ℕ} → AreServed nf strands instances schedule standing ps chosen →
      ((k n : ℕ) → slice_get chosen k ≡ Some n → executions n rest ≡ executions n schedule) → AreServed nf strands instances rest standing ps chosen
  served_still {standing = standing} a same = record {
    as_many = a.as_many;
    serves = λ k n p c e. let s = a.serves k n p c e in record {
      instance = s.instance;
      there = s.there;
      suits = record {
        same_strand = s.suits.same_strand;
        counted = subst (λ (m : ℕ). Stands standing m p.bar) (sym (same k n c)) s.suits.counted;
        same_values = s.suits.same_values;
        same_messages = s.suits.same_messages;
      };
    };
    apart = a.apart;
  }

  module _ {schedule : List ℕ} (n bar : ℕ) (p : PStrand) (s : Serves nf strands instances schedule Exactly n p) (at : p.bar ≡ bar + 1) where
    abbrev message : Event → Term
    message = message_of nf strands instances s.instance

    abbrev events : List Event
    events = events_of strands s.instance

    -- an instance serves the strand one event earlier
    serves_back : {rest : List ℕ} → executions n rest ≡ bar → Serves nf strands instances rest Exactly n (set_back p bar)
    serves_back done = record {
      instance = s.instance;
      there = s.there;
      suits = record {
        same_strand = s.suits.same_strand;
        counted = done;
        same_values = s.suits.same_values;
        same_messages =
            ap (map message) (sym (take-take bar (bar + 1) events (omega arith)) ∙ ap (λ k. take bar (take k events)) (sym at))
            ∙ sym (front_mapped message bar (take p.bar events))
            ∙ ap (take bar) s.suits.same_messages
            ∙ front_mapped canonical bar p.msgs;
      };
    }

    -- and the strand's last message is that of its last event
    last_message : (event : Event) → slice_get events bar ≡ Some event → (m : Term) × (slice_get p.msgs bar ≡ Some m) × (canonical m ≡ message event)
    last_message event found =
        let there : slice_get (take p.bar events) bar ≡ Some event = ap (λ k. slice_get (take k events) bar) at ∙ front_at (bar + 1) events bar (omega arith) ∙ found in
        mapped_at canonical p.msgs bar (message event) (ap (λ (ts : List Term). slice_get ts bar) (sym s.suits.same_messages) ∙ at_mapped message (take p.bar events) bar event there)

  -- strands are served one event earlier where one instance has executed one event less
  served_back : {schedule rest : List ℕ} {ps : List PStrand} {chosen : List ℕ} → AreServed nf strands instances schedule Exactly ps chosen → (k n bar : ℕ) (p : PStrand) → slice_get chosen k ≡ Some n → slice_get ps k ≡ Some p → p.bar ≡ bar + 1 →
      executions n rest ≡ bar → ((i : ℕ) → (i ≡ n → ⊥) → executions i rest ≡ executions i schedule) → AreServed nf strands instances rest Exactly (slice_set ps k (set_back p bar)) chosen
  served_back {schedule} {rest} {ps} {chosen} a k n bar p c e at done others = record {
    as_many = a.as_many ∙ sym (length_set ps k (set_back p bar));
    serves = λ j i q cj ej. ⊎_elim
        (λ (f : j ≡ k).
        let strand : set_back p bar ≡ q = same_Some (set_back p bar) q (sym (set_here ps k p (set_back p bar) e) ∙ ap (slice_get (slice_set ps k (set_back p bar))) (sym f) ∙ ej) in
        let place : n ≡ i = same_Some n i (sym c ∙ ap (slice_get chosen) (sym f) ∙ cj) in
        subst (λ (x : PStrand). Serves nf strands instances rest Exactly i x) strand
        (subst (λ (x : ℕ). Serves nf strands instances rest Exactly x (set_back p bar)) place (serves_back n bar p (a.serves k n p c e) at done)))
        (λ other.
        let s = a.serves j i q cj (sym (set_elsewhere ps k j (set_back p bar) other) ∙ ej) in
        record {
          instance = s.instance;
          there = s.there;
          suits = record {
            same_strand = s.suits.same_strand;
            counted = others i (λ (f : i ≡ n). other (a.apart j k n (cj ∙ ap Some f) c)) ∙ s.suits.counted;
            same_values = s.suits.same_values;
            same_messages = s.suits.same_messages;
          };
        })
        (cases_eq j k);
    apart = a.apart;
  }

  -- a run that meets a pattern in which the last event of a strand received meets the pattern before it
  pub back_receive : {schedule : List ℕ} {sent : List Term} {g : Pattern} {chosen : List ℕ} → Executes nf strands instances schedule sent → MeetsGround nf strands instances schedule Exactly sent g chosen →
      (k bar : ℕ) (p : PStrand) (event : Event) (m : Term) → slice_get g.strands k ≡ Some p → p.bar ≡ bar + 1 → slice_get (events_at strands p.strand) bar ≡ Some event → event.sent ≡ false → slice_get p.msgs bar ≡ Some m →
      BeforeReceive nf strands instances schedule sent g chosen k p bar m
  back_receive {schedule} {sent} {g} {chosen} ex meets k bar p event m e at found gets last =
      let place = within_at chosen g.strands k p meets.served.as_many e in
      let n : ℕ = place.0 in
      let s = meets.served.serves k n p place.1 e in
      let there : slice_get (events_of strands s.instance) bar ≡ Some event = ap (λ number. slice_get (events_at strands number) bar) s.suits.same_strand ∙ found in
      let next : Next nf strands instances bar n s.instance event = record { there = s.there; next = there } in
      let executed : executions n schedule ≡ bar + 1 = s.suits.counted ∙ at in
      let w = drop_receive nf strands instances ex n bar executed s.instance event next gets in
      let message = last_message n bar p s at event there in
      let same : message_of nf strands instances s.instance event ≡ canonical m = sym message.2 ∙ ap canonical (same_Some message.0 m (sym message.1 ∙ last)) in
      let was : Contains sent (canonical m) = subst (λ (t : Term). Contains sent t) same (executed_sent nf strands instances ex n bar (omega (arith, executed)) s.instance event next) in
      record {
        rest = w.rest;
        executes = w.executes;
        shorter = record {
          one_less = w.shorter;
          fewer = λ i. ⊎_elim
              (λ (f : i ≡ n). omega (arith, ap (λ j. executions j w.rest) f, ap (λ j. executions j schedule) f, w.executed, executed))
              (λ f. omega (arith, w.others i f))
              (cases_eq i n);
          less = λ t c. c;
        };
        meets = record {
          served = served_back meets.served k n bar p place.1 e at w.executed w.others;
          known = λ t c. ⊎_elim (meets.known t) (λ (f : m ≡ t). subst (λ (u : Term). Contains sent (canonical u)) f was) (Contains-push_cases g.known m t c);
          unknown = meets.unknown;
        };
      }

  one_step : (before : List ℕ) (told sent : List Term) (i : ℕ) → ((t : Term) → Contains told t → Contains sent t) → IsShorter (before ++ i ∷ []) before sent told
  one_step before told sent i less = record {
    one_less = length_push before i;
    fewer = λ k. omega (arith, executions_push k i before);
    less = less;
  }

  -- a step that received was of no chosen instance, where no strand has received last
  is_idle : {before : List ℕ} {told sent : List Term} {i : ℕ} {g : Pattern} {chosen : List ℕ} → NoReceive strands g → MeetsGround nf strands instances (before ++ i ∷ []) Exactly sent g chosen → Received nf strands instances (executions i before) told i sent → MeetsGround nf strands instances before Exactly told g chosen
  is_idle {before} {told} {sent} {i} {g} {chosen} none meets r = record {
    served = served_still meets.served (λ k n c. sym (executions_other n i before (λ (f : i ≡ n).
        let strand = within_at g.strands chosen k n (sym meets.served.as_many) c in
        let s = meets.served.serves k n strand.0 c strand.1 in
        let at : strand.0.bar ≡ executions i before + 1 = sym s.suits.counted ∙ executions_same n i before f ∙ ap (λ j. executions j before + 1) (sym f) in
        let one : r.instance ≡ s.instance = same_Some r.instance s.instance (sym r.next.there ∙ ap (slice_get instances) f ∙ s.there) in
        let found : slice_get (events_at strands strand.0.strand) (executions i before) ≡ Some r.event =
        ap (λ number. slice_get (events_at strands number) (executions i before)) (sym s.suits.same_strand ∙ ap (λ (x : Instance). x.strand) (sym one)) ∙ r.next.next in
        let gives = none k (executions i before) strand.0 r.event strand.1 at found in
        let gets = r.receives in
        cc)));
    known = λ t c. subst (λ (ts : List Term). Contains ts (canonical t)) r.same (meets.known t c);
    unknown = λ t c was. meets.unknown t c (subst (λ (ts : List Term). Contains ts (canonical t)) (sym r.same) was);
  }

  nothing_known : (told : List Term) (t : Term) → Contains {X = Term} [] t → Contains told (canonical t)
  nothing_known told t c = absurd (omega (arith, c.1))

  module _ (before : List ℕ) (told sent : List Term) (i : ℕ) (g : Pattern) (chosen : List ℕ) (meets : MeetsGround nf strands instances (before ++ i ∷ []) Exactly sent g chosen) (s : Sent nf strands instances (executions i before) told i sent) where
    abbrev message_sent : Term
    message_sent = message_of nf strands instances s.instance s.event

    was_told : (t : Term) → Contains told t → Contains sent t
    was_told t c = subst (λ (ts : List Term). Contains ts t) (sym s.more) (Contains-append_left told (message_sent ∷ []) t c)

    was_message : (t : Term) → message_sent ≡ t → Contains sent t
    was_message t e = subst (λ (ts : List Term). Contains ts t) (sym s.more) (Contains-append_right told (message_sent ∷ []) t (0, omega arith, e))

    shared : Shares told message_sent g
    shared = record {
      known = λ t c. Contains-push_cases told message_sent (canonical t) (subst (λ (ts : List Term). Contains ts (canonical t)) s.more (meets.known t c));
      unknown = λ t c e. meets.unknown t c (was_message (canonical t) e);
    }

    -- the send is of the instance that serves strand k
    of_chosen : (k : ℕ) → slice_get chosen k ≡ Some i → ChosenSends nf strands instances before told i g chosen
    of_chosen k c =
        let strand = within_at g.strands chosen k i (sym meets.served.as_many) c in
        let p : PStrand = strand.0 in
        let serves = meets.served.serves k i p c strand.1 in
        let at : p.bar ≡ executions i before + 1 = sym serves.suits.counted ∙ executions_same i i before refl in
        let one : s.instance ≡ serves.instance = same_Some s.instance serves.instance (sym s.next.there ∙ serves.there) in
        let message = last_message i (executions i before) p serves at s.event (ap (λ (x : Instance). slice_get (events_of strands x) (executions i before)) (sym one) ∙ s.next.next) in
        let same : message_sent ≡ canonical message.0 = ap (λ (x : Instance). message_of nf strands instances x s.event) one ∙ sym message.2 in
        record {
          k = k;
          p = p;
          instance = s.instance;
          event = s.event;
          m = message.0;
          place = c;
          there = strand.1;
          bar = at;
          next = s.next;
          gives = s.gives;
          last = message.1;
          same = same;
          shares = subst (λ (t : Term). Shares told t g) same shared;
          meets = record {
            served = served_back meets.served k i (executions i before) p c strand.1 at refl (λ j other. sym (executions_other j i before (λ f. other (sym f))));
            known = nothing_known told;
            unknown = λ t d was. meets.unknown t d (was_told (canonical t) was);
          };
        }

    -- or of an instance that serves none
    of_other : (Contains chosen i → ⊥) → OtherSends nf strands instances before told i g chosen
    of_other unchosen = record {
      instance = s.instance;
      event = s.event;
      next = s.next;
      gives = s.gives;
      unchosen = unchosen;
      shares = shared;
      meets = record {
        served = served_still meets.served (λ k n c. sym (executions_other n i before (λ (f : i ≡ n). unchosen (member_at chosen k i (c ∙ ap Some (sym f))))));
        known = nothing_known told;
        unknown = λ t d was. meets.unknown t d (was_told (canonical t) was);
      };
    }

    sends_last : Earlier nf strands instances before told i g chosen
    sends_last = ⊎_elim
        (λ (p : (k : ℕ) × (slice_get chosen k ≡ Some i)). chosen_sends (of_chosen p.0 p.1))
        (λ none. other_sends (of_other none))
        (find_place chosen i)

  -- an empty schedule meets only initial patterns
  pub begins_initial : {g : Pattern} {chosen : List ℕ} → MeetsGround nf strands instances [] Exactly [] g chosen → IsInitial g
  begins_initial {g} {chosen} meets = record {
    bars = λ k p e.
        let place = within_at chosen g.strands k p meets.served.as_many e in
        sym (meets.served.serves k place.0 p place.1 e).suits.counted;
    known = no_members g.known (λ t c. omega (arith, (meets.known t c).1));
  }

  last_step : {before : List ℕ} {told sent : List Term} {i : ℕ} {g : Pattern} {chosen : List ℕ} → NoReceive strands g → Executes nf strands instances before told → Happens nf strands instances (executions i before) told i (Ok sent) →
      MeetsGround nf strands instances (before ++ i ∷ []) Exactly sent g chosen → LastStep nf strands instances (before ++ i ∷ []) sent g chosen
  last_step {before} {told} {sent} {i} {g} {chosen} none ex h meets = record {
    before = before;
    told = told;
    i = i;
    is = refl;
    executes = ex;
    shorter = one_step before told sent i (still_sent nf strands instances h);
    earlier = ⊎_elim (λ r. idle (is_idle none meets r)) (λ s. sends_last before told sent i g chosen meets s) (happened nf strands instances h);
  }

  -- a run that meets a pattern in which no strand received last has a last step, where the pattern isn't
  -- initial
  pub back_last : {schedule : List ℕ} {sent : List Term} {g : Pattern} {chosen : List ℕ} → NoReceive strands g → Executes nf strands instances schedule sent → MeetsGround nf strands instances schedule Exactly sent g chosen → (IsInitial g → ⊥) → LastStep nf strands instances schedule sent g chosen
  back_last none begin meets later = absurd (later (begins_initial meets))
  back_last none (step before told sent i ex h) meets later = last_step none ex h meets
