-- One step of a run that is being executed is the step of the definition.
use Rattle.std.proofs.Common.{◌≡◌, ℕ, ◌+◌, Bool, true, false, List, [], ◌∷◌, ◌++◌, Option, None, Some, Ok, Err, refl, ap, sym, ◌∙◌, subst, slice_get, slice_index, slice_set, Contains, arith, Fits, w16}
use Rattle.std.specs.Option.{option_map_or}
use Rattle.std.proofs.lemmas.Option.{slice_get_within}
use Rattle.npa_term.specs.declared.term.Term.{Term}
use Rattle.npa_sig.specs.declared.protocol.Event.{Event}
use Rattle.npa_sig.specs.declared.protocol.Strand.{Strand}
use Rattle.npa_model.specs.declared.run.Instance.{Instance}
use Rattle.npa_model.specs.declared.run.Cause.{Cause}
use Rattle.npa_model.specs.declared.run.Cause.TheVariants as cause
use Rattle.npa_model.specs.declared.run.RunFail.{RunFail}
use Rattle.npa_model.specs.declared.run.RunFail.TheVariants as run_fail
use Rattle.npa_sig.specs.Values.{under}
use Rattle.npa_model.specs.Runs.{events_of, Next, Happens, no_instance, ended, unsent, receives, sends}
use Rattle.npa_model.specs.State.{State, done_of, StepsTo, Steps, Exchanges, AreCountable}

module _ (nf : Term → Term) (strands : List Strand) (instances : List Instance) (old : State) (i : ℕ) where
  pub is_missing : slice_get instances i ≡ None → (old ≡ old) × Happens nf strands instances (done_of old i) old.sent i (Err (cause.Instance i))
  is_missing none = (refl, no_instance none)

  module _ (named : Instance) (there : slice_get instances i ≡ Some named) (counts : List ℕ) (same : counts ≡ old.executed) where
    done_is : slice_index counts i ≡ done_of old i
    done_is = ap (λ (xs : List ℕ). slice_index xs i) same

    pub is_ended : slice_get (events_of strands named) (slice_index counts i) ≡ None → (old ≡ old) × Happens nf strands instances (done_of old i) old.sent i (Err (cause.Ended i))
    is_ended none = (refl, ended named there (ap (slice_get (events_of strands named)) (sym done_is) ∙ none))

    module _ (event : Event) (found : slice_get (events_of strands named) (slice_index counts i) ≡ Some event) where
      pub is_next : Next nf strands instances (done_of old i) i named event
      is_next = record { there = there; next = ap (slice_get (events_of strands named)) (sym done_is) ∙ found }

      module _ (sent : List Term) (was : sent ≡ old.sent) (term : Term) (made : term ≡ nf (under named.args event.msg)) (new : List Term) where
        happens : (b : Bool) → event.sent ≡ b → (u : Unit {0}) → Exchanges b term sent new (Ok u) → Happens nf strands instances (done_of old i) old.sent i (Ok new)
        happens true e u x = subst (λ (ts : List Term). Happens nf strands instances (done_of old i) old.sent i (Ok ts))
            (sym (x ∙ ap (λ (ss : List Term). ss ++ term ∷ []) was ∙ ap (λ (t : Term). old.sent ++ t ∷ []) made)) (sends named event is_next e)
        happens false e u x = subst (λ (ts : List Term). Happens nf strands instances (done_of old i) old.sent i (Ok ts))
            (sym (x.1 ∙ was)) (receives named event is_next e (subst (λ (t : Term). Contains old.sent t) made (subst (λ (ss : List Term). Contains ss term) was x.0)))

        pub is_executed : (u : Unit {0}) (after : List ℕ) → Exchanges event.sent term sent new (Ok u) → after ≡ slice_set counts i (slice_index counts i + 1) → StepsTo nf strands instances old (record { executed = after; sent = new }) i
        is_executed u after x moved = record {
          moves = moved ∙ ap (λ (xs : List ℕ). slice_set xs i (slice_index xs i + 1)) same;
          happens = happens event.sent refl u x;
        }

        stays : new ≡ sent → record { executed = counts; sent = new } ≡ old
        stays kept = λ j. record { executed = same j; sent = (kept ∙ was) j }

        stops : (why : Cause) → (event.sent ≡ false) × (why ≡ cause.Unsent term) × (Contains sent term → ⊥) × (new ≡ sent) → (record { executed = counts; sent = new } ≡ old) × Happens nf strands instances (done_of old i) old.sent i (Err why)
        stops why x = (
          stays x.3,
          subst (λ (w : Cause). Happens nf strands instances (done_of old i) old.sent i (Err w)) (sym (x.1 ∙ ap cause.Unsent made))
              (unsent named event is_next x.0 (λ h. x.2 (subst (λ (ss : List Term). Contains ss term) (sym was) (subst (λ (t : Term). Contains old.sent t) (sym made) h)))),
        )

        refused : (b : Bool) → event.sent ≡ b → (fault : RunFail) → Exchanges b term sent new (Err fault) → Steps nf strands instances old (record { executed = counts; sent = new }) i (Err fault)
        refused true e (run_fail.Stop why) x = stops why (e ∙ x.0, x.1, x.2, x.3)
        refused true e run_fail.NoMemory x = stays x
        refused false e (run_fail.Stop why) x = stops why (e, x.1, x.2, x.3)
        refused false e run_fail.NoMemory x = stays x

        pub is_refused : (fault : RunFail) → Exchanges event.sent term sent new (Err fault) → Steps nf strands instances old (record { executed = counts; sent = new }) i (Err fault)
        is_refused fault x = refused event.sent refl fault x

-- the number of events that an instance has executed can grow by one where it has a next event
pub counts_on : (strands : List Strand) (named : Instance) (event : Event) (done : ℕ) → AreCountable strands → slice_get (events_of strands named) done ≡ Some event → Fits w16 (done + 1)
counts_on strands named event done countable found = by (slice_get strands named.strand) refl found
  where
    by : (o : Option Strand) → slice_get strands named.strand ≡ o → slice_get (option_map_or (λ strand. strand.events) o []) done ≡ Some event → Fits w16 (done + 1)
    by None e f = cc
    by (Some strand) e f = omega (arith, slice_get_within strand.events done event f, countable named.strand strand e)
