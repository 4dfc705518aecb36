-- A run that is executed step by step is executed as a whole.
use Rattle.std.proofs.Common.{◌≡◌, ℕ, ◌+◌, ◌<◌, ◌≤◌, ◌==◌, ⊎_elim, List, [], ◌∷◌, ◌++◌, Result, Ok, Err, refl, ap, sym, ◌∙◌, subst, slice_index, slice_set, take, length, get_or, replicate, cond, arith}
use Rattle.std.proofs.lemmas.Bool.{cases_lt, cases_eq, eq-eqb, ne_eqb}
use Rattle.std.proofs.lemmas.List.{length-set, length-replicate, get_or-set_same, get_or-set_other, get_or-replicate, get_or_past, take_more}
use Rattle.std.proofs.lemmas.List.Sums.{fold_push}
use Rattle.std.proofs.lemmas.Option.{slice_get_within, slice_get-get_or}
use Rattle.npa_term.specs.declared.term.Term.{Term}
use Rattle.npa_sig.specs.declared.protocol.Strand.{Strand}
use Rattle.npa_sig.specs.declared.protocol.Protocol.{Protocol}
use Rattle.npa_model.specs.declared.run.Instance.{Instance}
use Rattle.npa_model.specs.declared.run.Run.{Run}
use Rattle.npa_model.specs.declared.run.Cause.{Cause}
use Rattle.npa_model.specs.declared.run.RunFail.{RunFail}
use Rattle.npa_model.specs.declared.run.RunFail.TheVariants as run_fail
use Rattle.npa_model.specs.Runs.{executions, Happens, no_instance, ended, unsent, receives, sends, Executes, begin, step, BreaksAt}
use Rattle.npa_model.specs.Instances.{AreGroundTerms, Starts}
use Rattle.npa_model.specs.Aims.{at_start, at_step}
use Rattle.npa_model.specs.State.{State, done_of, StepsTo, Steps}
use Rattle.npa_model.proofs.InstanceLaws.{starting_instances}
use Rattle.npa_model.proofs.Executions.{executions_same, executions_other}
use Rattle.npa_replay.specs.declared.execution.Halt.{Halt}
use Rattle.npa_replay.specs.declared.execution.Halt.TheVariants as halt
use Rattle.npa_replay.specs.Executions.{IsAfter, Ends, HasRun, RunsThrough, halted}

none_done : (n i : ℕ) → slice_index (replicate n 0) i ≡ 0
none_done n i = ⊎_elim
    (λ (l : i < n). get_or-replicate n i 0 0 l)
    (λ (l : n ≤ i). get_or_past (replicate n 0) i 0 (omega (arith, length-replicate {A = ℕ} n 0)))
    (cases_lt i n)

module _ (nf : Term → Term) (strands : List Strand) (instances : List Instance) where
  step_within : {done i : ℕ} {sent ts : List Term} {r : Result (List Term) Cause} → Happens nf strands instances done sent i r → r ≡ Ok ts → i < length instances
  step_within (no_instance e) o = cc
  step_within (ended a e f) o = cc
  step_within (unsent a e n u c) o = cc
  step_within {i = i} (receives a e n u c) o = slice_get_within instances i a n.there
  step_within {i = i} (sends a e n u) o = slice_get_within instances i a n.there

  -- nothing is executed of a run that was begun
  is_begun : (state : State) → state ≡ record { executed = replicate (length instances) 0; sent = [] } → IsAfter nf strands instances [] state
  is_begun state e =
      let executed : state.executed ≡ replicate (length instances) 0 = ap (λ (s : State). s.executed) e in
      record {
        executes = subst (λ (ts : List Term). Executes nf strands instances [] ts) (sym (ap (λ (s : State). s.sent) e)) begin;
        each = ap length executed ∙ length-replicate {A = ℕ} (length instances) 0;
        counts = λ i. ap (λ (xs : List ℕ). slice_index xs i) executed ∙ none_done (length instances) i;
      }

  -- one more step
  module _ (before : List ℕ) (old new : State) (i : ℕ) (after : IsAfter nf strands instances before old) (steps : StepsTo nf strands instances old new i) where
    counts_more : (k : ℕ) → done_of new k ≡ executions k (before ++ i ∷ [])
    counts_more k = ⊎_elim
        (λ (e : k ≡ i).
        ap (λ (xs : List ℕ). slice_index xs k) steps.moves
        ∙ ap (λ n. get_or (slice_set old.executed i (done_of old i + 1)) n 0) e
        ∙ get_or-set_same old.executed i (done_of old i + 1) 0 (omega (arith, step_within steps.happens refl, after.each))
        ∙ ap (λ n. n + 1) (after.counts i)
        ∙ sym (executions_same i i before refl)
        ∙ ap (λ n. executions n (before ++ i ∷ [])) (sym e))
        (λ n.
        ap (λ (xs : List ℕ). slice_index xs k) steps.moves
        ∙ get_or-set_other old.executed i k (done_of old i + 1) 0 n
        ∙ after.counts k
        ∙ sym (executions_other k i before (λ e. n (sym e))))
        (cases_eq k i)

    is_stepped : IsAfter nf strands instances (before ++ i ∷ []) new
    is_stepped = record {
      executes = step before old.sent new.sent i after.executes (subst (λ (n : ℕ). Happens nf strands instances n old.sent i (Ok new.sent)) (after.counts i) steps.happens);
      each = ap length steps.moves ∙ length-set old.executed i (done_of old i + 1) ∙ after.each;
      counts = counts_more;
    }

  module _ (schedule : List ℕ) (k : ℕ) (within : k < length schedule) (old new : State) (after : IsAfter nf strands instances (take k schedule) old) where
    pub is_further : StepsTo nf strands instances old new (slice_index schedule k) → IsAfter nf strands instances (take (k + 1) schedule) new
    is_further steps = subst (λ (xs : List ℕ). IsAfter nf strands instances xs new) (sym (take_more schedule k 0 within)) (is_stepped (take k schedule) old new (slice_index schedule k) after steps)

    pub is_halted : (fail : RunFail) → Steps nf strands instances old new (slice_index schedule k) (Err fail) → Ends nf strands instances schedule new (Err (halted (k + 1) fail))
    is_halted run_fail.NoMemory s = tt
    is_halted (run_fail.Stop why) s = record {
      before = k;
      place = refl;
      sent = old.sent;
      executes = after.executes;
      i = slice_index schedule k;
      named = slice_get-get_or schedule k 0 within;
      breaks = subst (λ (n : ℕ). Happens nf strands instances n old.sent (slice_index schedule k) (Err why)) (after.counts (slice_index schedule k)) s.1;
    }

module _ (nf : Term → Term) (protocol : Protocol) (run : Run) (ground : AreGroundTerms protocol.sig run.instances) where
  pub starts_after : (state : State) → Starts nf protocol.sig protocol.strands run.instances (Ok state) → IsAfter nf protocol.strands run.instances [] state
  starts_after state s = is_begun nf protocol.strands run.instances state s.1

  pub stops_at_start : (fail : RunFail) → Starts nf protocol.sig protocol.strands run.instances (Err fail) → RunsThrough nf protocol run (Err (halted 0 fail))
  stops_at_start run_fail.NoMemory s = tt
  stops_at_start (run_fail.Stop why) s = at_start why s

  module _ (begun state : State) (starts : Starts nf protocol.sig protocol.strands run.instances (Ok begun)) (schedule : List ℕ) (is : schedule ≡ run.schedule) where
    pub is_run : IsAfter nf protocol.strands run.instances schedule state → HasRun nf protocol run state
    is_run a = record {
      runs = record {
        instances = starting_instances nf protocol.sig protocol.strands run.instances ground starts.0;
        executes = subst (λ (xs : List ℕ). Executes nf protocol.strands run.instances xs state.sent) is a.executes;
      };
      each = a.each;
      counts = λ i. a.counts i ∙ ap (executions i) is;
    }

    pub is_broken : (h : Halt) → Ends nf protocol.strands run.instances schedule state (Err h) → RunsThrough nf protocol run (Err h)
    is_broken halt.NoMemory e = tt
    is_broken (halt.Break j why) e = at_step j why (starting_instances nf protocol.sig protocol.strands run.instances ground starts.0) (subst (λ (xs : List ℕ). BreaksAt nf protocol.strands run.instances xs j why) is e)
