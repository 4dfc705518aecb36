-- What the search for the parts of an aim says of the run.
use Rattle.std.proofs.Common.{◌≡◌, ℕ, zero, suc, ◌+◌, ◌<◌, ◌≤◌, ⊎_elim, true, List, [], ◌∷◌, Some, Result, Ok, Err, IfOk, refl, ap, sym, ◌∙◌, subst, slice_get, take, drop, length, Contains, arith}
use Rattle.std.proofs.lemmas.List.{take_all, take-append-drop}
use Rattle.std.proofs.lemmas.Bool.{cases_lt, cases_order}
use Rattle.std.proofs.lemmas.Option.{same_Some, none-some, slice_get-get_or}
use Rattle.std.proofs.lemmas.List.Elements.{Contains-append_left, Contains-append_right}
use Rattle.npa_sorts.proofs.Climbs.{decides}
use Rattle.npa_term.specs.declared.error.NoMemory.{NoMemory}
use Rattle.npa_term.specs.declared.term.Term.{Term}
use Rattle.npa_term.specs.Canonical.{canonical}
use Rattle.npa_sig.specs.declared.protocol.Protocol.{Protocol}
use Rattle.npa_sig.specs.Signature.{Signature}
use Rattle.npa_sig.specs.Sorting.{is_sort, well_sorted, IsGroundTerm}
use Rattle.npa_sig.specs.declared.fault.LeastFail.TheVariants.{Past}
use Rattle.npa_sig.specs.Least.{IsTermOf, IsLeastOf}
use Rattle.npa_model.specs.declared.aim.Part.{Part}
use Rattle.npa_model.specs.declared.aim.Aim.{Aim}
use Rattle.npa_model.specs.declared.run.Run.{Run}
use Rattle.npa_model.specs.WellFormed.{IsWellFormedAim}
use Rattle.npa_sig.specs.WellFormed.{AreSorts, IsWellFormedProtocol}
use Rattle.npa_rewrite.specs.declared.theory.Theory.{Theory}
use Rattle.npa_rewrite.specs.Innermost.{normalized}
use Rattle.npa_rewrite.specs.Rewriting.{AllCancel, IsConvergent}
use Rattle.npa_sig.specs.Operators.{PairsCommute}
use Rattle.npa_rewrite.proofs.Normalized.{same_form}
use Rattle.npa_model.specs.Accepted.{IsAccepted}
use Rattle.npa_rewrite.specs.Accepted.{IsAcceptedTerm}
use Rattle.npa_model.specs.Instances.{AreGroundTerms}
use Rattle.npa_rewrite.specs.Normal.{IsNormalTerm}
use Rattle.npa_model.specs.Aims.{Meets, MeetsSomehow, Reaches, Misses}
use Rattle.npa_model.specs.State.{State}
use Rattle.npa_model.proofs.AimLaws.{meets_front, runs_or_breaks, breaks_once, reaches_or_misses, misses_once}
use Rattle.npa_model.proofs.OneForm.{same_reaches, same_breaks, same_misses}
use Rattle.npa_model.proofs.SentTerms.{sent_terms}
use Rattle.npa_sig.proofs.SortedTerms.{below_at, contained}
use Rattle.npa_replay.specs.declared.execution.Halt.{Halt}
use Rattle.npa_replay.specs.declared.execution.Halt.TheVariants as halt
use Rattle.npa_replay.specs.Executions.{HasRun, RunsThrough}
use Rattle.npa_match.specs.Matching.{HasMatcher}
use Rattle.npa_replay.specs.Choices.{HasGroundTerm, HaveGroundTerms, Can, IsMost}
use Rattle.npa_replay.specs.declared.answer.Replay.{Replay}
use Rattle.npa_replay.specs.declared.answer.Replay.TheVariants as replay
use Rattle.npa_replay.specs.Replays.{IsTrueOf, OfNormalForms, Stops}
use Rattle.npa_replay.proofs.Meeting.{IsFormed, met_somehow, somehow_met}
use Rattle.npa_replay.proofs.Settling.{Stable, stable}
use Rattle.npa_replay.proofs.Choosing.{front_front}

taken_member : (n : ℕ) (ps : List Part) (p : Part) → Contains (take n ps) p → Contains ps p
taken_member n ps p h = subst (λ (qs : List Part). Contains qs p) (take-append-drop n ps) (Contains-append_left (take n ps) (drop n ps) p h)

-- an assignment has a ground term for each sort
assigned_terms : (nf : Term → Term) (sig : Signature) (sorts : List ℕ) (run : Run) (sent : List Term) (parts : List Part) → MeetsSomehow nf sig sorts run sent parts → HaveGroundTerms sig sorts
assigned_terms nf sig sorts run sent parts m = record {
  each = λ i s at.
      let x = below_at sig m.values sorts m.assigns.sorted i s at in
      record { term = x.term; good = (m.assigns.normal x.term (contained sig m.values i x.term x.there)).term; below = x.below };
}

module _ (th : Theory) (protocol : Protocol) (formed : IsWellFormedProtocol protocol) (steady : Stable th protocol.sig) (aim : Aim) (good : IsWellFormedAim protocol.sig protocol.strands aim)
    (run : Run) (state : State) (has : HasRun (normalized th) protocol run state) where
  sent_good : (u : Term) → Contains state.sent u → IsNormalTerm (normalized th) protocol.sig u × (canonical u ≡ u)
  sent_good =
      sent_terms (normalized th) protocol.sig protocol.strands formed.strands run.instances has.runs.instances.each
      (λ u. IsNormalTerm (normalized th) protocol.sig u × (canonical u ≡ u)) steady.forms has.runs.executes

  part_formed : IsAccepted th aim → (n : ℕ) (p : Part) → Contains (take n aim.parts) p → IsFormed (IsAcceptedTerm th) protocol.sig protocol.strands aim.sorts p
  part_formed accepted n p h = let there = taken_member n aim.parts p h in (good.parts p there, accepted p there)

  somehow : IsAccepted th aim → HaveGroundTerms protocol.sig aim.sorts → (n : ℕ) → Can run.instances state (HasMatcher protocol.sig.sorts) (take n aim.parts) [] [] →
      MeetsSomehow (normalized th) protocol.sig aim.sorts run state.sent (take n aim.parts)
  somehow accepted have n c =
      met_somehow (normalized th) (IsAcceptedTerm th) protocol.sig protocol.strands aim.sorts run state steady.parts (steady.values aim.sorts) has.runs.instances.each sent_good has.counts
      (take n aim.parts) (part_formed accepted n) (λ i s at. steady.sorts s (have.each i s at)) c

  -- each part is met
  pub reaches : IsAccepted th aim → HaveGroundTerms protocol.sig aim.sorts → (most : ℕ) → IsMost run.instances state protocol.sig.sorts aim.parts [] [] most → most ≡ length aim.parts → Reaches (normalized th) protocol aim run
  reaches accepted have most is e = record {
    sent = state.sent;
    runs = has.runs;
    meets = subst (λ (ps : List Part). MeetsSomehow (normalized th) protocol.sig aim.sorts run state.sent ps) (take_all most aim.parts (omega (arith, e))) (somehow accepted have most is.met);
  }

  -- the part behind those that are met is missed
  pub misses : IsAccepted th aim → HaveGroundTerms protocol.sig aim.sorts → (most : ℕ) → IsMost run.instances state protocol.sig.sorts aim.parts [] [] most → (most ≡ length aim.parts → ⊥) → Misses (normalized th) protocol aim run (most + 1)
  misses accepted have most is other =
      let short : most < length aim.parts = strictly most (length aim.parts) is.within other in
      record {
        sent = state.sent;
        runs = has.runs;
        within = (omega arith, omega (arith, short));
        fails = λ m. is.missed short
            (somehow_met (normalized th) (IsAcceptedTerm th) protocol.sig protocol.strands aim.sorts run state steady.parts (steady.values aim.sorts) has.runs.instances.each sent_good has.counts
            (take (most + 1) aim.parts) (part_formed accepted (most + 1)) m);
        before = λ j first l.
            let m = somehow accepted have most is.met in
            let f = meets_front (normalized th) run state.sent m.values m.meets j in
            record {
              values = m.values;
              assigns = m.assigns;
              chosen = f.front;
              meets = subst (λ (ps : List Part). Meets (normalized th) run state.sent m.values ps f.front) (front_front j most aim.parts (omega (arith, l))) f.meets;
            };
      }
    where
      strictly : (a b : ℕ) → a ≤ b → (a ≡ b → ⊥) → a < b
      strictly a b l n = ⊎_elim (λ (e : a ≡ b). absurd (n e)) (λ o. ⊎_elim (λ (p : a < b). p) (λ (p : b < a). let no : ⊥ = omega (arith, l, p) in absurd no) o) (cases_order a b)

  -- where some sort has no ground term nothing meets the first part
  pub misses_first : (HaveGroundTerms protocol.sig aim.sorts → ⊥) → Misses (normalized th) protocol aim run 1
  misses_first none = record {
    sent = state.sent;
    runs = has.runs;
    within = (omega arith, good.has_parts);
    fails = λ m. none (assigned_terms (normalized th) protocol.sig aim.sorts run state.sent (take 1 aim.parts) m);
    before = λ j first l. let no : ⊥ = omega (arith, first, l) in absurd no;
  }

-- the words of the least terms
module _ (sig : Signature) (s : ℕ) where
  pub term_of : HasGroundTerm sig s → (t : Term) × IsTermOf sig s t
  term_of h = (h.term, record { sorted = h.good.sorted; ground = h.good.ground; below = (decides sig.sorts _ s).0 h.below })

  pub from_term_of : (t : Term) → IsTermOf sig s t → HasGroundTerm sig s
  from_term_of t is = record { term = t; good = record { sorted = is.sorted; ground = is.ground }; below = (decides sig.sorts _ s).1 is.below }

  pub from_least : (t : Term) → IsLeastOf sig s (Ok (Some t)) → HasGroundTerm sig s
  from_least t is = from_term_of t is.0.is

  pub from_past : (n : ℕ) → IsLeastOf sig s (Err (Past n)) → HasGroundTerm sig s
  from_past n is = from_term_of is.1.term is.1.reached

  pub none_wanted : (sorts : List ℕ) → Contains sorts s → ((t : Term) → IsTermOf sig s t → ⊥) → HaveGroundTerms sig sorts → ⊥
  none_wanted sorts h empty have =
      let x = term_of (have.each h.0 s (slice_get-get_or sorts h.0 s h.1 ∙ ap Some h.2)) in
      empty x.0 x.1

pub all_have : (sig : Signature) (sorts : List ℕ) (n : ℕ) → AreSorts sig sorts → sig.sorts.declared + 2 ≤ n → ((s : ℕ) → s < n → Contains sorts s → HasGroundTerm sig s) → HaveGroundTerms sig sorts
all_have sig sorts n are l each = record {
  each = λ i s at.
      let h : Contains sorts s = there sorts i s at in
      let small : s < sig.sorts.declared + 2 = below (are s h) in
      each s (omega (arith, small, l)) h;
}
  where
    below : {s : ℕ} → is_sort sig s ≡ true → s < sig.sorts.declared + 2
    below e = grind arith

    there : (xs : List ℕ) (i s : ℕ) → slice_get xs i ≡ Some s → Contains xs s
    there [] i s e = absurd (none-some s e)
    there (x ∷ xs) zero s e = (0, omega arith, same_Some x s e)
    there (x ∷ xs) (suc i) s e = Contains-append_right (x ∷ []) xs s (there xs i s e)

pub one_more_has : (sig : Signature) (sorts : List ℕ) (n : ℕ) → ((s : ℕ) → s < n → Contains sorts s → HasGroundTerm sig s) → (Contains sorts n → HasGroundTerm sig n) → (s : ℕ) → s < n + 1 → Contains sorts s → HasGroundTerm sig s
one_more_has sig sorts n before here s l h = ⊎_elim
    (λ (a : s < n). before s a h)
    (λ (a : n ≤ s). let same : n ≡ s = omega (arith, a, l) in subst (λ k. HasGroundTerm sig k) same (here (subst (λ k. Contains sorts k) (sym same) h)))
    (cases_lt s n)

-- no two answers are true of one run
module _ (nf : Term → Term) (protocol : Protocol) (aim : Aim) (run : Run) where
  pub one_answer : (a b : Replay) → IsTrueOf nf protocol aim run a → IsTrueOf nf protocol aim run b → a ≡ b
  one_answer replay.Reaches replay.Reaches x y = refl
  one_answer replay.Reaches (replay.Stops k because) x y = absurd (runs_or_breaks nf protocol run x.runs y)
  one_answer replay.Reaches (replay.Misses k) x y = absurd (reaches_or_misses nf protocol run aim x y)
  one_answer (replay.Stops j why) replay.Reaches x y = absurd (runs_or_breaks nf protocol run y.runs x)
  one_answer (replay.Stops j why) (replay.Stops k because) x y = let same = breaks_once nf protocol run x y in λ i. replay.Stops (same.0 i) (same.1 i)
  one_answer (replay.Stops j why) (replay.Misses k) x y = absurd (runs_or_breaks nf protocol run y.runs x)
  one_answer (replay.Misses j) replay.Reaches x y = absurd (reaches_or_misses nf protocol run aim y x)
  one_answer (replay.Misses j) (replay.Stops k because) x y = absurd (runs_or_breaks nf protocol run x.runs y)
  one_answer (replay.Misses j) (replay.Misses k) x y = ap replay.Misses (misses_once nf protocol run aim x y)

-- from the normal forms that are made to those of the definition
module _ (th : Theory) (cancel : AllCancel th) (protocol : Protocol) (is : th.sig ≡ protocol.sig) (formed : IsWellFormedProtocol protocol) where
  pub steady_ : Stable th protocol.sig
  steady_ = subst (Stable th) is (stable th cancel (subst PairsCommute (sym is) formed.signature.pairs))

  module _ (convergent : IsConvergent th) (aim : Aim) (good : IsWellFormedAim protocol.sig protocol.strands aim) (run : Run) (ground : AreGroundTerms protocol.sig run.instances) where
    true_of : (nf : Term → Term) → ((t : Term) → IsGroundTerm protocol.sig t → normalized th t ≡ nf t) → (answer : Replay) → IsTrueOf (normalized th) protocol aim run answer → IsTrueOf nf protocol aim run answer
    true_of nf same replay.Reaches x = same_reaches protocol formed (normalized th) nf same run aim good x
    true_of nf same (replay.Stops j why) x = same_breaks protocol formed (normalized th) nf same run ground j why x
    true_of nf same (replay.Misses k) x = same_misses protocol formed (normalized th) nf same run aim good k x

    -- the answer is true of the run
    pub answers : (answer : Replay) → IsTrueOf (normalized th) protocol aim run answer → OfNormalForms th (λ nf. IsTrueOf nf protocol aim run answer)
    answers answer x = λ nf gives.
        true_of nf (λ t g. sym (same_form th nf t cancel convergent gives (subst (λ (s : Signature). well_sorted s t ≡ true) (sym is) g.sorted))) answer x

    -- and no other is
    pub only_answer : (answer : Replay) → OfNormalForms th (λ nf. IsTrueOf nf protocol aim run answer) → OfNormalForms th (λ nf. (other : Replay) → IsTrueOf nf protocol aim run other → other ≡ answer)
    only_answer answer x = λ nf gives other true. one_answer nf protocol aim run other answer true (x nf gives)

    module _ (h : Halt) (breaks : RunsThrough (normalized th) protocol run (Err h)) where
      pub stops : (result : Result Replay NoMemory) → Stops h result → IfOk result (λ answer. OfNormalForms th (λ nf. IsTrueOf nf protocol aim run answer))
      stops result s = by h breaks s
        where
          by : (h : Halt) → RunsThrough (normalized th) protocol run (Err h) → Stops h result → IfOk result (λ answer. OfNormalForms th (λ nf. IsTrueOf nf protocol aim run answer))
          by (halt.Break j why) b s =
              subst (λ (r : Result Replay NoMemory). IfOk r (λ answer. OfNormalForms th (λ nf. IsTrueOf nf protocol aim run answer))) (sym s) (answers (replay.Stops j why) b)
          by halt.NoMemory b s = subst (λ (r : Result Replay NoMemory). IfOk r (λ answer. OfNormalForms th (λ nf. IsTrueOf nf protocol aim run answer))) (sym s.1) tt

    pub only_true : (result : Result Replay NoMemory) → IfOk result (λ answer. OfNormalForms th (λ nf. IsTrueOf nf protocol aim run answer)) →
        IfOk result (λ answer. OfNormalForms th (λ nf. (other : Replay) → IsTrueOf nf protocol aim run other → other ≡ answer))
    only_true (Ok answer) x = only_answer answer x
    only_true (Err e) x = tt
