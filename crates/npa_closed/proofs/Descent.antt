-- A run that meets a member of a closed list has a shorter run that meets one.
use Rattle.std.proofs.Common.{◌≡◌, ℕ, ◌⊎◌, inl, inr, ⊎_elim, Result, Ok, Err, List, [], length, Contains, refl, sym, ap, ◌∙◌, subst}
use Rattle.fold_core.specs.declared.error.Large.{Large}
use Rattle.npa_term.specs.declared.term.Term.{Term}
use Rattle.npa_term.specs.declared.term.Var.{Var as Variable}
use Rattle.npa_term.specs.Composition.{composed}
use Rattle.npa_term.proofs.CompositionLaws.{value_of-composed}
use Rattle.npa_sig.specs.declared.protocol.Protocol.{Protocol}
use Rattle.npa_sig.specs.Operators.{PairsCommute}
use Rattle.npa_rewrite.specs.Innermost.{normalized}
use Rattle.npa_rewrite.specs.Rewriting.{AllCancel}
use Rattle.npa_rewrite.specs.Theories.{theory_of}
use Rattle.npa_model.specs.declared.pattern.Pattern.{Pattern}
use Rattle.npa_model.specs.declared.pattern.Standing.TheVariants.{Exactly}
use Rattle.npa_model.specs.declared.run.Instance.{Instance}
use Rattle.npa_model.specs.Closing.{IsClosed, StepsBack}
use Rattle.npa_model.specs.Covering.{Covers}
use Rattle.npa_model.specs.Fitting.{IsFit}
use Rattle.npa_model.specs.Meeting.{MeetsBy}
use Rattle.npa_model.specs.Patterns.{IsInitial}
use Rattle.npa_model.specs.Runs.{Executes}
use Rattle.npa_model.proofs.Closing.{closed_unmet, root_unmet}
use Rattle.npa_model.proofs.MeetingLaws.{cover_meets}
use Rattle.npa_moves.specs.declared.step.Step.{Step}
use Rattle.npa_moves.specs.GoingBack.{GoesBack}
use Rattle.npa_moves.specs.Steps.{steps_in}
use Rattle.npa_prune.specs.Pruned.{IsPruned}
use Rattle.npa_closed.specs.Closed.{AreStepsFine, IsFine}

abbrev list_of : {X : Type 0} → Result (List X) Large → List X
list_of (Ok xs) = xs
list_of (Err large) = []

-- a list that is answered is the one
pub one_list : {X : Type 0} (answer : Result (List X) Large) (xs ys : List X) → answer ≡ Ok xs → answer ≡ Ok ys → xs ≡ ys
one_list answer xs ys e f = ap list_of (sym e ∙ f)

-- q is the pattern of a step in the list of g's
record IsStepTo (protocol : Protocol) (g q : Pattern) : Type 0 where
  list : List Step
  are : steps_in protocol g ≡ Ok list
  step : Step
  there : Contains list step
  leads : step.pattern ≡ q

-- a pattern that no run meets
record IsDropped (protocol : Protocol) (g : Pattern) : Type 0 where
  fit : IsFit protocol g
  pruned : IsPruned protocol g

module _ (protocol : Protocol) (cancel : AllCancel (theory_of protocol)) (pairs : PairsCommute protocol.sig) (instances : List Instance) where
  abbrev nf : Term → Term
  nf = normalized (theory_of protocol)

  -- a schedule and what it sends
  abbrev Past : Type 0
  Past = List ℕ × List Term

  abbrev past_length : Past → ℕ
  past_length past = length past.0

  abbrev Happened : Past → Type 0
  Happened past = Executes nf protocol.strands instances past.0 past.1

  abbrev Met : Past → Pattern → Type 0
  Met past g = (a : List (Variable × Term)) × MeetsBy nf protocol.strands instances past.0 Exactly protocol.sig past.1 g a

  -- what a run meets, each pattern that covers it is met by too
  covers_met : (past : Past) (q r : Pattern) → Covers protocol.sig.sorts r q → Met past q → Met past r
  covers_met past q r (u, at, cover) (a, meets) = (
    composed u a,
    cover_meets (theory_of protocol) cancel pairs protocol.strands instances past.0 Exactly past.1 r q u a (composed u a) at cover (λ v occurs. value_of-composed u a v) meets,
  )

  module _ (unmet : (past : Past) (g : Pattern) → IsFit protocol g → IsPruned protocol g → Happened past → Met past g → ⊥) (members : List Pattern)
      (fit : (m : Pattern) → Contains members m → IsFit protocol m) (none_initial : (m : Pattern) → Contains members m → IsInitial m → ⊥)
      (fine : (m : Pattern) → Contains members m → AreStepsFine protocol m members)
      (steps_fit : (g : Pattern) (list : List Step) (step : Step) → IsFit protocol g → steps_in protocol g ≡ Ok list → Contains list step → IsFit protocol step.pattern)
      (back : (a : List (Variable × Term)) (g : Pattern) (list : List Step) (schedule : List ℕ) (sent : List Term) → IsFit protocol g → steps_in protocol g ≡ Ok list →
      Executes nf protocol.strands instances schedule sent → MeetsBy nf protocol.strands instances schedule Exactly protocol.sig sent g a → (IsInitial g → ⊥) →
      GoesBack nf protocol.sig protocol.strands instances list a g schedule sent) where
    abbrev Member : Pattern → Type 0
    Member m = Contains members m

    -- a fine pattern that fits is met by no run, or leads on to a member
    led_on : (q : Pattern) → IsFit protocol q → IsFine protocol members q → IsDropped protocol q ⊎ ((r : Pattern) × Member r × Covers protocol.sig.sorts r q)
    led_on q fits (inl pruned) = inl (record { fit = fits; pruned = pruned })
    led_on q fits (inr covered) = inr covered

    closed : IsClosed Pattern Member IsInitial (IsDropped protocol) (IsStepTo protocol) (λ q r. Covers protocol.sig.sorts r q)
    closed = record {
      none_initial = none_initial;
      steps = λ p q member to.
          let known = fine p member in
          let there : Contains known.list to.step = subst (λ (list : List Step). Contains list to.step) (one_list (steps_in protocol p) to.list known.list to.are known.are) to.there in
          subst (λ (g : Pattern). IsDropped protocol g ⊎ ((r : Pattern) × Member r × Covers protocol.sig.sorts r g)) to.leads
          (led_on to.step.pattern (steps_fit p to.list to.step (fit p member) to.are to.there) (known.fine to.step there));
    }

    dropped : (past : Past) (q : Pattern) → IsDropped protocol q → Happened past → Met past q → ⊥
    dropped past q is happened met = unmet past q is.fit is.pruned happened met

    goes_back : (past : Past) (p : Pattern) → Member p → (IsInitial p → ⊥) → Happened past → Met past p → StepsBack Past Pattern past_length Happened Met (IsStepTo protocol) past p
    goes_back past p member later happened (a, meets) =
        let known = fine p member in
        let b = back a p known.list past.0 past.1 (fit p member) known.are happened meets later in
        record {
          back = (b.rest, b.told);
          good = b.executes;
          shorter = b.shorter.one_less;
          meets = ⊎_elim
              (λ again. inl (a, again))
              (λ step. inr (step.step.pattern, record { list = known.list; are = known.are; step = step.step; there = step.there; leads = refl }, (step.by_, step.meets)))
              b.meets;
        }

    -- no run meets a member,
    pub member_unmet : (past : Past) (m : Pattern) → Member m → Happened past → Met past m → ⊥
    member_unmet past m member happened met =
        closed_unmet Past Pattern past_length Happened Met Member IsInitial (IsDropped protocol) (IsStepTo protocol) (λ q r. Covers protocol.sig.sorts r q) closed
        dropped (λ run q r covers good. covers_met run q r covers) goes_back past m member happened met

    -- and none meets a fine pattern that fits
    pub fine_unmet : (past : Past) (q : Pattern) → IsFit protocol q → IsFine protocol members q → Happened past → Met past q → ⊥
    fine_unmet past q fits is happened met =
        root_unmet Past Pattern past_length Happened Met Member IsInitial (IsDropped protocol) (IsStepTo protocol) (λ q r. Covers protocol.sig.sorts r q) closed
        dropped (λ run q r covers good. covers_met run q r covers) goes_back past q (led_on q fits is) happened met
