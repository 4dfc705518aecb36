-- No run meets a member of a closed list or a root of its aim, and none reaches the aim, whatever function
-- has the normal forms.
use Rattle.std.proofs.Common.{◌≡◌, ℕ, Ok, List, Contains, sym, subst}
use Rattle.npa_term.specs.declared.term.Term.{Term}
use Rattle.npa_term.specs.declared.term.Var.{Var as Variable}
use Rattle.npa_sig.specs.declared.protocol.Protocol.{Protocol}
use Rattle.npa_sig.specs.WellFormed.{IsWellFormedProtocol}
use Rattle.npa_rewrite.specs.Innermost.{normalized}
use Rattle.npa_rewrite.specs.Rewriting.{AllCancel, GivesNormalForms, IsConvergent}
use Rattle.npa_rewrite.specs.Theories.{theory_of}
use Rattle.npa_model.specs.declared.aim.Aim.{Aim}
use Rattle.npa_model.specs.declared.pattern.Pattern.{Pattern}
use Rattle.npa_model.specs.declared.pattern.Standing.TheVariants.{Exactly}
use Rattle.npa_model.specs.declared.run.Instance.{Instance}
use Rattle.npa_model.specs.declared.run.Run.{Run}
use Rattle.npa_model.specs.Accepted.{IsAccepted}
use Rattle.npa_model.specs.Aims.{Assigns, IsRun, Meets, Reaches}
use Rattle.npa_model.specs.Fitting.{IsFit}
use Rattle.npa_model.specs.Instances.{AreInstances}
use Rattle.npa_model.specs.Meeting.{MeetsBy}
use Rattle.npa_model.specs.Patterns.{IsInitial}
use Rattle.npa_model.specs.Runs.{Executes}
use Rattle.npa_model.specs.WellFormed.{IsWellFormedAim}
use Rattle.npa_model.proofs.OneForm.{SameForms, same_reaches, same_run}
use Rattle.npa_model.proofs.StateForms.{made_form}
use Rattle.npa_moves.specs.declared.step.Root.{Root}
use Rattle.npa_moves.specs.declared.step.Step.{Step}
use Rattle.npa_moves.specs.GoingBack.{AreNormalUnder, GoesBack, MeetsRoot}
use Rattle.npa_moves.specs.Roots.{roots_in}
use Rattle.npa_moves.specs.Steps.{steps_in}
use Rattle.npa_prune.specs.Pruned.{IsPruned}
use Rattle.npa_closed.specs.Closed.{IsListClosed}
use Rattle.npa_closed.proofs.Aimed.{aim_normal}
use Rattle.npa_closed.proofs.Alike.{meets_alike}
use Rattle.npa_closed.proofs.Descent.{fine_unmet, member_unmet, one_list}

-- ## What is known of a protocol that is ready, by the normal forms that are made

module _ (protocol : Protocol) where
  abbrev pub made : Term → Term
  made = normalized (theory_of protocol)

  -- pruned patterns are met by no run
  abbrev pub PrunedUnmet : Type 0
  PrunedUnmet = (run : Run) (sent : List Term) (g : Pattern) (a : List (Variable × Term)) → IsRun made protocol run sent → IsFit protocol g → IsPruned protocol g →
      MeetsBy made protocol.strands run.instances run.schedule Exactly protocol.sig sent g a → ⊥

  -- steps lead to patterns that fit
  abbrev pub StepsFit : Type 0
  StepsFit = (g : Pattern) (list : List Step) (step : Step) → IsFit protocol g → steps_in protocol g ≡ Ok list → Contains list step → IsFit protocol step.pattern

  -- and runs go back along them
  abbrev pub RunsGoBack : Type 0
  RunsGoBack = (a : List (Variable × Term)) (g : Pattern) (list : List Step) (instances : List Instance) (schedule : List ℕ) (sent : List Term) → IsFit protocol g → steps_in protocol g ≡ Ok list →
      AreInstances made protocol.sig protocol.strands instances → Executes made protocol.strands instances schedule sent →
      MeetsBy made protocol.strands instances schedule Exactly protocol.sig sent g a → (IsInitial g → ⊥) → GoesBack made protocol.sig protocol.strands instances list a g schedule sent

  -- the roots of an aim fit,
  abbrev pub RootsFit : Aim → Type 0
  RootsFit aim = (list : List Root) (root : Root) → roots_in protocol aim ≡ Ok list → Contains list root → IsFit protocol root.pattern

  -- and a run that meets the aim meets one of them
  abbrev pub RootIsMet : Aim → Type 0
  RootIsMet aim = (list : List Root) (run : Run) (sent values : List Term) (chosen : List ℕ) → roots_in protocol aim ≡ Ok list → IsRun made protocol run sent →
      Assigns made protocol.sig aim.sorts values → AreNormalUnder made protocol.sig aim values → Meets made run sent values aim.parts chosen →
      MeetsRoot made protocol.sig protocol.strands run.instances list aim values run.schedule sent

module _ (protocol : Protocol) (cancel : AllCancel (theory_of protocol)) (convergent : IsConvergent (theory_of protocol)) (formed : IsWellFormedProtocol protocol)
    (unmet : PrunedUnmet protocol) (steps_fit : StepsFit protocol) (back : RunsGoBack protocol)
    (aim : Aim) (members : List Pattern) (closed : IsListClosed protocol aim members) where
  -- by the normal forms that are made, no run meets a member
  made_member : (run : Run) (sent : List Term) → IsRun (made protocol) protocol run sent → (m : Pattern) (a : List (Variable × Term)) → Contains members m →
      MeetsBy (made protocol) protocol.strands run.instances run.schedule Exactly protocol.sig sent m a → ⊥
  made_member run sent runs m a there meets =
      member_unmet protocol cancel formed.signature.pairs run.instances
      (λ past g fit pruned happened met.
      let now : Run = record { instances = run.instances; schedule = past.0 } in
      unmet now past.1 g met.0 (record { instances = runs.instances; executes = happened }) fit pruned met.1)
      members closed.fit closed.none_initial closed.steps steps_fit
      (λ b g list schedule told fit are executes met later. back b g list run.instances schedule told fit are runs.instances executes met later)
      (run.schedule, sent) m there runs.executes (a, meets)

  -- and none a root
  made_root : (run : Run) (sent : List Term) → IsRun (made protocol) protocol run sent → RootsFit protocol aim → (list : List Root) (root : Root) (a : List (Variable × Term)) →
      roots_in protocol aim ≡ Ok list → Contains list root → MeetsBy (made protocol) protocol.strands run.instances run.schedule Exactly protocol.sig sent root.pattern a → ⊥
  made_root run sent runs roots_fit list root a are there meets =
      fine_unmet protocol cancel formed.signature.pairs run.instances
      (λ past g fit pruned happened met.
      let now : Run = record { instances = run.instances; schedule = past.0 } in
      unmet now past.1 g met.0 (record { instances = runs.instances; executes = happened }) fit pruned met.1)
      members closed.fit closed.none_initial closed.steps steps_fit
      (λ b g others schedule told fit is executes met later. back b g others run.instances schedule told fit is runs.instances executes met later)
      (run.schedule, sent) root.pattern (roots_fit list root are there)
      (closed.roots.fine root (subst (λ (roots : List Root). Contains roots root) (one_list (roots_in protocol aim) list closed.roots.list are closed.roots.are) there))
      runs.executes (a, meets)

  module _ (nf : Term → Term) (gives : GivesNormalForms (theory_of protocol) nf) where
    same : SameForms protocol.sig nf (made protocol)
    same t ground = sym (made_form (theory_of protocol) nf cancel convergent gives t ground)

    module _ (run : Run) (sent : List Term) (runs : IsRun nf protocol run sent) where
      own_run : IsRun (made protocol) protocol run sent
      own_run = same_run protocol formed nf (made protocol) same run sent runs

      own_meets : (g : Pattern) (a : List (Variable × Term)) → MeetsBy nf protocol.strands run.instances run.schedule Exactly protocol.sig sent g a →
          MeetsBy (made protocol) protocol.strands run.instances run.schedule Exactly protocol.sig sent g a
      own_meets g a meets = meets_alike protocol.sig nf (made protocol) same protocol.strands formed.strands run.instances runs.instances.each run.schedule Exactly sent g a meets

      pub no_member : (m : Pattern) (a : List (Variable × Term)) → Contains members m → MeetsBy nf protocol.strands run.instances run.schedule Exactly protocol.sig sent m a → ⊥
      no_member m a there meets = made_member run sent own_run m a there (own_meets m a meets)

      pub no_root : RootsFit protocol aim → (list : List Root) (root : Root) (a : List (Variable × Term)) → roots_in protocol aim ≡ Ok list → Contains list root →
          MeetsBy nf protocol.strands run.instances run.schedule Exactly protocol.sig sent root.pattern a → ⊥
      no_root roots_fit list root a are there meets = made_root run sent own_run roots_fit list root a are there (own_meets root.pattern a meets)

    pub unreached : IsWellFormedAim protocol.sig protocol.strands aim → IsAccepted (theory_of protocol) aim → RootsFit protocol aim → RootIsMet protocol aim → (run : Run) → Reaches nf protocol aim run → ⊥
    unreached aimed accepted roots_fit met run reaches =
        let own = same_reaches protocol formed nf (made protocol) same run aim aimed reaches in
        let values = own.meets.values in
        let normal = aim_normal (theory_of protocol) cancel formed.signature.pairs protocol.strands aim values aimed accepted own.meets.assigns in
        let root = met closed.roots.list run own.sent values own.meets.chosen closed.roots.are own.runs own.meets.assigns normal own.meets.meets in
        made_root run own.sent own.runs roots_fit closed.roots.list root.root root.by_ closed.roots.are root.there root.meets
