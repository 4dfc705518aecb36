-- Each step of a list is a step by its own unifier, and each root is a root by its own.
use Rattle.std.proofs.Common.{◌≡◌, ℕ, Ok, Some, List, [], ◌∷◌, map, zip, slice_get, Contains, refl, sym, ◌∙◌, ap, subst}
use Rattle.std.specs.List.{flat_map}
use Rattle.npa_term.specs.declared.term.Term.{Term, Var}
use Rattle.npa_term.specs.declared.term.Var.{Var as Variable}
use Rattle.npa_sig.specs.declared.protocol.Protocol.{Protocol}
use Rattle.npa_sig.specs.declared.protocol.Strand.{Strand}
use Rattle.npa_unify.specs.Answers.{unifiers}
use Rattle.npa_unify.proofs.Members.{only_one}
use Rattle.npa_rewrite.specs.Theories.{theory_of}
use Rattle.npa_variants.specs.declared.variant.Variant.{Variant}
use Rattle.npa_variants.specs.StrandVariants.{IsStrandVariant}
use Rattle.npa_variants.proofs.Members.{of_mapped}
use Rattle.npa_variants.proofs.Starting.{in_once}
use Rattle.npa_variants.proofs.Theories.{IsNarrowing}
use Rattle.npa_model.specs.declared.aim.Aim.{Aim}
use Rattle.npa_model.specs.declared.pattern.Pattern.{Pattern}
use Rattle.npa_model.specs.Accepted.{part_terms}
use Rattle.npa_model.specs.Fitting.{IsFit}
use Rattle.npa_model.specs.WellFormed.{IsPlainAim, IsWellFormedAim}
use Rattle.npa_moves.specs.declared.step.Root.{Root}
use Rattle.npa_moves.specs.declared.step.Rule.{Rule}
use Rattle.npa_moves.specs.declared.step.Step.{Step}
use Rattle.npa_moves.specs.Finishing.{Found, draft_of, found_of, instance_of, new_numbers}
use Rattle.npa_moves.specs.Gathering.{Solve, gathered}
use Rattle.npa_moves.specs.Leading.{FitsPattern, FitsVariables, IsStepBy}
use Rattle.npa_moves.specs.Lists.{Made, root_problem, step_problems}
use Rattle.npa_moves.specs.RootLeading.{IsRootBy, aim_variables}
use Rattle.npa_moves.specs.Roots.{aim_once, root_of, roots_in, roots_of}
use Rattle.npa_moves.specs.Steps.{found_variants, pattern_once, solve_over, step_of, steps_in, steps_of}
use Rattle.npa_moves.proofs.Complete.{mapped_ok}
use Rattle.npa_moves.proofs.OwnMoves.{occurs_once}
use Rattle.npa_moved.proofs.Drawing.{IsDrawn, of_gathered}
use Rattle.npa_moved.proofs.Fit.{solved_by}
use Rattle.npa_moved.proofs.FitMoves.{messages, move_fits, spoken}
use Rattle.npa_moved.proofs.FitRoots.{root_fits}
use Rattle.npa_moved.proofs.SoundMoves.{move_sound, unifier_below}
use Rattle.npa_moved.proofs.SoundRoots.{choice_sound}
use Rattle.npa_moved.proofs.StepMoves.{IsStepMove, of_problems}

-- ## The variables that are bound

names_of : (vs : List Variable) (h : Term → Term) (f : Variable → Term) → map (λ b. b.0) (zip vs (map h (map f vs))) ≡ vs
names_of [] h f = refl
names_of (v ∷ vs) h f = ap (λ ws. v ∷ ws) (names_of vs h f)

-- a result binds these variables, each in its place
pub found_names : {L : Type 0} (label : L) (vs : List Variable) (from : Pattern) (s : List (Variable × Term)) → map (λ b. b.0) (found_of label vs (draft_of vs from s)).unifier ≡ vs
found_names label vs from s = names_of vs (instance_of (new_numbers (draft_of vs from s))) (λ v. instance_of s (Var v))

module _ (protocol : Protocol) (g : Pattern) (list : List Step) (step : Step) (is : steps_in protocol g ≡ Ok list) (there : Contains list step) where
  abbrev solve : Solve
  solve = solve_over protocol.sig.sorts

  abbrev variants : Strand → List Variant
  variants = found_variants protocol

  abbrev vs : List Variable
  vs = pattern_once g

  -- A step of the list is what is drawn from a move.
  record IsOfMove : Type 0 where
    pub found : Found Rule
    pub drawn : IsDrawn solve vs (step_problems protocol.strands variants g) found
    pub made : step ≡ step_of found

  of_move : IsOfMove
  unfolding steps_of
  of_move =
      let answer = mapped_ok step_of (gathered solve vs 0 (step_problems protocol.strands variants g)) list is in
      let one = of_mapped step_of answer.0 step (subst (λ (xs : List Step). Contains xs step) answer.2 there) in
      record { found = one.0; drawn = of_gathered solve vs 0 (step_problems protocol.strands variants g) answer.0 one.0 answer.1 one.1; made = one.2 }

  pub step_names : map (λ b. b.0) step.unifier ≡ pattern_once g
  step_names =
      let d = of_move.drawn in
      ap (λ (x : Step). map (λ b. b.0) x.unifier) of_move.made
      ∙ ap (λ (x : Found Rule). map (λ b. b.0) x.unifier) d.is
      ∙ found_names d.move.label vs d.move.from d.unifier

  module _ (can : IsNarrowing (theory_of protocol)) (fit : IsFit protocol g)
      (varied : (s : ℕ) (strand : Strand) (v : Variant) → slice_get protocol.strands s ≡ Some strand → Contains (variants strand) v → IsStrandVariant (theory_of protocol) strand v) where
    by_found : (P : List (Variable × Term) → Pattern → Type 0) → P (found_of of_move.drawn.move.label vs (draft_of vs of_move.drawn.move.from of_move.drawn.unifier)).unifier (found_of of_move.drawn.move.label vs (draft_of vs of_move.drawn.move.from of_move.drawn.unifier)).pattern →
        P step.unifier step.pattern
    by_found P p = subst (λ (x : Step). P x.unifier x.pattern) (sym of_move.made) (subst (λ (x : Found Rule). P x.unifier x.pattern) (sym of_move.drawn.is) p)

    listed : Contains (unifiers protocol.sig.sorts of_move.drawn.move.pairs of_move.drawn.move.next) of_move.drawn.unifier
    listed = solved_by protocol.sig.sorts of_move.drawn.move.next of_move.drawn.move.pairs of_move.drawn.unifiers of_move.drawn.unifier of_move.drawn.solves of_move.drawn.among

    abbrev move : IsStepMove protocol.strands g (messages protocol can g fit variants varied) variants (spoken protocol can g fit variants varied) of_move.drawn.move
    move = of_problems protocol.strands g (messages protocol can g fit variants varied) variants (spoken protocol can g fit variants varied) of_move.drawn.problem of_move.drawn.move of_move.drawn.listed of_move.drawn.member

    pub step_respects : FitsPattern protocol.sig.sorts g step.unifier
    step_respects v occurs =
        by_found (λ u q. FitsVariables protocol.sig.sorts vs u)
        (unifier_below protocol can of_move.drawn.move (move_fits protocol can g fit variants varied of_move.drawn.move move) vs of_move.drawn.unifier listed) v (occurs_once g v occurs)

    pub step_sound : IsStepBy protocol.strands variants protocol.sig.sorts step.unifier g step.pattern
    step_sound =
        by_found (λ u q. IsStepBy protocol.strands variants protocol.sig.sorts u g q)
        (move_sound protocol can g fit variants varied of_move.drawn.move move of_move.drawn.unifier listed of_move.drawn.apart)

-- ## Roots

module _ (protocol : Protocol) (aim : Aim) (list : List Root) (root : Root) (is : roots_in protocol aim ≡ Ok list) (there : Contains list root) where
  abbrev root_solve : Solve
  root_solve = solve_over protocol.sig.sorts

  abbrev root_variants : Strand → List Variant
  root_variants = found_variants protocol

  abbrev problem : List Made
  problem = root_problem protocol.strands root_variants aim

  -- A root of the list is what is drawn from a choice of variants.
  record IsOfChoice : Type 0 where
    pub found : Found (List ℕ)
    pub drawn : IsDrawn root_solve (aim_once aim) (problem ∷ []) found
    pub made : root ≡ root_of found

  of_choice : IsOfChoice
  unfolding roots_of
  of_choice =
      let answer = mapped_ok root_of (gathered root_solve (aim_once aim) 0 (problem ∷ [])) list is in
      let one = of_mapped root_of answer.0 root (subst (λ (xs : List Root). Contains xs root) answer.2 there) in
      record { found = one.0; drawn = of_gathered root_solve (aim_once aim) 0 (problem ∷ []) answer.0 one.0 answer.1 one.1; made = one.2 }

  pub root_names : map (λ b. b.0) root.unifier ≡ aim_once aim
  root_names =
      let d = of_choice.drawn in
      ap (λ (x : Root). map (λ b. b.0) x.unifier) of_choice.made
      ∙ ap (λ (x : Found (List ℕ)). map (λ b. b.0) x.unifier) d.is
      ∙ found_names d.move.label (aim_once aim) d.move.from d.unifier

  module _ (can : IsNarrowing (theory_of protocol)) (formed : IsWellFormedAim protocol.sig protocol.strands aim) (plain : IsPlainAim aim)
      (varied : (s : ℕ) (strand : Strand) (v : Variant) → slice_get protocol.strands s ≡ Some strand → Contains (found_variants protocol strand) v → IsStrandVariant (theory_of protocol) strand v) where
    abbrev choice : Made
    choice = of_choice.drawn.move

    abbrev unifier : List (Variable × Term)
    unifier = of_choice.drawn.unifier

    by_choice : (P : List (Variable × Term) → Pattern → Type 0) → P (found_of choice.label (aim_once aim) (draft_of (aim_once aim) choice.from unifier)).unifier (found_of choice.label (aim_once aim) (draft_of (aim_once aim) choice.from unifier)).pattern →
        P root.unifier root.pattern
    by_choice P p = subst (λ (x : Root). P x.unifier x.pattern) (sym of_choice.made) (subst (λ (x : Found (List ℕ)). P x.unifier x.pattern) (sym of_choice.drawn.is) p)

    chosen : Contains problem choice
    chosen = subst (λ (ms : List Made). Contains ms choice) (sym (only_one problem of_choice.drawn.problem of_choice.drawn.listed)) of_choice.drawn.member

    unifies_choice : Contains (unifiers protocol.sig.sorts choice.pairs choice.next) unifier
    unifies_choice = solved_by protocol.sig.sorts choice.next choice.pairs of_choice.drawn.unifiers unifier of_choice.drawn.solves of_choice.drawn.among

    pub root_respects : FitsVariables protocol.sig.sorts (aim_variables aim) root.unifier
    root_respects v c =
        by_choice (λ u q. FitsVariables protocol.sig.sorts (aim_once aim) u)
        (unifier_below protocol can choice (root_fits protocol can root_variants varied aim formed plain choice chosen) (aim_once aim) unifier unifies_choice) v
        (in_once (flat_map part_terms aim.parts) v c)

    pub root_sound : IsRootBy protocol.strands root_variants protocol.sig.sorts root.unifier aim root.pattern
    root_sound =
        by_choice (λ u q. IsRootBy protocol.strands root_variants protocol.sig.sorts u aim q)
        (choice_sound protocol can root_variants varied aim formed plain choice chosen unifier unifies_choice)
