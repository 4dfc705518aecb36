-- The results of the moves of what fits do so too.
use Rattle.std.proofs.Common.{◌≡◌, ℕ, Some, Ok, List, [], ◌∷◌, slice_get, Contains, sym, subst}
use Rattle.npa_sorts.specs.Subsorts.{AreSorts, IsBelow, Subsorts}
use Rattle.npa_term.specs.declared.term.Term.{Term}
use Rattle.npa_term.specs.declared.term.Var.{Var as Variable}
use Rattle.npa_sig.specs.declared.protocol.Protocol.{Protocol}
use Rattle.npa_sig.specs.declared.protocol.Strand.{Strand}
use Rattle.npa_sig.specs.WellFormed.{IsPlainProtocol, IsWellFormedProtocol}
use Rattle.npa_unify.specs.Answers.{unifiers}
use Rattle.npa_unify.proofs.Choosing.{from_distinct}
use Rattle.npa_unify.proofs.Judging.{judged_distinct}
use Rattle.npa_unify.proofs.Members.{only_one}
use Rattle.npa_rewrite.specs.Rewriting.{AllCancel, IsConvergent}
use Rattle.npa_rewrite.specs.Theories.{theory_of}
use Rattle.npa_variants.specs.declared.variant.Variant.{Variant}
use Rattle.npa_variants.specs.Ready.{IsFound}
use Rattle.npa_variants.specs.StrandVariants.{AreStrandVariants, IsStrandVariant}
use Rattle.npa_variants.proofs.Members.{of_mapped}
use Rattle.npa_variants.proofs.Theories.{IsNarrowing}
use Rattle.npa_model.specs.declared.aim.Aim.{Aim}
use Rattle.npa_model.specs.declared.pattern.Pattern.{Pattern}
use Rattle.npa_model.specs.Fitting.{IsFit}
use Rattle.npa_model.specs.WellFormed.{IsPlainAim, IsWellFormedAim}
use Rattle.npa_model.proofs.Places.{place_of}
use Rattle.npa_moves.specs.declared.step.Root.{Root}
use Rattle.npa_moves.specs.declared.step.Step.{Step}
use Rattle.npa_moves.specs.Finishing.{Found}
use Rattle.npa_moves.specs.Gathering.{Solve, gathered}
use Rattle.npa_moves.specs.Lists.{root_problem, step_problems}
use Rattle.npa_moves.specs.Roots.{aim_once, root_of, roots_in, roots_of}
use Rattle.npa_moves.specs.Steps.{found_variants, pattern_once, solve_over, step_of, steps_in, steps_of}
use Rattle.npa_moves.proofs.Complete.{mapped_ok}
use Rattle.npa_moved.proofs.Drawing.{IsDrawn, of_gathered}
use Rattle.npa_moved.proofs.Finished.{IsFitMove, finished}
use Rattle.npa_moved.proofs.FitMoves.{messages, move_fits, spoken}
use Rattle.npa_moved.proofs.FitRoots.{root_fits}
use Rattle.npa_moved.proofs.StepMoves.{of_problems}

pub narrowing : (protocol : Protocol) → AllCancel (theory_of protocol) → IsConvergent (theory_of protocol) → IsWellFormedProtocol protocol → IsPlainProtocol protocol →
    AreSorts protocol.sig.sorts → ((r : ℕ) → IsBelow protocol.sig.sorts r r → ⊥) → IsNarrowing (theory_of protocol)
narrowing protocol cancelling convergent formed plain sorts acyclic = record {
  cancel = cancelling;
  pairs = formed.signature.pairs;
  convergent = convergent;
  sorts = sorts;
  acyclic = acyclic;
  sorted = λ e c. let at = place_of protocol.equations e c in (formed.equations at.0 e at.1).left.term.sorted;
  nameless = λ e c. let at = place_of protocol.equations e c in (plain.equations at.0 e at.1).left.nameless;
}

-- the variants of a ready protocol are variants of its strands
pub all_variants : (protocol : Protocol) → ((s : ℕ) (strand : Strand) → slice_get protocol.strands s ≡ Some strand → IsFound (theory_of protocol) strand (found_variants protocol strand)) →
    ((s : ℕ) (strand : Strand) (list : List Variant) → slice_get protocol.strands s ≡ Some strand → IsFound (theory_of protocol) strand list → AreStrandVariants (theory_of protocol) strand list) →
    (s : ℕ) (strand : Strand) (v : Variant) → slice_get protocol.strands s ≡ Some strand → Contains (found_variants protocol strand) v → IsStrandVariant (theory_of protocol) strand v
all_variants protocol found laws s strand v there c = (laws s strand (found_variants protocol strand) there (found s strand there)).each v c

-- a unifier that is answered is one of the list
pub solved_by : (o : Subsorts) (next : ℕ) (pairs : List (Term × Term)) (ss : List (List (Variable × Term))) (s : List (Variable × Term)) → solve_over o next pairs ≡ Ok ss → Contains ss s → Contains (unifiers o pairs next) s
unfolding solve_over
solved_by o next pairs ss s is c = from_distinct (unifiers o pairs next) s (subst (λ (xs : List (List (Variable × Term))). Contains xs s) (judged_distinct (unifiers o pairs next) ss is) c)

module _ (protocol : Protocol) (can : IsNarrowing (theory_of protocol))
    (varied : (s : ℕ) (strand : Strand) (v : Variant) → slice_get protocol.strands s ≡ Some strand → Contains (found_variants protocol strand) v → IsStrandVariant (theory_of protocol) strand v) where
  abbrev solve : Solve
  solve = solve_over protocol.sig.sorts

  abbrev variants : Strand → List Variant
  variants = found_variants protocol

  -- what is drawn from moves that fit fits
  drawn_fits : {L : Type 0} (vs : List Variable) (f : Found L) (ps : List _) (drawn : IsDrawn solve vs ps f) → IsFitMove protocol drawn.move → IsFit protocol f.pattern
  drawn_fits vs f ps drawn fit =
      subst (λ (x : Found _). IsFit protocol x.pattern) (sym drawn.is)
      (finished protocol can drawn.move fit vs drawn.unifier (solved_by protocol.sig.sorts drawn.move.next drawn.move.pairs drawn.unifiers drawn.unifier drawn.solves drawn.among) drawn.fine)

  pub steps_fit : (g : Pattern) (list : List Step) (step : Step) → IsFit protocol g → steps_in protocol g ≡ Ok list → Contains list step → IsFit protocol step.pattern
  unfolding steps_of
  steps_fit g list step fit is c =
      let answer = mapped_ok step_of (gathered solve (pattern_once g) 0 (step_problems protocol.strands variants g)) list is in
      let one = of_mapped step_of answer.0 step (subst (λ (xs : List Step). Contains xs step) answer.2 c) in
      let drawn = of_gathered solve (pattern_once g) 0 (step_problems protocol.strands variants g) answer.0 one.0 answer.1 one.1 in
      let moves = of_problems protocol.strands g (messages protocol can g fit variants varied) variants (spoken protocol can g fit variants varied) drawn.problem drawn.move drawn.listed drawn.member in
      subst (λ (x : Step). IsFit protocol x.pattern) (sym one.2)
      (drawn_fits (pattern_once g) one.0 (step_problems protocol.strands variants g) drawn (move_fits protocol can g fit variants varied drawn.move moves))

  pub roots_fit : (aim : Aim) (list : List Root) (root : Root) → IsWellFormedAim protocol.sig protocol.strands aim → IsPlainAim aim → roots_in protocol aim ≡ Ok list → Contains list root → IsFit protocol root.pattern
  unfolding roots_of
  roots_fit aim list root formed plain is c =
      let problem = root_problem protocol.strands variants aim in
      let answer = mapped_ok root_of (gathered solve (aim_once aim) 0 (problem ∷ [])) list is in
      let one = of_mapped root_of answer.0 root (subst (λ (xs : List Root). Contains xs root) answer.2 c) in
      let drawn = of_gathered solve (aim_once aim) 0 (problem ∷ []) answer.0 one.0 answer.1 one.1 in
      let member = subst (λ (ms : List _). Contains ms drawn.move) (sym (only_one problem drawn.problem drawn.listed)) drawn.member in
      subst (λ (x : Root). IsFit protocol x.pattern) (sym one.2)
      (drawn_fits (aim_once aim) one.0 (problem ∷ []) drawn (root_fits protocol can variants varied aim formed plain drawn.move member))
