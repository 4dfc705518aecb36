-- The moves of learning or introducing are one problem of told moves.
use Rattle.std.proofs.Common.{◌≡◌, ℕ, length, Result, Ok, Err, List, [], sym, ◌∙◌, ap, subst}
use Rattle.std.specs.List.{flat_map}
use Rattle.npa_sorts.specs.Subsorts.{Subsorts}
use Rattle.npa_term.specs.declared.term.Term.{Term}
use Rattle.npa_term.specs.declared.term.Var.{Var as Variable}
use Rattle.npa_model.specs.declared.pattern.Pattern.{Pattern}
use Rattle.npa_moves.specs.declared.error.StepFail.{StepFail}
use Rattle.npa_moves.specs.declared.step.Rule.{Rule}
use Rattle.npa_moves.specs.declared.step.Step.{Step}
use Rattle.npa_moves.specs.Moves.{Move}
use Rattle.npa_moves.specs.Steps.{Gives, solve_over}
use Rattle.npa_sets.specs.declared.sets.FactSet.{FactSet}
use Rattle.npa_sets.specs.Sets.{sets_of}
use Rattle.npa_back.specs.declared.kind.Kind.{Kind}
use Rattle.npa_back.specs.Behind.{drawn_behind, problem_behind}
use Rattle.npa_back.specs.Told.{GivesTold, drawn_of, told_moves}
use Rattle.npa_back.proofs.ToldSets.{no_sets, sets_found, sets_stop}

module _ (o : Subsorts) (vs : List Variable) (made : List Step) (k : Kind) (before : Pattern) (m : Term) (g : Pattern) (next : ℕ) (moves : List (Move Rule)) (are : told_moves k before m g next ≡ moves) (at : ℕ) (place : at ≡ length made) where
  pub told_stops : (e : StepFail) → GivesTold (Err e) at (sets_of o next m g.known) → Gives {A = List Step} (Err e) (problem_behind (solve_over o) vs made moves)
  told_stops e told =
      subst (λ ms. Gives {A = List Step} (Err e) (problem_behind (solve_over o) vs made ms)) are
      (sets_stop o vs k before m g next made e (subst (λ n. GivesTold (Err e) n (sets_of o next m g.known)) place told))

  pub told_empty : (sets : List FactSet) → GivesTold (Ok sets) at (sets_of o next m g.known) → sets ≡ [] → problem_behind (solve_over o) vs made moves ≡ Ok made
  told_empty sets told none =
      sym (ap (problem_behind (solve_over o) vs made) are)
      ∙ no_sets o vs k before m g next made sets (subst (λ n. GivesTold (Ok sets) n (sets_of o next m g.known)) place told) none

  pub told_goes : (sets : List FactSet) (r : Result (List Step) StepFail) → GivesTold (Ok sets) at (sets_of o next m g.known) →
      Gives r (drawn_behind vs made (flat_map (drawn_of k vs before m g.unknown) sets)) → Gives r (problem_behind (solve_over o) vs made moves)
  told_goes sets r told given =
      subst (Gives r) (sym (sets_found o vs k before m g next made sets (subst (λ n. GivesTold (Ok sets) n (sets_of o next m g.known)) place told)) ∙ ap (problem_behind (solve_over o) vs made) are) given
