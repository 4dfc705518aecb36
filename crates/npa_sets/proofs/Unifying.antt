-- What unification answers for the pairs that are made.
use Rattle.std.proofs.Common.{◌≡◌, ℕ, Result, Ok, Err, IfOk, List, [], refl, sym, ◌∙◌, ap, Contains}
use Rattle.std.specs.Result.{IsErrOf}
use Rattle.npa_sorts.specs.Subsorts.{Subsorts, AreSorts}
use Rattle.npa_sorts.proofs.LowerLaws.{IsAcyclic}
use Rattle.npa_term.specs.declared.term.Term.{Term}
use Rattle.npa_term.specs.declared.term.Var.{Var as Variable}
use Rattle.npa_unify.specs.declared.error.UnifyFail.{UnifyFail}
use Rattle.npa_unify.specs.declared.error.UnifyFail.TheVariants.{NoMemory, TooLarge, TooMany}
use Rattle.npa_unify.specs.Answers.{judged, unifiers}
use Rattle.npa_moves.specs.Moves.{each_with}
use Rattle.npa_moves.specs.Steps.{solve_over}
use Rattle.npa_sets.specs.Sets.{IsLow}
use Rattle.npa_sets.specs.Told.{AreCut, GivesUnifiers}
use Rattle.npa_sets.proofs.Cutting.{cut_answered}

abbrev Unifiers : Type 0
Unifiers = Result (List (List (Variable × Term))) UnifyFail

pub given_unifiers : (o : Subsorts) (next : ℕ) (made pairs : List (Term × Term)) (r : Unifiers) → made ≡ pairs →
    IfOk r (λ ss. judged (unifiers o made next) ≡ Ok ss) → (IsErrOf r TooMany → judged (unifiers o made next) ≡ Err TooMany) →
    ((n : ℕ) → IsErrOf r (TooLarge n) → judged (unifiers o made next) ≡ Err (TooLarge n)) → GivesUnifiers r (solve_over o next pairs)
unfolding solve_over
given_unifiers o next made pairs (Ok ss) is list many large = ap (λ ps. judged (unifiers o ps next)) (sym is) ∙ list
given_unifiers o next made pairs (Err TooMany) is list many large = ap (λ ps. judged (unifiers o ps next)) (sym is) ∙ many refl
given_unifiers o next made pairs (Err (TooLarge n)) is list many large = ap (λ ps. judged (unifiers o ps next)) (sym is) ∙ large n refl
given_unifiers o next made pairs (Err NoMemory) is list many large = tt

pub cut_unifiers : (m : Term) (o : Subsorts) (next : ℕ) → AreSorts o → IsAcyclic o → IsLow next m → (made : List (Term × Term)) (ts : List Term) → ((t : Term) → Contains ts t → IsLow next t) →
    (r : Unifiers) → made ≡ each_with m ts → IfOk r (λ ss. judged (unifiers o made next) ≡ Ok ss) → IfOk r (λ ss. ss ≡ [] → AreCut o next m ts)
unfolding solve_over
cut_unifiers m o next sorts acyclic low made ts all (Ok ss) is list = λ none.
    cut_answered m o next sorts acyclic low ts all (ap (λ ps. judged (unifiers o ps next)) (sym is) ∙ list ∙ ap Ok none)
cut_unifiers m o next sorts acyclic low made ts all (Err e) is list = tt
