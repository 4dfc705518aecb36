-- The sets of facts that one message makes known, each with its unifiers: all sets in their order, of
-- which those without a unifier are left out (Escobar, Meadows, Meseguer 2009, on backward narrowing).
use Rattle.std.specs.Prelude.{◌<◌, ℕ, ◌+◌, cond, nat_lt, Contains, Result, Ok, Err, List, [], ◌∷◌, ◌++◌, length}
use Rattle.npa_sorts.specs.Subsorts.{Subsorts}
use Rattle.npa_term.specs.declared.term.Term.{Term}
use Rattle.npa_term.specs.declared.term.Var.{Var as Variable}
use Rattle.npa_term.specs.Variables.{variables}
use Rattle.npa_unify.specs.declared.error.UnifyFail.{UnifyFail}
use Rattle.npa_unify.specs.declared.error.UnifyFail.TheVariants.{TooMany}
use Rattle.npa_moves.specs.Moves.{each_with}
use Rattle.npa_moves.specs.Picks.{Pick, picks, picks_from}
use Rattle.npa_moves.specs.Steps.{solve_over}
use Rattle.npa_sets.specs.declared.sets.FactSet.{FactSet}

-- A term's variables have numbers below this.
abbrev pub IsLow : ℕ → Term → Type 0
IsLow next t = (v : Variable) → Contains (variables t) v → v.num < next

-- The sets that are kept, and how many unifiers they have together.
pub record Kept : Type 0 where
  pub sets : List FactSet
  pub count : ℕ

abbrev pub none_kept : Kept
none_kept = record { sets = []; count = 0 }

-- What is done after sets are kept, unless there are too many unifiers.
abbrev pub followed : Result Kept UnifyFail → (Kept → Result Kept UnifyFail) → Result Kept UnifyFail
followed (Ok k) f = f k
followed (Err e) f = Err e

-- A set is kept with its unifiers, unless there are more than 4,096 in all.
abbrev pub with_kept : FactSet → List (List (Variable × Term)) → Kept → Result Kept UnifyFail
with_kept set ss k =
    cond (nat_lt 4096 (k.count + length ss)) (Err TooMany) (Ok (record { sets = k.sets ++ set ∷ []; count = k.count + length ss }))

-- By what unification answers for a pick: without a unifier it isn't kept.
abbrev pub answered : Pick → Result (List (List (Variable × Term))) UnifyFail → Kept → Result Kept UnifyFail
answered pick (Err e) k = Err e
answered pick (Ok []) k = Ok k
answered pick (Ok (s ∷ ss)) k =
    with_kept (record { places = pick.places; left = pick.left; unifiers = s ∷ ss }) (s ∷ ss) k

-- The sets of these picks of facts that have a unifier with a message, behind those that are kept.
abbrev pub sets_from : Subsorts → ℕ → Term → List Pick → Kept → Result Kept UnifyFail
sets_from o next m [] k = Ok k
sets_from o next m (pick ∷ more) k =
    followed (answered pick (solve_over o next (each_with m pick.taken)) k) (sets_from o next m more)

-- All sets of facts that have a unifier with a message, where variables are numbered below `next`.
abbrev pub sets_of : Subsorts → ℕ → Term → List Term → Result Kept UnifyFail
sets_of o next m facts = sets_from o next m (picks facts) none_kept

-- The picks that take one fact more, and those that take still more of the others.
abbrev pub picks_with : List Term → List Term → List ℕ → ℕ → Term → List Term → List Pick
picks_with taken left places k t ts =
    record { taken = taken ++ t ∷ []; left = left ++ ts; places = places ++ k ∷ [] }
    ∷ picks_from (taken ++ t ∷ []) left (places ++ k ∷ []) (k + 1) ts
