-- The results of moves in their order, within the limits.
use Rattle.std.specs.Prelude.{ℕ, ◌+◌, cond, nat_lt, Option, None, Some, Result, Ok, Err, List, [], ◌∷◌, ◌++◌, length, map}
use Rattle.std.specs.List.{flat_map, filter}
use Rattle.fold_core.specs.declared.error.Large.{Large}
use Rattle.fold_core.specs.declared.error.Measure.{Measure}
use Rattle.fold_core.specs.declared.error.Measure.TheVariants.{Symbols, Unifiers}
use Rattle.npa_term.specs.declared.term.Var.{Var as Variable}
use Rattle.npa_term.specs.declared.term.Term.{Term}
use Rattle.npa_unify.specs.declared.error.UnifyFail.{UnifyFail}
use Rattle.npa_unify.specs.declared.error.UnifyFail.TheVariants as unify_fail
use Rattle.npa_moves.specs.Finishing.{Draft, Found, draft_of, excess, found_of, keeps_apart}
use Rattle.npa_moves.specs.Moves.{Move}

-- The answer of unification for pairs, with new variables numbered from a number on.
abbrev pub Solve : Type 0
Solve = ℕ → List (Term × Term) → Result (List (List (Variable × Term))) UnifyFail

abbrev pub solved : {L : Type 0} → Solve → Move L → Result (List (List (Variable × Term))) UnifyFail
solved solve m = solve m.next m.pairs

-- What is too large in a problem, of which so many unifiers are counted: the first part without an
-- answer, or with which there are more than 4,096 unifiers.
abbrev pub problem_excess : ℕ → List (Result (List (List (Variable × Term))) UnifyFail) → Option (Measure × ℕ)
problem_excess sum [] = None
problem_excess sum (Err unify_fail.TooMany ∷ answers) = Some (Unifiers, 4097)
problem_excess sum (Err (unify_fail.TooLarge n) ∷ answers) = Some (Symbols, n)
problem_excess sum (Err unify_fail.NoMemory ∷ answers) = problem_excess sum answers
problem_excess sum (Ok ss ∷ answers) =
    cond (nat_lt 4096 (sum + length ss)) (Some (Unifiers, 4097)) (problem_excess (sum + length ss) answers)

abbrev pub unifiers_in : Result (List (List (Variable × Term))) UnifyFail → List (List (Variable × Term))
unifiers_in (Ok ss) = ss
unifiers_in (Err e) = []

-- A result before it is measured.
pub record Drawn (L : Type 0) : Type 0 where
  pub label : L
  pub draft : Draft

-- The results of a move that aren't left out.
abbrev pub drawn_by : {L : Type 0} → Solve → List Variable → Move L → List (Drawn L)
drawn_by solve vs m =
    map (λ s. record { label = m.label; draft = draft_of vs m.from s })
    (filter (keeps_apart m.apart) (unifiers_in (solved solve m)))

abbrev pub all_drawn : {L : Type 0} → Solve → List Variable → List (Move L) → List (Drawn L)
all_drawn solve vs ms = flat_map (drawn_by solve vs) ms

-- What is done where nothing is too large at this place.
abbrev pub unless_large : {A : Type 0} → ℕ → Option (Measure × ℕ) → Result A Large → Result A Large
unless_large at None r = r
unless_large at (Some m) r = Err (record { rule = at; measure = m.0; value = m.1 })

-- These, and then those of a list that may be wanting.
abbrev pub joined : {A : Type 0} → List A → Result (List A) Large → Result (List A) Large
joined xs (Ok ys) = Ok (xs ++ ys)
joined xs (Err large) = Err large

-- The results that are drawn, each measured at its place, from `at` on.
abbrev pub measured : {L : Type 0} → List Variable → ℕ → List (Drawn L) → Result (List (Found L)) Large
measured vs at [] = Ok []
measured vs at (d ∷ ds) =
    unless_large at (excess d.draft.pattern) (joined (found_of d.label vs d.draft ∷ []) (measured vs (at + 1) ds))

abbrev pub followed : {A : Type 0} → Result (List A) Large → Result (List A) Large → Result (List A) Large
followed (Ok xs) more = joined xs more
followed (Err large) more = Err large

-- The results of problems, of which the first has number `at`: each problem is judged whole, and then its
-- results are measured.
abbrev pub gathered : {L : Type 0} → Solve → List Variable → ℕ → List (List (Move L)) → Result (List (Found L)) Large
gathered solve vs at [] = Ok []
gathered solve vs at (p ∷ ps) =
    unless_large at (problem_excess 0 (map (solved solve) p))
    (followed (measured vs at (all_drawn solve vs p))
    (gathered solve vs (at + length (all_drawn solve vs p)) ps))
