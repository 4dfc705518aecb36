-- The steps of a list of problems as they are found: those of each problem behind those that were found
-- before, up to the first that is too large.
use Rattle.std.specs.Prelude.{Result, Ok, Err, List, [], ◌∷◌, length, map}
use Rattle.fold_core.specs.declared.error.Large.{Large}
use Rattle.npa_term.specs.declared.term.Var.{Var as Variable}
use Rattle.npa_moves.specs.declared.step.Rule.{Rule}
use Rattle.npa_moves.specs.declared.step.Step.{Step}
use Rattle.npa_moves.specs.Gathering.{Drawn, Solve, all_drawn, joined, measured, problem_excess, solved, unless_large}
use Rattle.npa_moves.specs.Moves.{Move}
use Rattle.npa_moves.specs.Steps.{mapped, step_of}

-- What is done with steps that are found, unless one was too large.
abbrev pub and_then : Result (List Step) Large → (List Step → Result (List Step) Large) → Result (List Step) Large
and_then (Ok made) f = f made
and_then (Err large) f = Err large

-- The steps that are drawn, each measured at its place.
abbrev pub drawn_behind : List Variable → List Step → List (Drawn Rule) → Result (List Step) Large
drawn_behind vs made ds = joined made (mapped step_of (measured vs (length made) ds))

-- The steps of a problem, which is judged whole before.
abbrev pub problem_behind : Solve → List Variable → List Step → List (Move Rule) → Result (List Step) Large
problem_behind solve vs made moves =
    unless_large (length made) (problem_excess 0 (map (solved solve) moves)) (drawn_behind vs made (all_drawn solve vs moves))

-- The steps of problems.
abbrev pub all_behind : Solve → List Variable → List Step → List (List (Move Rule)) → Result (List Step) Large
all_behind solve vs made [] = Ok made
all_behind solve vs made (moves ∷ problems) = and_then (problem_behind solve vs made moves) (λ more. all_behind solve vs more problems)
