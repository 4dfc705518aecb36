-- Drafts as they are computed, seen as those that are defined, and the results of a move.
use Rattle.std.specs.Prelude.{ℕ, ◌+◌, cond, Result, Ok, List, [], ◌∷◌, map, zip}
use Rattle.fold_core.specs.declared.error.Large.{Large}
use Rattle.npa_term.specs.declared.term.Term.{Term}
use Rattle.npa_term.specs.declared.term.Var.{Var as Variable}
use Rattle.npa_model.specs.declared.pattern.Pattern.{Pattern}
use Rattle.npa_model.specs.Patterns.{map_pattern}
use Rattle.npa_moves.specs.Finishing.{Draft, draft_of, excess, instance_of, keeps_apart, new_numbers}
use Rattle.npa_moves.specs.Gathering.{joined, unless_large}
use Rattle.npa_drafts.specs.declared.drafting.Draft.{Draft as Made}
use Rattle.npa_drafts.specs.declared.numbering.Numbered.{Numbered}

abbrev pub as_draft : Made → Draft
as_draft d = record { pattern = d.pattern; values = d.values }

-- A draft in new numbers, each of these variables bound to its value.
abbrev pub numbered_of : List Variable → Draft → Numbered
numbered_of vs d = record {
  unifier = zip vs (map (instance_of (new_numbers d)) d.values);
  pattern = map_pattern (instance_of (new_numbers d)) d.pattern;
}

-- The results of a move by unifiers, of which those are left out that make a pair of terms equal which has
-- to stay apart: each is measured at its place, from `at` on.
abbrev pub results_of : List Variable → Pattern → List (Term × Term) → ℕ → List (List (Variable × Term)) → Result (List Numbered) Large
results_of vs from apart at [] = Ok []
results_of vs from apart at (s ∷ ss) =
    cond (keeps_apart apart s)
    (unless_large at (excess (draft_of vs from s).pattern) (joined (numbered_of vs (draft_of vs from s) ∷ []) (results_of vs from apart (at + 1) ss)))
    (results_of vs from apart at ss)
