-- The steps of a pattern: the list of them all (Escobar, Meadows, Meseguer 2009, on backward narrowing).
use Rattle.std.specs.Prelude.{◌≡◌, ⊤, Result, Ok, Err, List, [], map}
use Rattle.fold_core.specs.declared.error.Large.{Large}
use Rattle.npa_sorts.specs.Subsorts.{Subsorts}
use Rattle.npa_term.specs.declared.term.Var.{Var as Variable}
use Rattle.npa_term.specs.Numbering.{once_after}
use Rattle.npa_sig.specs.declared.protocol.Protocol.{Protocol}
use Rattle.npa_sig.specs.declared.protocol.Strand.{Strand}
use Rattle.npa_unify.specs.Answers.{judged, unifiers}
use Rattle.npa_rewrite.specs.Theories.{theory_of}
use Rattle.npa_variants.specs.declared.variant.Variant.{Variant}
use Rattle.npa_variants.specs.Ready.{strand_list, strand_rows}
use Rattle.npa_variants.specs.Rows.{Row}
use Rattle.npa_variants.specs.Search.{Stop}
use Rattle.npa_model.specs.declared.pattern.Pattern.{Pattern}
use Rattle.npa_model.specs.Fitting.{pattern_variables}
use Rattle.npa_moves.specs.declared.error.StepFail.{StepFail}
use Rattle.npa_moves.specs.declared.error.StepFail.TheVariants as fail
use Rattle.npa_moves.specs.declared.step.Rule.{Rule}
use Rattle.npa_moves.specs.declared.step.Step.{Step}
use Rattle.npa_moves.specs.Finishing.{Found}
use Rattle.npa_moves.specs.Gathering.{Solve, gathered}
use Rattle.npa_moves.specs.Lists.{step_problems}

-- What unification over these sorts answers.
unfoldable pub solve_over : Subsorts → Solve
solve_over o next pairs = judged (unifiers o pairs next)

abbrev pub listed : Strand → Result (List Row) Stop → List Variant
listed strand (Ok rows) = strand_list strand rows
listed strand (Err stop) = []

-- The variants that are found for a strand.
unfoldable pub found_variants : Protocol → Strand → List Variant
found_variants protocol strand = listed strand (strand_rows (theory_of protocol) strand)

-- The variables of a pattern, each once, in the order in which they first occur.
abbrev pub pattern_once : Pattern → List Variable
pattern_once g = once_after [] (pattern_variables g)

abbrev pub step_of : Found Rule → Step
step_of found = record { rule = found.label; unifier = found.unifier; pattern = found.pattern }

-- An answer, where there is one, with each of its members sent through a function.
abbrev pub mapped : {A B : Type 0} → (A → B) → Result (List A) Large → Result (List B) Large
mapped f (Ok xs) = Ok (map f xs)
mapped f (Err large) = Err large

-- The steps of a pattern in their order, or the first of them that is too large.
unfoldable pub steps_of : List Strand → Solve → (Strand → List Variant) → Pattern → Result (List Step) Large
steps_of strands solve variants g =
    mapped step_of (gathered solve (pattern_once g) 0 (step_problems strands variants g))

-- The steps in a protocol.
abbrev pub steps_in : Protocol → Pattern → Result (List Step) Large
steps_in protocol g = steps_of protocol.strands (solve_over protocol.sig.sorts) (found_variants protocol) g

-- An answer is this, unless memory was wanting.
abbrev pub Gives : {A : Type 0} → Result A StepFail → Result A Large → Type 0
Gives (Ok x) known = known ≡ Ok x
Gives (Err (fail.Large rule measure value)) known = known ≡ Err (record { rule = rule; measure = measure; value = value })
Gives (Err fail.NoMemory) known = ⊤
