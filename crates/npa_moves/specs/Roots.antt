-- The roots of an aim: the list of them all (Escobar, Meadows, Meseguer 2009, on attack patterns).
use Rattle.std.specs.Prelude.{ℕ, Result, List, [], ◌∷◌}
use Rattle.std.specs.List.{flat_map}
use Rattle.fold_core.specs.declared.error.Large.{Large}
use Rattle.npa_term.specs.declared.term.Var.{Var as Variable}
use Rattle.npa_term.specs.Numbering.{variables_once}
use Rattle.npa_sig.specs.declared.protocol.Protocol.{Protocol}
use Rattle.npa_sig.specs.declared.protocol.Strand.{Strand}
use Rattle.npa_variants.specs.declared.variant.Variant.{Variant}
use Rattle.npa_model.specs.declared.aim.Aim.{Aim}
use Rattle.npa_model.specs.Accepted.{part_terms}
use Rattle.npa_moves.specs.declared.step.Root.{Root}
use Rattle.npa_moves.specs.Finishing.{Found}
use Rattle.npa_moves.specs.Gathering.{Solve, gathered}
use Rattle.npa_moves.specs.Lists.{root_problem}
use Rattle.npa_moves.specs.Steps.{found_variants, mapped, solve_over}

-- The variables that occur in an aim's parts, each once, in the order in which they first occur.
abbrev pub aim_once : Aim → List Variable
aim_once aim = variables_once (flat_map part_terms aim.parts)

abbrev pub root_of : Found (List ℕ) → Root
root_of found = record { variants = found.label; unifier = found.unifier; pattern = found.pattern }

-- The roots of an aim in their order, or the first of them that is too large. All choices of variants
-- are one problem.
unfoldable pub roots_of : List Strand → Solve → (Strand → List Variant) → Aim → Result (List Root) Large
roots_of strands solve variants aim =
    mapped root_of (gathered solve (aim_once aim) 0 (root_problem strands variants aim ∷ []))

-- The roots in a protocol.
abbrev pub roots_in : Protocol → Aim → Result (List Root) Large
roots_in protocol aim = roots_of protocol.strands (solve_over protocol.sig.sorts) (found_variants protocol) aim
