-- Aims whose instances by normal terms are normal (Escobar, Meadows, Meseguer 2009, on attack
-- patterns in normal form).
use Rattle.std.specs.Prelude.{List, [], ◌∷◌, Contains}
use Rattle.npa_term.specs.declared.term.Term.{Term}
use Rattle.npa_rewrite.specs.declared.theory.Theory.{Theory}
use Rattle.npa_rewrite.specs.Accepted.{IsAcceptedTerm}
use Rattle.npa_model.specs.declared.aim.Part.{Part}
use Rattle.npa_model.specs.declared.aim.Part.TheVariants as part
use Rattle.npa_model.specs.declared.aim.Aim.{Aim}

-- the terms of a part of an aim
abbrev pub part_terms : Part → List Term
part_terms (part.Known t) = t ∷ []
part_terms (part.Strand strand bar args) = args

-- An aim is accepted where each of its terms is.
abbrev pub IsAccepted : Theory → Aim → Type 0
IsAccepted th aim = (p : Part) → Contains aim.parts p → (t : Term) → Contains (part_terms p) t → IsAcceptedTerm th t
