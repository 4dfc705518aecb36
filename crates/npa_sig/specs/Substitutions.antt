-- Substitutions that respect the sorts of variables (Goguen, Meseguer 1992, on order-sorted
-- substitutions).
use Rattle.std.specs.Prelude.{◌≡◌, true, List, Contains}
use Rattle.npa_sorts.specs.Subsorts.{IsAtOrBelow}
use Rattle.npa_term.specs.declared.term.Var.{Var as Variable}
use Rattle.npa_term.specs.declared.term.Term.{Term}
use Rattle.npa_term.specs.Parts.{image, least_sort}
use Rattle.npa_sig.specs.Signature.{Signature}
use Rattle.npa_sig.specs.Sorting.{well_sorted}

-- A substitution respects sorts: it has for each of these variables a well-sorted term, of a sort
-- at or below the variable's.
pub record RespectsSorts (sig : Signature) (vs : List Variable) (s : List (Variable × Term)) : Type 0 where
  pub sorted : (v : Variable) → Contains vs v → well_sorted sig (image s v) ≡ true
  pub below : (v : Variable) → Contains vs v → IsAtOrBelow sig.sorts (least_sort (image s v)) v.sort
