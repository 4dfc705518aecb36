use Rattle.std.proofs.Common.{◌≡◌, ◌<◌, ℕ, List, Some, slice_get}
use Rattle.npa_term.specs.declared.term.Var.{Var as Variable}
use Rattle.npa_term.specs.declared.term.Term.{Term}
use Rattle.npa_term.specs.Bound.{applied}
use Rattle.npa_term.specs.Same.{Same}
use Rattle.npa_subsume.proofs.early.has_head.Given as goal

abbrev pub invariant-loop-u : goal.invariant-loop-u
invariant-loop-u l = (s : List (Variable × Term)) (j : ℕ) (w : Term) → j < l.u-index → slice_get l.us j ≡ Some w → Same (applied s l.t) w → ⊥
