use Rattle.std.proofs.Common.{◌≡◌, map, take}
use Rattle.npa_term.specs.declared.term.Var.{Var as Variable}
use Rattle.npa_term.specs.declared.term.Term.{Term}
use Rattle.npa_drafts.proofs.variables.variables_once.Given as goal

abbrev pub invariant-loop-v : goal.invariant-loop-v
invariant-loop-v l = l.vars.items ≡ map (λ (b : Variable × Term). b.0) (take l.v-index l.v-items)
