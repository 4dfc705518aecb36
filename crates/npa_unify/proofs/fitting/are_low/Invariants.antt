use Rattle.std.proofs.Common.{◌<◌, Contains, take}
use Rattle.npa_sorts.specs.Subsorts.{IsSort}
use Rattle.npa_term.specs.declared.term.Var.{Var as Variable}
use Rattle.npa_unify.proofs.fitting.are_low.Given as goal

abbrev pub invariant-loop-v : goal.invariant-loop-v
invariant-loop-v l = (v : Variable) → Contains (take l.v-index l.vars) v → IsSort l.sorts v.sort × (v.num < l.next)
