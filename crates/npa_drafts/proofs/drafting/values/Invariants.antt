use Rattle.std.proofs.Common.{◌≡◌, map, take}
use Rattle.npa_term.specs.declared.term.Term.{Var}
use Rattle.npa_moves.specs.Finishing.{instance_of}
use Rattle.npa_drafts.proofs.drafting.values.Given as goal

abbrev pub invariant-loop-v : goal.invariant-loop-v
invariant-loop-v l = l.made.items ≡ map (λ v. instance_of l.s (Var v)) (take l.v-index l.vars)
