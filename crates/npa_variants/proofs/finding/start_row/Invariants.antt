use Rattle.std.proofs.Common.{◌≡◌, ◌++◌, map, take}
use Rattle.npa_term.specs.declared.term.Term.{Var}
use Rattle.npa_rewrite.specs.Innermost.{normalized}
use Rattle.npa_variants.proofs.finding.start_row.Given as goal

abbrev pub invariant-loop-v : goal.invariant-loop-v
invariant-loop-v l = l.row.items ≡ map Var (take l.v-index l.vars)

abbrev pub invariant-loop-t : goal.invariant-loop-t
invariant-loop-t l = l.row.items ≡ map Var l.vars ++ map (normalized l.th) (take l.t-index l.terms)
