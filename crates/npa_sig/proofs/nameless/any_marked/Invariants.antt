use Rattle.std.proofs.Common.{◌≡◌, drop}
use Rattle.npa_sig.specs.Nameless.{any_marked}
use Rattle.npa_sig.proofs.nameless.any_marked.Given as goal

abbrev pub invariant-loop-sort : goal.invariant-loop-sort
invariant-loop-sort l = any_marked l.marks (drop l.sort-index l.sorts) ≡ any_marked l.marks l.sorts
