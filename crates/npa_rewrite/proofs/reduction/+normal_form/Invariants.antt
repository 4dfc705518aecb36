use Rattle.std.proofs.Common.{◌≡◌, map, take}
use Rattle.npa_rewrite.specs.Innermost.{normalized}
use Rattle.npa_rewrite.proofs.reduction.+normal_form.Given as goal

abbrev pub invariant-loop-arg : goal.invariant-loop-arg
invariant-loop-arg l = l.made.items ≡ map (normalized l.th) (take l.arg-index l.arg-items)
