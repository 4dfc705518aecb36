use Rattle.std.proofs.Common.{◌≡◌, zip, take}
use Rattle.npa_variants.proofs.finding.variant_of.Given as goal

abbrev pub invariant-loop-i : goal.invariant-loop-i
invariant-loop-i l = l.subst ≡ zip (take l.i l.vars) (take l.i l.values)
