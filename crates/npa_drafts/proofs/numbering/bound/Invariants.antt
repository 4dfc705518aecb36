use Rattle.std.proofs.Common.{◌≡◌, zip, take}
use Rattle.npa_drafts.proofs.numbering.bound.Given as goal

abbrev pub invariant-loop-i : goal.invariant-loop-i
invariant-loop-i l = l.s ≡ zip (take l.i l.vars) (take l.i l.values)
