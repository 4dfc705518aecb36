use Rattle.std.proofs.Common.{◌≡◌, take}
use Rattle.npa_term.proofs.term.copy_all.Given as goal

abbrev pub invariant-loop-t : goal.invariant-loop-t
invariant-loop-t l = l.copies.items ≡ take l.t-index l.ts
