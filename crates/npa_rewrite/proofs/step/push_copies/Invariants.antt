use Rattle.std.proofs.Common.{◌≡◌, ◌++◌, take}
use Rattle.npa_rewrite.proofs.step.push_copies.Given as goal

abbrev pub invariant-loop-t : goal.invariant-loop-t
invariant-loop-t l = l.made.items ≡ l.initial.made.items ++ take l.t-index l.ts
