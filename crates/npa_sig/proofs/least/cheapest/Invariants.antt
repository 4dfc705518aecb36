use Rattle.std.proofs.Common.{take}
use Rattle.npa_sig.specs.Sizes.{IsCheapest}
use Rattle.npa_sig.proofs.least.cheapest.Given as goal

abbrev pub invariant-loop-decl : goal.invariant-loop-decl
invariant-loop-decl l = IsCheapest l.sizes (take l.decl-index l.ops) l.best
