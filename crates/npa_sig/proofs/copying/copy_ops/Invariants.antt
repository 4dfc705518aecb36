use Rattle.std.proofs.Common.{◌≡◌, take}
use Rattle.npa_sig.proofs.copying.copy_ops.Given as goal

abbrev pub invariant-loop-decl : goal.invariant-loop-decl
invariant-loop-decl l = l.copies.items ≡ take l.decl-index l.ops
