use Rattle.std.proofs.Common.{◌≡◌, false, take}
use Rattle.std.specs.Prelude.{All}
use Rattle.npa_sig.specs.Sizes.{is_least_op}
use Rattle.npa_sig.proofs.least.first_op.Given as goal

abbrev pub invariant-loop-num : goal.invariant-loop-num
invariant-loop-num l = All (λ decl. is_least_op l.sig.sorts l.sizes l.sort decl ≡ false) (take l.num l.sig.ops)
