use Rattle.std.proofs.Common.{◌≡◌, false, take}
use Rattle.std.specs.Prelude.{All}
use Rattle.npa_sig.specs.Nameless.{hands_names}
use Rattle.npa_sig.proofs.nameless.first_handing.Given as goal

abbrev pub invariant-loop-num : goal.invariant-loop-num
invariant-loop-num l = All (λ decl. hands_names l.marks decl ≡ false) (take l.num l.sig.ops)
