use Rattle.std.proofs.Common.{take}
use Rattle.std.specs.List.{All}
use Rattle.npa_rewrite.specs.Stepping.{AreUnmatched}
use Rattle.npa_rewrite.proofs.step.has_no_match.Given as goal

abbrev pub invariant-loop-equation : goal.invariant-loop-equation
invariant-loop-equation l = All (λ e. AreUnmatched l.th.sig.sorts e.left l.t) (take l.equation-index l.equation-items)
