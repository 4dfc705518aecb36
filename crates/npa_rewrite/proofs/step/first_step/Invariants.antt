use Rattle.std.proofs.Common.{◌≡◌, take, drop}
use Rattle.std.specs.List.{All}
use Rattle.npa_rewrite.specs.Innermost.{at_root}
use Rattle.npa_rewrite.specs.Stepping.{AreUnmatched}
use Rattle.npa_rewrite.proofs.step.first_step.Given as goal

abbrev pub invariant-loop-equation : goal.invariant-loop-equation
invariant-loop-equation l = record {
  value : at_root l.th.sig.sorts (drop l.equation-index l.equation-items) l.t ≡ at_root l.th.sig.sorts l.equation-items l.t;
  unmatched : All (λ e. AreUnmatched l.th.sig.sorts e.left l.t) (take l.equation-index l.equation-items);
}
