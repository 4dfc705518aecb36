use Rattle.std.proofs.Common.{take}
use Rattle.std.specs.List.{All}
use Rattle.npa_rewrite.specs.Rewriting.{IsCancelling}
use Rattle.npa_rewrite.proofs.cancelling.all_cancel.Given as goal

abbrev pub invariant-loop-equation : goal.invariant-loop-equation
invariant-loop-equation l = All (IsCancelling l.th.sig.sorts) (take l.equation-index l.equation-items)
