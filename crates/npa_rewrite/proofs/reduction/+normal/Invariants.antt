use Rattle.std.proofs.Common.{take}
use Rattle.std.specs.List.{All}
use Rattle.npa_rewrite.specs.Rewriting.{IsNormal}
use Rattle.npa_rewrite.proofs.reduction.+normal.Given as goal

abbrev pub invariant-are_normal-loop-t : goal.invariant-are_normal-loop-t
invariant-are_normal-loop-t l = All (IsNormal l.th) (take l.t-index l.ts)
