use Rattle.std.proofs.Common.{take}
use Rattle.npa_rewrite.specs.Innermost.{normalized}
use Rattle.npa_replay.specs.Executions.{IsAfter}
use Rattle.npa_replay.proofs.execution.execute.Given as goal

abbrev pub invariant-loop-k : goal.invariant-loop-k
invariant-loop-k l = IsAfter (normalized l.th) l.protocol.strands l.instances (take l.k l.schedule) l.state
