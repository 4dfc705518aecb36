use Rattle.std.proofs.Common.{sym, subst, Err}
use Rattle.npa_rewrite.specs.Innermost.{normalized}
use Rattle.npa_replay.specs.declared.execution.Halt.{Halt}
use Rattle.npa_replay.specs.Executions.{RunsThrough}
use Rattle.npa_replay.proofs.Executing.{starts_after, stops_at_start, is_run, is_broken}
use Rattle.npa_replay.proofs.execution.run_through.Goals as goal

pub returns-in-Err : goal.returns-in-Err
returns-in-Err c =
    subst (λ (h : Halt). RunsThrough (normalized c.args.th.now) c.args.protocol.now c.args.run.now (Err h)) (sym c.halted.ensures) (stops_at_start (normalized c.args.th.now) c.args.protocol.now c.args.run.now c.requires.run.terms c.in-Err.fail c.in-Err.ensures)

pub execute-requires-clause-begun : goal.execute-requires-clause-begun
execute-requires-clause-begun c = starts_after (normalized c.args.th.now) c.args.protocol.now c.args.run.now c.requires.run.terms c.in-Ok.state c.in-Ok.ensures

pub returns-in-Ok-execute : goal.returns-in-Ok-execute
returns-in-Ok-execute c =
    is_run (normalized c.args.th.now) c.args.protocol.now c.args.run.now c.requires.run.terms c.in-Ok.state c.execute.new.state c.in-Ok.ensures c.as_slice.result.now c.as_slice.ensures c.in-Ok-execute.ensures

pub returns-in-Err-execute : goal.returns-in-Err-execute
returns-in-Err-execute c =
    is_broken (normalized c.args.th.now) c.args.protocol.now c.args.run.now c.requires.run.terms c.in-Ok.state c.execute.new.state c.in-Ok.ensures c.as_slice.result.now c.as_slice.ensures c.in-Err-execute.halt c.in-Err-execute.ensures

pub start-requires-clause-params : goal.start-requires-clause-params
start-requires-clause-params c k strand there = (c.requires.protocol.strands k strand there).params
