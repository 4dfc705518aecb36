use Rattle.npa_rewrite.specs.Innermost.{normalized}
use Rattle.npa_replay.proofs.Executing.{is_further}
use Rattle.npa_replay.proofs.execution.execute.Goals as goal

pub loop-k-preserved : goal.loop-k-preserved
loop-k-preserved c =
    is_further (normalized c.args.th.now) c.args.protocol.now.strands c.args.instances.now c.args.schedule.now c.loop-k.k c.loop-k-test.true c.loop-k.state c.step_run.new.state c.loop-k.invariant c.in-Ok.ensures
