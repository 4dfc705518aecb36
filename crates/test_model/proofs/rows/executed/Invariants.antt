use Rattle.std.proofs.Common.{◌≡◌, length}
use Rattle.test_model.proofs.rows.executed.Given as goal

abbrev pub invariant-loop-k : goal.invariant-loop-k
invariant-loop-k l = length l.state.executed ≡ length l.run.instances
