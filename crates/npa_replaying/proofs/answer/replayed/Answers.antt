use Rattle.npa_replaying.proofs.OneRun.{is_replayed, is_only}
use Rattle.npa_replaying.proofs.answer.replayed.Goals as goal

pub returns-clause-replayed : goal.returns-clause-replayed
returns-clause-replayed c =
    is_replayed c.args.ready.now c.protocol.result.now c.protocol.ensures c.args.aim.now c.args.run.now c.in_ok-answer.answer
    c.answered.result c.in_ok-answer.ensures.answer c.answered.ensures.text c.answered.ensures.status

pub returns-clause-only : goal.returns-clause-only
returns-clause-only c =
    is_only c.args.ready.now c.protocol.result.now c.protocol.ensures c.args.aim.now c.args.run.now c.in_ok-answer.answer
    c.answered.result c.laws.ensures.cancelling c.laws.ensures.convergent c.in_ok-answer.ensures.only c.answered.ensures.text c.answered.ensures.status
