use Rattle.std.proofs.Common.{◌≡◌, Option, Some, sym, ap, ◌∙◌}
use Rattle.npa_outside.specs.Outside.{counted}
use Rattle.npa_answers.proofs.Showing.{fault_of_replay}
use Rattle.npa_answers.proofs.program.answer_for.Goals as goal

pub returns-in-Some-Replay-clause-fault : goal.returns-in-Some-Replay-clause-fault
returns-in-Some-Replay-clause-fault g c = λ halted.
    fault_of_replay (counted (g.F.Files.holds c.args.files.now) (g.F.Files.longs c.args.files.now) (g.F.Files.longs c.replay_answer.new.files) (g.F.Files.faults c.args.files.now) (g.F.Files.faults c.replay_answer.new.files)) c.args.words.now (sym c.read_command.ensures ∙ c.in-Some-Replay.is ∙ ap Some c.in-Some-Replay.field-0-is)
    c.word-in-Some-Replay.result.now c.word-in-Some-Replay-2.result.now c.word-in-Some-Replay-3.result.now
    c.word-in-Some-Replay.ensures c.word-in-Some-Replay-2.ensures c.word-in-Some-Replay-3.ensures (c.replay_answer.ensures.fault halted)
