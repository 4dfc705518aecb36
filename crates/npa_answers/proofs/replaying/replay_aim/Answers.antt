use Rattle.std.proofs.Common.{ap, ◌∙◌}
use Rattle.std.specs.Option.{option_copied}
use Rattle.npa_answers.proofs.Aims.{found_aim, good_called, accepted_called}
use Rattle.npa_answers.proofs.replaying.replay_aim.Goals as goal

pub run_answer-requires-clause-aim : goal.run_answer-requires-clause-aim
run_answer-requires-clause-aim g c =
    good_called c.args.checked.now.0 c.ready.result.now c.args.checked.now.1 c.args.name.now c.in-Some.aim.now c.ready.ensures c.requires.aims
    (found_aim c.aim.result c.as_bytes.result.now c.args.name.now c.args.checked.now.1 c.aim.ensures c.as_bytes.ensures.value ∙ ap option_copied c.in-Some.is)

pub run_answer-requires-clause-accepted : goal.run_answer-requires-clause-accepted
run_answer-requires-clause-accepted g c =
    accepted_called c.args.checked.now.0 c.ready.result.now c.args.checked.now.1 c.args.name.now c.in-Some.aim.now c.ready.ensures c.laws.ensures.sound
    (found_aim c.aim.result c.as_bytes.result.now c.args.name.now c.args.checked.now.1 c.aim.ensures c.as_bytes.ensures.value ∙ ap option_copied c.in-Some.is)

pub returns-in-Some-clause-fault : goal.returns-in-Some-clause-fault
returns-in-Some-clause-fault g c = λ halted. record {
  aim = c.in-Some.aim.now;
  aim_is = (found_aim c.aim.result c.as_bytes.result.now c.args.name.now c.args.checked.now.1 c.aim.ensures c.as_bytes.ensures.value ∙ ap option_copied c.in-Some.is);
  rose = c.run_answer.ensures.fault halted;
}
