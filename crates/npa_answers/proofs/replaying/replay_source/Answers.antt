use Rattle.npa_outside.specs.Outside.{counted}
use Rattle.npa_answers.specs.Answers.{IsForAim, IsForSource}
use Rattle.npa_answers.proofs.Aims.{is_checked, good_aims, by_fail, by_aim, fault_by_aim, of_answer}
use Rattle.npa_answers.proofs.replaying.replay_source.Goals as goal

pub replay_aim-requires : goal.replay_aim-requires
replay_aim-requires g c = record { aims = good_aims c.args.source.now c.in-Ok.checked (is_checked c.check.result c.in-Ok.checked c.args.source.now c.in-Ok.is c.check.ensures) c.requires.form }

pub returns-in-Ok-clause-shown : goal.returns-in-Ok-clause-shown
returns-in-Ok-clause-shown g c =
    let o = (counted (g.F.Files.holds c.args.files.now) (g.F.Files.longs c.args.files.now) (g.F.Files.longs c.replay_aim.new.files) (g.F.Files.faults c.args.files.now) (g.F.Files.faults c.replay_aim.new.files)) in
    of_answer c.replay_aim.result (IsForAim o c.args.name.now c.args.run.now c.in-Ok.checked.0 c.in-Ok.checked.1) (IsForSource o c.args.name.now c.args.run.now c.args.source.now)
    (by_aim c.args.source.now c.in-Ok.checked (is_checked c.check.result c.in-Ok.checked c.args.source.now c.in-Ok.is c.check.ensures) c.laws.ensures.passes c.laws.ensures.sound o c.args.name.now c.args.run.now)
    c.replay_aim.ensures.shown

pub returns-in-Ok-clause-fault : goal.returns-in-Ok-clause-fault
returns-in-Ok-clause-fault g c = λ halted.
    fault_by_aim c.args.source.now c.in-Ok.checked (is_checked c.check.result c.in-Ok.checked c.args.source.now c.in-Ok.is c.check.ensures) c.laws.ensures.passes c.laws.ensures.sound
    (counted (g.F.Files.holds c.args.files.now) (g.F.Files.longs c.args.files.now) (g.F.Files.longs c.replay_aim.new.files) (g.F.Files.faults c.args.files.now) (g.F.Files.faults c.replay_aim.new.files)) c.args.name.now c.args.run.now (c.replay_aim.ensures.fault halted)

pub returns-in_ok-fail_line-in-Err-clause-shown : goal.returns-in_ok-fail_line-in-Err-clause-shown
returns-in_ok-fail_line-in-Err-clause-shown g c =
    by_fail (counted (g.F.Files.holds c.args.files.now) (g.F.Files.longs c.args.files.now) (g.F.Files.longs c.args.files.now) (g.F.Files.faults c.args.files.now) (g.F.Files.faults c.args.files.now)) c.args.name.now c.args.run.now c.args.source.now c.check.result c.in-Err.fail c.in-Err.is c.check.ensures
    c.in_ok-fail_line-in-Err.field-0.text.items c.in_ok-fail_line-in-Err.field-0.status c.in_ok-fail_line-in-Err.ensures
