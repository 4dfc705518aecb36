use Rattle.std.proofs.Common.{ap, Err}
use Rattle.npa_outside.specs.Outside.{counted}
use Rattle.npa_answers.proofs.Showing.{succeeded_status}
use Rattle.npa_answers.proofs.program.npa_plain.Goals as goal

pub returns-in-Err-Fault-clause-unread : goal.returns-in-Err-Fault-clause-unread
returns-in-Err-Fault-clause-unread g c = λ status. c.in-Err-Fault.ensures.fault (ap Err c.in-Err-Fault.field-0-is)

pub returns-in-Ok-put-clause-succeeded : goal.returns-in-Ok-put-clause-succeeded
returns-in-Ok-put-clause-succeeded g c = λ told known succeeds.
    succeeded_status (counted (g.F.Files.holds c.args.files.now) (g.F.Files.longs c.args.files.now) (g.F.Files.longs c.answer_for.new.files) (g.F.Files.faults c.args.files.now) (g.F.Files.faults c.answer_for.new.files))
    c.args.words.now c.in-Ok.answer.text.items c.in-Ok.answer.status c.in-Ok.ensures.shown known succeeds
