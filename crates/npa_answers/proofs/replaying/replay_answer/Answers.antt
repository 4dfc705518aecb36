use Rattle.npa_outside.specs.Outside.{counted}
use Rattle.npa_outside.proofs.FileLoads.{rose_since}
use Rattle.npa_answers.specs.Answers.{IsForSource, IsForReplay}
use Rattle.npa_answers.proofs.Aims.{by_source, fault_by_source, of_answer}
use Rattle.npa_answers.proofs.replaying.replay_answer.Goals as goal

pub returns-in-Read-clause-shown : goal.returns-in-Read-clause-shown
returns-in-Read-clause-shown g c =
    let near = (counted (g.F.Files.holds c.load_module.new.files) (g.F.Files.longs c.load_module.new.files) (g.F.Files.longs c.replay_source.new.files) (g.F.Files.faults c.load_module.new.files) (g.F.Files.faults c.replay_source.new.files)) in
    let far = (counted (g.F.Files.holds c.args.files.now) (g.F.Files.longs c.args.files.now) (g.F.Files.longs c.replay_source.new.files) (g.F.Files.faults c.args.files.now) (g.F.Files.faults c.replay_source.new.files)) in
    of_answer c.replay_source.result (IsForSource near c.args.name.now c.args.run.now c.in-Read.source) (IsForReplay far c.args.file.now c.args.name.now c.args.run.now)
    (by_source near far c.args.file.now c.args.name.now c.args.run.now c.in_ok-source.field-0 c.in-Read.source c.in-Read.is c.in_ok-source.ensures.told
    c.in_ok-source.ensures.only (c.load_module.ensures.texts_stay c.args.run.now)
    (rose_since (g.F.Files.longs c.args.files.now c.args.run.now) (g.F.Files.longs c.load_module.new.files c.args.run.now) (g.F.Files.longs c.replay_source.new.files c.args.run.now) (c.load_module.ensures.longs_stay c.args.run.now)))
    c.replay_source.ensures.shown

pub returns-in-Read-clause-fault : goal.returns-in-Read-clause-fault
returns-in-Read-clause-fault g c = λ halted.
    fault_by_source (counted (g.F.Files.holds c.load_module.new.files) (g.F.Files.longs c.load_module.new.files) (g.F.Files.longs c.replay_source.new.files) (g.F.Files.faults c.load_module.new.files) (g.F.Files.faults c.replay_source.new.files))
    (counted (g.F.Files.holds c.args.files.now) (g.F.Files.longs c.args.files.now) (g.F.Files.longs c.replay_source.new.files) (g.F.Files.faults c.args.files.now) (g.F.Files.faults c.replay_source.new.files)) c.args.file.now c.args.name.now c.args.run.now c.in_ok-source.field-0 c.in-Read.source c.in-Read.is c.in_ok-source.ensures.told
    (rose_since (g.F.Files.faults c.args.files.now c.args.run.now) (g.F.Files.faults c.load_module.new.files c.args.run.now) (g.F.Files.faults c.replay_source.new.files c.args.run.now) (c.load_module.ensures.faults_stay c.args.run.now))
    (c.replay_source.ensures.fault halted)
