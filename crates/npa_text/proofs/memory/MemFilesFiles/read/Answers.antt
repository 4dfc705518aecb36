use Rattle.npa_text.proofs.Later.{texts_stay, faults_stay, longs_stay, fault_rises, long_rises}
use Rattle.npa_text.proofs.memory.MemFilesFiles.read.Goals as goal

pub returns-clause-texts_stay : goal.returns-clause-texts_stay
returns-clause-texts_stay c = λ n.
    texts_stay c.args.self.now c.read_entry.new.self c.args.name.now n c.read_entry.ensures.counts

pub returns-clause-faults_stay : goal.returns-clause-faults_stay
returns-clause-faults_stay c = λ n.
    faults_stay c.args.self.now c.read_entry.new.self c.args.name.now n c.read_entry.ensures.counts

pub returns-clause-longs_stay : goal.returns-clause-longs_stay
returns-clause-longs_stay c = λ n.
    longs_stay c.args.self.now c.read_entry.new.self c.args.name.now n c.read_entry.ensures.counts

pub returns-clause-fault : goal.returns-clause-fault
returns-clause-fault c =
    fault_rises c.args.self.now c.read_entry.new.self c.args.name.now c.read_entry.result c.read_entry.new.into.items
    c.read_entry.ensures.counts c.read_entry.ensures.answer

pub returns-clause-too_long : goal.returns-clause-too_long
returns-clause-too_long c =
    long_rises c.args.self.now c.read_entry.new.self c.args.name.now c.read_entry.result c.read_entry.new.into.items
    c.read_entry.ensures.counts c.read_entry.ensures.answer
