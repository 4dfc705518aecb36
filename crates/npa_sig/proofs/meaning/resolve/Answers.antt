use Rattle.npa_sig.proofs.Sorted.{own_answer}
use Rattle.npa_sig.proofs.meaning.resolve.Goals as goal

pub returns-clause-own : goal.returns-clause-own
returns-clause-own c =
    own_answer c.args.sig.now c.args.scope.now c.args.bytes.now c.read.result c.args.raw.now c.read.ensures
