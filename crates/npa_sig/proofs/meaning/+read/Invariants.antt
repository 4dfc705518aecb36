use Rattle.std.proofs.Common.{◌≡◌, drop}
use Rattle.npa_sig.specs.Meaning.{read_all}
use Rattle.npa_reading.specs.Reading.{with_front}
use Rattle.npa_sig.proofs.meaning.+read.Given as goal

abbrev pub invariant-loop-arg : goal.invariant-loop-arg
invariant-loop-arg l = read_all l.sig l.scope l.bytes l.args ≡ with_front l.terms.items (read_all l.sig l.scope l.bytes (drop l.arg-index l.args))
