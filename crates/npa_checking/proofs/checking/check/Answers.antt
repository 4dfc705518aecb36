use Rattle.std.proofs.Common.{◌∙◌}
use Rattle.npa_checking.proofs.Asking.{formed_aims, plain_aims}
use Rattle.npa_checking.proofs.checking.check.Goals as goal

pub make-requires-clause-aims : goal.make-requires-clause-aims
make-requires-clause-aims c =
    formed_aims c.args.source.now c.in_ok-aims.aims (c.in_ok-aims.ensures ∙ c.as_slice.ensures) c.requires.form c.in_ok-protocol.protocol c.in_ok-protocol.ensures

pub make-requires-clause-plain_aims : goal.make-requires-clause-plain_aims
make-requires-clause-plain_aims c = plain_aims c.args.source.now c.in_ok-aims.aims (c.in_ok-aims.ensures ∙ c.as_slice.ensures) c.requires.plain
