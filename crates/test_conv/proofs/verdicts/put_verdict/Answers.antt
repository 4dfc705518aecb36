use Rattle.std.proofs.Common.{sym, subst}
use Rattle.npa_conv.specs.Theories.{IsPlainTheory}
use Rattle.npa_conv.proofs.PlainProtocols.{plain_theory}
use Rattle.test_conv.proofs.verdicts.put_verdict.Goals as goal

pub convergent-requires : goal.convergent-requires
convergent-requires c = record {
  plain = subst IsPlainTheory (sym c.in_ok-th.ensures.theory) (plain_theory c.args.source.now.protocol c.requires.form.protocol c.requires.plain.protocol);
}
