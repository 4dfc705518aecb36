use Rattle.std.proofs.Common.{sym, subst}
use Rattle.npa_conv.specs.Theories.{IsPlainTheory}
use Rattle.npa_conv.proofs.PlainProtocols.{plain_theory}
use Rattle.test_variants.proofs.readying.made.Goals as goal

pub convergent-requires : goal.convergent-requires
convergent-requires c = record {
  plain = subst IsPlainTheory (sym c.in_ok-th.ensures.theory) (plain_theory c.in_ok-source.source.protocol c.in_ok-source.ensures.form.protocol c.in_ok-source.ensures.plain.protocol);
}
