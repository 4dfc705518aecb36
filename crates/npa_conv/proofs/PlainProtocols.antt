-- The theory of a plain protocol is plain.
use Rattle.npa_sig.specs.declared.protocol.Protocol.{Protocol}
use Rattle.npa_sig.specs.WellFormed.{IsPlainProtocol, IsWellFormedProtocol}
use Rattle.npa_rewrite.specs.Theories.{theory_of}
use Rattle.npa_conv.specs.Theories.{IsPlainTheory}

pub plain_theory : (protocol : Protocol) → IsWellFormedProtocol protocol → IsPlainProtocol protocol → IsPlainTheory (theory_of protocol)
plain_theory protocol formed plain = record {
  formed = formed.equations;
  plain = plain.equations;
  few = plain.few_equations;
}
