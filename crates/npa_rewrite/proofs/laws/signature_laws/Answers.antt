use Rattle.npa_sig.proofs.Operators.{pairs_commute}
use Rattle.npa_rewrite.proofs.laws.signature_laws.Goals as goal

pub returns : goal.returns
returns c = pairs_commute
