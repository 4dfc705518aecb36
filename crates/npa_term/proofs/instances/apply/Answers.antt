use Rattle.std.proofs.Common.{arith}
use Rattle.npa_term.proofs.CanonicalLaws.{symbol_count-canonical}
use Rattle.npa_term.proofs.instances.apply.Goals as goal

pub returns-clause-small : goal.returns-clause-small
returns-clause-small c = grind (arith, symbol_count-canonical)
