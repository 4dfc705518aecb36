use Rattle.npa_term.proofs.AgreeingLaws.{agrees_canonical, canonical_equal, same_canonical}
use Rattle.npa_term.proofs.CanonicalLaws.{canonical-canonical, symbol_count-canonical}
use Rattle.npa_term.proofs.laws.canonical_laws.Goals as goal

pub returns : goal.returns
returns c = record {
  settled = canonical-canonical;
  sizes = symbol_count-canonical;
  forms = λ decl t u a b. (canonical_equal t u, same_canonical decl t u a b);
  agreeing = agrees_canonical;
}
