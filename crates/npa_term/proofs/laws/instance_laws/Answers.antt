use Rattle.npa_term.proofs.AppliedLaws.{applied_alike, applied-empty, agrees_applied, canonical-applied}
use Rattle.npa_term.proofs.laws.instance_laws.Goals as goal

pub returns : goal.returns
returns c = record {
  alike = applied_alike;
  empty = applied-empty;
  agreeing = λ decl s t values a. agrees_applied decl s values t a;
  canonical = canonical-applied;
}
