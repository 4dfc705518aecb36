use Rattle.std.proofs.Common.{refl}
use Rattle.npa_term.proofs.SameCases.{same_app, same_from_arguments, same_only_var, same_only_name}
use Rattle.npa_term.proofs.laws.equality_cases.Goals as goal

pub returns : goal.returns
returns c = record {
  variables = λ v t p. same_only_var p v refl;
  names = λ n t p. same_only_name p n refl;
  applications = λ op ts t p. same_app p op ts refl;
  arguments = same_from_arguments;
}
