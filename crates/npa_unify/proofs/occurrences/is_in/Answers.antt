use Rattle.std.proofs.Common.{ap}
use Rattle.npa_unify.specs.Seen.{have, head_term, raw}
use Rattle.npa_unify.proofs.Heading.{in_variable, in_name, in_app}
use Rattle.npa_unify.proofs.Occurring.{all_have}
use Rattle.npa_unify.proofs.occurrences.is_in.Goals as goal

pub returns-in-Var : goal.returns-in-Var
returns-in-Var c = in_variable (raw c.args.bound.now) _ c.in-Var.w c.args.v _ c.requires.unbound (ap head_term c.in-Var.is) c.eq.ensures

pub returns-in-Name : goal.returns-in-Name
returns-in-Name c = in_name (raw c.args.bound.now) _ c.in-Name.field-0 c.args.v (ap head_term c.in-Name.is)

pub returns-in_ok-known-in-App : goal.returns-in_ok-known-in-App
returns-in_ok-known-in-App c = in_app (raw c.args.bound.now) _ c.in-App.field-0 c.in-App.args.now c.args.v _ (ap head_term c.in-App.is) c.is_in_some.ensures.value

pub is_in_some-requires-clause-known : goal.is_in_some-requires-clause-known
is_in_some-requires-clause-known c = c.in_ok-known-in-App.ensures (have c.args.v (raw c.args.bound.now)) (all_have c.args.v c.args.bound.now)
