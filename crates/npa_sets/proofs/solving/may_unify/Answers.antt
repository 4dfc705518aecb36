use Rattle.std.proofs.Common.{arith}
use Rattle.npa_unify.proofs.Clashing.{operators_differ}
use Rattle.npa_sets.proofs.solving.may_unify.Goals as goal

pub returns-in-App-App : goal.returns-in-App-App
returns-in-App-App c = λ no_.
    operators_differ c.args.t.now c.args.u.now c.in-App-App.f c.in-App-App.g _ _ c.in-App-App.is-0 c.in-App-App.is-1 (grind (arith, c.eq.ensures, no_))
