use Rattle.std.proofs.Common.{◌≡◌, map, sym, ap, arith}
use Rattle.std.proofs.lemmas.Grind.{common_steps}
use Rattle.npa_term.specs.Canonical.{canonical}
use Rattle.npa_term.proofs.CanonicalLaws.{made_same, made_least}
use Rattle.npa_term.proofs.Rows.{canonical_made}
use Rattle.npa_term.proofs.canonical.+canon.Goals as goal

pub returns-in-Var-clause-same : goal.returns-in-Var-clause-same
returns-in-Var-clause-same t c = made_same _ _ (sym (ap canonical c.in-Var.is))

pub returns-in-Var-clause-least : goal.returns-in-Var-clause-least
returns-in-Var-clause-least t c = made_least _ _ (sym (ap canonical c.in-Var.is))

pub returns-in-Name-clause-same : goal.returns-in-Name-clause-same
returns-in-Name-clause-same t c = made_same _ _ (sym (ap canonical c.in-Name.is))

pub returns-in-Name-clause-least : goal.returns-in-Name-clause-least
returns-in-Name-clause-least t c = made_least _ _ (sym (ap canonical c.in-Name.is))

pub returns-after-loop-arg : goal.returns-after-loop-arg
returns-after-loop-arg t c =
    let made : c.loop-arg.made.items ≡ map canonical c.in-App.args = grind (arith, common_steps) in
    let is = canonical_made _ _ c.in-App.args _ _ c.in-App.is c.sort_arguments.ensures made in
    record { value = is; same = made_same _ _ is; least = made_least _ _ is }
