use Rattle.std.proofs.Common.{inr, refl, subst}
use Rattle.npa_close.specs.Checks.{HasAimFault}
use Rattle.npa_close.proofs.checked.check_aims.Goals as goal

pub returns-in-Some : goal.returns-in-Some
returns-in-Some c =
    inr ((c.in-Some.aim, c.in-Some.found), refl, subst (HasAimFault c.args.th.now c.args.aims.now) c.in-Some.is c.in_ok-fault.ensures)
