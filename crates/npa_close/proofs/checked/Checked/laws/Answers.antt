use Rattle.std.proofs.Common.{List, subst}
use Rattle.npa_sig.specs.declared.protocol.Protocol.{Protocol}
use Rattle.npa_model.specs.declared.aim.Aim.{Aim}
use Rattle.npa_close.specs.Checks.{Holds}
use Rattle.npa_close.proofs.checked.Checked.laws.Goals as goal

pub returns : goal.returns
returns c =
    let holds : Holds c.args.self.now.0 c.args.self.now.1 = subst (λ (p : Protocol × List Aim). Holds p.0 p.1) c.self.view_is c.self.invariant in
    record { passes = holds.passes; sound = holds.sound }
