use Rattle.std.proofs.Common.{◌≡◌, None, subst, sym}
use Rattle.npa_term.specs.Bound.{BindsOnce, value_of}
use Rattle.npa_term.proofs.Bindings.{binds_once-more}
use Rattle.npa_term.proofs.subst.Subst.bind.Goals as goal

pub invariant_of-self-2 : goal.invariant_of-self-2
invariant_of-self-2 c =
    let free : value_of c.self.inside.bindings.items c.args.v ≡ None = cc in
    subst BindsOnce (sym c.in_ok-push.ensures.items) (binds_once-more _ c.args.v c.args.t c.self.invariant free)
