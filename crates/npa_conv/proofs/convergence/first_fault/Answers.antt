use Rattle.std.proofs.Common.{◌↔◌, ℕ, IsTrue, subst}
use Rattle.npa_sorts.specs.Subsorts.{IsAtOrBelow, at_or_below}
use Rattle.npa_conv.proofs.Cancelling.{all_cancel}
use Rattle.npa_conv.proofs.convergence.first_fault.Goals as goal

pub check_pairs-requires-clause-cancelling : goal.check_pairs-requires-clause-cancelling
check_pairs-requires-clause-cancelling c =
    all_cancel c.args.th.now.sig.sorts (subst (λ o. (s t : ℕ) → IsTrue (at_or_below o s t) ↔ IsAtOrBelow o s t) c.sorts-sorts.ensures c.laws.ensures.decides) c.args.th.now.equations c.in_ok-check_shapes.ensures
