use Rattle.npa_sig.proofs.SizeLaws.{AreSettled, unsettled}
use Rattle.npa_sig.proofs.least.sizes.Given as goal

abbrev pub invariant-loop-offer : goal.invariant-loop-offer
invariant-loop-offer l = AreSettled l.sorts l.ops l.sizes.items

abbrev pub decreases-loop-offer : goal.decreases-loop-offer
decreases-loop-offer l = unsettled l.sizes.items
