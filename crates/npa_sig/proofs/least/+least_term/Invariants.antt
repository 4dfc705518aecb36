use Rattle.std.proofs.Common.{take}
use Rattle.npa_sig.proofs.LeastTerms.{known_size, AreLeast}
use Rattle.npa_sig.proofs.least.+least_term.Given as goal

abbrev pub decreases-least_term : goal.decreases-least_term
decreases-least_term l = known_size l.sizes.now l.sort

abbrev pub invariant-loop-arg : goal.invariant-loop-arg
invariant-loop-arg l = AreLeast l.sig.sorts l.sig.ops (take l.arg-index l.decl.args) l.args.items
