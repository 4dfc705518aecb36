use Rattle.npa_sorts.proofs.Grown.{order_built_in}
use Rattle.npa_sorts.proofs.sorts.Sorts.built_in.Goals as goal

pub invariant_of-result : goal.invariant_of-result
invariant_of-result c = order_built_in _ _ c.new.ensures c.in_ok-start.ensures
