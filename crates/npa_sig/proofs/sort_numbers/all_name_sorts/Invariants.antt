use Rattle.npa_sig.specs.Operators.{HasSorts}
use Rattle.npa_sig.proofs.Places.{HoldUpTo}
use Rattle.npa_sig.proofs.sort_numbers.all_name_sorts.Given as goal

abbrev pub invariant-loop-decl : goal.invariant-loop-decl
invariant-loop-decl l = HoldUpTo (HasSorts l.sorts) l.decl-index l.ops
