use Rattle.std.proofs.Common.{◌≡◌, drop}
use Rattle.std.specs.List.{list_all}
use Rattle.npa_sig.specs.Sorting.{well_sorted}
use Rattle.npa_sig.proofs.signature.Sig.+well_sorted.Given as goal

abbrev pub invariant-loop-arg : goal.invariant-loop-arg
invariant-loop-arg l = list_all (well_sorted l.self) (drop l.arg-index l.arg-items) ≡ list_all (well_sorted l.self) l.arg-items
