use Rattle.std.proofs.Common.{◌≡◌, drop}
use Rattle.std.specs.List.{list_any}
use Rattle.npa_unify.specs.Answers.{same_subst}
use Rattle.npa_unify.proofs.substs.is_kept.Given as goal

abbrev pub invariant-loop-other : goal.invariant-loop-other
invariant-loop-other l = list_any (same_subst l.s) (drop l.other-index l.kept) ≡ list_any (same_subst l.s) l.kept
