use Rattle.npa_close.specs.Checks.{part_parts}
use Rattle.npa_close.proofs.Accepting.{Rest}
use Rattle.npa_close.proofs.aims.unaccepted_in.Given as goal

abbrev pub invariant-loop-part : goal.invariant-loop-part
invariant-loop-part l = Rest l.th part_parts l.part-items l.part-index
