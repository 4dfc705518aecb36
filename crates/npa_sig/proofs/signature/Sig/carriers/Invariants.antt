use Rattle.npa_sig.proofs.Carriers.{AreMarked, unmarked}
use Rattle.npa_sig.proofs.signature.Sig.carriers.Given as goal

abbrev pub invariant-loop-num : goal.invariant-loop-num
invariant-loop-num l = AreMarked l.self l.marks.items

abbrev pub decreases-loop-num : goal.decreases-loop-num
decreases-loop-num l = unmarked l.marks.items
