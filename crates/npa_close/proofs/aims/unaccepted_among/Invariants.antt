use Rattle.npa_accept.specs.Parts.{parts}
use Rattle.npa_close.proofs.Accepting.{Rest}
use Rattle.npa_close.proofs.aims.unaccepted_among.Given as goal

abbrev pub invariant-loop-term : goal.invariant-loop-term
invariant-loop-term l = Rest l.th parts l.terms l.term-index
