use Rattle.std.proofs.Common.{take, Contains}
use Rattle.npa_term.specs.declared.term.Term.{Term}
use Rattle.npa_term.specs.Canonical.{canonical}
use Rattle.npa_model.proofs.meeting.none_sent.Given as goal

abbrev pub invariant-loop-term : goal.invariant-loop-term
invariant-loop-term l = (t : Term) → Contains (take l.term-index l.terms) t → Contains l.state.sent (canonical t) → ⊥
