use Rattle.std.proofs.Common.{◌≡◌, drop}
use Rattle.npa_term.specs.Bound.{applied}
use Rattle.npa_moves.specs.Finishing.{keeps_apart}
use Rattle.npa_moves.specs.Moves.{each_with}
use Rattle.npa_drafts.proofs.drafting.keeps_apart.Given as goal

abbrev pub invariant-loop-fact : goal.invariant-loop-fact
invariant-loop-fact l = (l.sent ≡ applied l.s l.message) × (keeps_apart (each_with l.message (drop l.fact-index l.facts)) l.s ≡ keeps_apart (each_with l.message l.facts) l.s)
