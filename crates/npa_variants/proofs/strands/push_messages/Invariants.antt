use Rattle.std.proofs.Common.{◌≡◌, ◌++◌, map, take}
use Rattle.npa_variants.proofs.strands.push_messages.Given as goal

abbrev pub invariant-loop-event : goal.invariant-loop-event
invariant-loop-event l = l.terms.items ≡ l.initial.terms.items ++ map (λ e. e.msg) (take l.event-index l.events)
