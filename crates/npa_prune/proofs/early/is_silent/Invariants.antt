use Rattle.std.proofs.Common.{◌≡◌, false, take, Contains}
use Rattle.npa_sig.specs.declared.protocol.Event.{Event}
use Rattle.npa_prune.proofs.early.is_silent.Given as goal

abbrev pub invariant-loop-event : goal.invariant-loop-event
invariant-loop-event l = (event : Event) → Contains (take l.event-index l.event-items) event → event.sent ≡ false
