use Rattle.std.proofs.Common.{◌≡◌, drop}
use Rattle.npa_variants.specs.Origination.{is_received}
use Rattle.npa_variants.proofs.origins.is_received.Given as goal

abbrev pub invariant-loop-i : goal.invariant-loop-i
invariant-loop-i l = is_received l.v (drop l.i l.events) (drop l.i l.messages) ≡ is_received l.v l.events l.messages
