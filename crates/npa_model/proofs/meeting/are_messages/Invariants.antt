use Rattle.std.proofs.Common.{◌≡◌, length, map, take}
use Rattle.npa_term.specs.Canonical.{canonical}
use Rattle.npa_sig.specs.Values.{under}
use Rattle.npa_rewrite.specs.Innermost.{normalized}
use Rattle.npa_model.proofs.meeting.are_messages.Given as goal

abbrev pub invariant-loop-i : goal.invariant-loop-i
invariant-loop-i l = record {
  even : length l.events ≡ length l.msgs;
  same : map (λ event. normalized l.th (under l.values event.msg)) (take l.i l.events) ≡ map canonical (take l.i l.msgs);
}
