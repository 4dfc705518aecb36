use Rattle.std.proofs.Common.{◌≡◌, length, map, take}
use Rattle.npa_term.specs.Canonical.{canonical}
use Rattle.npa_model.proofs.meeting.have_same_forms.Given as goal

abbrev pub invariant-loop-i : goal.invariant-loop-i
invariant-loop-i l = record {
  even : length l.ts ≡ length l.us;
  same : map canonical (take l.i l.ts) ≡ map canonical (take l.i l.us);
}
