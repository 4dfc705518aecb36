use Rattle.std.proofs.Common.{◌≡◌, drop}
use Rattle.std.specs.List.{list_any}
use Rattle.npa_term.specs.Computed.{is_same}
use Rattle.npa_drafts.proofs.instances.is_kept.Given as goal

abbrev pub invariant-loop-t : goal.invariant-loop-t
invariant-loop-t l = list_any (is_same l.fact) (drop l.t-index l.kept) ≡ list_any (is_same l.fact) l.kept
