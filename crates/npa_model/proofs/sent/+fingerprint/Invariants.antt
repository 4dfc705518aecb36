use Rattle.std.proofs.Common.{◌≡◌, drop}
use Rattle.npa_model.specs.Sent.{fingerprint, all_fingerprint}
use Rattle.npa_model.proofs.sent.+fingerprint.Given as goal

abbrev pub invariant-loop-arg : goal.invariant-loop-arg
invariant-loop-arg l = all_fingerprint l.read (drop l.arg-index l.arg-items) ≡ fingerprint l.hash l.term
