use Rattle.std.proofs.Common.{◌≡◌, ◌+◌, drop}
use Rattle.npa_text.specs.Bytes.{run, is_digit}
use Rattle.npa_text.proofs.bytes.digit_run.Given as goal

abbrev pub invariant-loop-count : goal.invariant-loop-count
invariant-loop-count l = run is_digit (drop l.count l.bytes) + l.count ≡ run is_digit l.bytes
