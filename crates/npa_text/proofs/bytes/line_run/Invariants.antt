use Rattle.std.proofs.Common.{◌≡◌, ◌+◌, drop}
use Rattle.npa_text.specs.Bytes.{run, is_in_line}
use Rattle.npa_text.proofs.bytes.line_run.Given as goal

abbrev pub invariant-loop-count : goal.invariant-loop-count
invariant-loop-count l = run is_in_line (drop l.count l.bytes) + l.count ≡ run is_in_line l.bytes
