use Rattle.std.proofs.Common.{◌≡◌, ◌+◌, drop}
use Rattle.npa_text.specs.Bytes.{run, is_word_byte}
use Rattle.npa_text.proofs.bytes.word_run.Given as goal

abbrev pub invariant-loop-count : goal.invariant-loop-count
invariant-loop-count l = run is_word_byte (drop l.count l.bytes) + l.count ≡ run is_word_byte l.bytes
