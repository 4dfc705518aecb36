use Rattle.std.proofs.Common.{◌≡◌, ◌≤◌, ◌+◌, drop}
use Rattle.npa_text.specs.Places.{moved_over, first_place}
use Rattle.npa_text.proofs.place.end_place.Given as goal

abbrev pub invariant-loop-byte : goal.invariant-loop-byte
invariant-loop-byte l = record {
  place : moved_over (drop l.byte-index l.bytes) l.place ≡ moved_over l.bytes first_place;
  line : l.place.line ≤ l.byte-index + 1;
  col : l.place.col ≤ l.byte-index + 1;
}
