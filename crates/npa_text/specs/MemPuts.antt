-- What writes to memory add and count.
use Rattle.std.specs.Prelude.{ℕ, Bool, List, ◌++◌, if◌then◌else◌}
use Rattle.npa_text.specs.declared.memory.MemSink.{MemSink}
use Rattle.npa_text.specs.Counts.{one_more}
use Rattle.npa_text.specs.MemReads.{is_marked}

-- the state after a write: a call that is to fail counts a fault, and a piece that was taken stands
-- behind the others
abbrev pub after_put : MemSink → List ℕ → Bool → MemSink
after_put s bytes taken = record s {
  written = if taken then s.written ++ bytes else s.written;
  calls = one_more s.calls;
  faults = if is_marked s.failing (one_more s.calls) then one_more s.faults else s.faults;
}
