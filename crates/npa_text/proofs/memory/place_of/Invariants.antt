use Rattle.std.proofs.Common.{◌≡◌, drop}
use Rattle.npa_text.specs.Entries.{place_from}
use Rattle.npa_text.proofs.memory.place_of.Given as goal

abbrev pub invariant-loop-at : goal.invariant-loop-at
invariant-loop-at l = place_from l.at (drop l.at l.entries) l.name ≡ place_from 0 l.entries l.name
