use Rattle.std.proofs.Common.{take}
use Rattle.npa_rewrite.specs.Innermost.{normalized}
use Rattle.npa_model.specs.Encounters.{AreAllSuited}
use Rattle.npa_model.proofs.meeting.all_suited.Given as goal

abbrev pub invariant-loop-strand : goal.invariant-loop-strand
invariant-loop-strand l = AreAllSuited (normalized l.th) l.protocol.strands l.instances l.standing l.state (take l.strand-index l.strands) l.rows
