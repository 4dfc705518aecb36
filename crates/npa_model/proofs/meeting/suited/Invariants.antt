use Rattle.std.proofs.Common.{ℕ, ◌<◌, ◌↔◌, Contains}
use Rattle.npa_rewrite.specs.Innermost.{normalized}
use Rattle.npa_model.specs.Encounters.{IsSuited}
use Rattle.npa_model.proofs.meeting.suited.Given as goal

abbrev pub invariant-loop-n : goal.invariant-loop-n
invariant-loop-n l = (m : ℕ) → Contains l.row m ↔ ((m < l.n) × IsSuited (normalized l.th) l.protocol.strands l.instances l.standing l.state l.strand m)
