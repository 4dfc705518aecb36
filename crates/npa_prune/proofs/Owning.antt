-- Early use of fresh values, strand by strand.
use Rattle.std.proofs.Common.{List, Contains}
use Rattle.npa_term.specs.declared.term.Term.{Term}
use Rattle.npa_sig.specs.declared.protocol.Strand.{Strand}
use Rattle.npa_model.specs.declared.pattern.PStrand.{PStrand}
use Rattle.npa_model.specs.declared.pattern.Pattern.{Pattern}
use Rattle.npa_prune.specs.Pruned.{fresh_args, IsSilent, IsHeard}

-- a value of a fresh parameter of a strand is heard
abbrev pub IsOneHeard : Pattern → List Term → Type 0
IsOneHeard g ts = (t : Term) × Contains ts t × IsHeard g t

-- and the strand has sent nothing
abbrev pub OwnsEarly : List Strand → Pattern → PStrand → Type 0
OwnsEarly strands g p = IsSilent strands p × IsOneHeard g (fresh_args strands p)
