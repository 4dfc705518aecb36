use Rattle.std.proofs.Common.{◌≡◌, drop}
use Rattle.npa_model.specs.declared.pattern.Pattern.{Pattern}
use Rattle.npa_moves.specs.Lists.{first_receive}
use Rattle.npa_back.proofs.learning.first_receive.Given as goal

abbrev pub invariant-loop-k : goal.invariant-loop-k
invariant-loop-k l = (g : Pattern) → first_receive l.ready.strands g l.k (drop l.k l.strands) ≡ first_receive l.ready.strands g 0 l.strands
