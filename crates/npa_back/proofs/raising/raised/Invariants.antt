use Rattle.std.proofs.Common.{◌≡◌, map, take}
use Rattle.npa_term.specs.Variables.{renamed}
use Rattle.npa_back.proofs.raising.raised.Given as goal

abbrev pub invariant-loop-t : goal.invariant-loop-t
invariant-loop-t l = l.made.items ≡ map (renamed l.base) (take l.t-index l.terms)
