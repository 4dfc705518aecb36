use Rattle.std.proofs.Common.{None, take, flat_map}
use Rattle.npa_term.specs.Symbols.{symbol_count}
use Rattle.npa_accept.specs.Parts.{parts}
use Rattle.npa_accept.specs.Unaccepted.{IsFirst}
use Rattle.npa_accept.proofs.accepted.+first_unaccepted.Given as goal

abbrev pub decreases-first_unaccepted : goal.decreases-first_unaccepted
decreases-first_unaccepted l = symbol_count l.t.now

abbrev pub invariant-loop-arg : goal.invariant-loop-arg
invariant-loop-arg l = IsFirst l.th (flat_map parts (take l.arg-index l.arg-items)) None
