use Rattle.std.proofs.Common.{◌≡◌, map, drop}
use Rattle.npa_syntax.specs.Tables.{plain, parts_of}
use Rattle.npa_syntax.proofs.opening.parts_after.Given as goal

abbrev pub invariant-loop-production : goal.invariant-loop-production
invariant-loop-production l =
    parts_of (map plain (drop l.production-index l.productions)) l.symbol l.kind ≡ parts_of (map plain l.productions) l.symbol l.kind
