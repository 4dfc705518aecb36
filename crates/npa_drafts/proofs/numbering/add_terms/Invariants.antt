use Rattle.std.proofs.Common.{◌≡◌, ◌++◌, take}
use Rattle.npa_drafts.proofs.numbering.add_terms.Given as goal

abbrev pub invariant-loop-t : goal.invariant-loop-t
invariant-loop-t l = l.terms ≡ l.fn.terms ++ take l.t-index l.more
