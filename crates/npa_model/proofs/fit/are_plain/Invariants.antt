use Rattle.std.proofs.Common.{◌≡◌, drop}
use Rattle.std.specs.List.{list_all}
use Rattle.npa_model.specs.Fitting.{is_plain}
use Rattle.npa_model.proofs.fit.are_plain.Given as goal

abbrev pub invariant-loop-term : goal.invariant-loop-term
invariant-loop-term l = list_all (is_plain l.sig) (drop l.term-index l.terms) ≡ list_all (is_plain l.sig) l.terms
