use Rattle.std.proofs.Common.{◌≡◌, drop}
use Rattle.std.specs.List.{list_all}
use Rattle.npa_model.specs.Fitting.{is_fit_strand}
use Rattle.npa_model.proofs.fit.are_fit_strands.Given as goal

abbrev pub invariant-loop-strand : goal.invariant-loop-strand
invariant-loop-strand l = list_all (is_fit_strand l.protocol) (drop l.strand-index l.strands) ≡ list_all (is_fit_strand l.protocol) l.strands
