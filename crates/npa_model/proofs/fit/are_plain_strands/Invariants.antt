use Rattle.std.proofs.Common.{◌≡◌, drop}
use Rattle.std.specs.List.{list_all}
use Rattle.npa_model.specs.Fitting.{is_plain_strand}
use Rattle.npa_model.proofs.fit.are_plain_strands.Given as goal

abbrev pub invariant-loop-p : goal.invariant-loop-p
invariant-loop-p l = list_all (is_plain_strand l.sig) (drop l.p-index l.strands) ≡ list_all (is_plain_strand l.sig) l.strands
