use Rattle.npa_rewrite.proofs.Existence.{normal_form_exists}
use Rattle.npa_rewrite.proofs.Kept.{settled, steps_ground}
use Rattle.npa_rewrite.proofs.Parts.{normal_part}
use Rattle.npa_rewrite.proofs.Sorted.{form_sorted}
use Rattle.npa_rewrite.proofs.Under.{normal_same}
use Rattle.npa_rewrite.proofs.laws.normal_laws.Goals as goal

pub returns : goal.returns
returns c = record {
  classes = normal_same;
  parts = λ th t u p n. normal_part th p n;
  settled = settled;
  some = normal_form_exists;
  sorted = form_sorted;
  groundness = λ th t u cancel p g. steps_ground th cancel p g;
}
