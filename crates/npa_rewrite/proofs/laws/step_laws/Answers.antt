use Rattle.npa_rewrite.proofs.Kept.{smaller, keeps_ground, keeps_sort, step_canonical_form}
use Rattle.npa_rewrite.proofs.Sorted.{keeps_sorted, value_sorted}
use Rattle.npa_rewrite.proofs.Under.{rewrites_same, rewrites_in}
use Rattle.npa_rewrite.proofs.laws.step_laws.Goals as goal

pub returns : goal.returns
returns c = record {
  classes = rewrites_same;
  arguments = rewrites_in;
  canonical = step_canonical_form;
  smaller = smaller;
  sorts = keeps_sort;
  sorted = keeps_sorted;
  values = value_sorted;
  groundness = keeps_ground;
}
