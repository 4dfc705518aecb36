use Rattle.std.specs.Prelude.{[]}
use Rattle.std.specs.List.{flat_map}
use Rattle.npa_term.specs.Numbering.{variables_once}
use Rattle.npa_term.specs.Variables.{variables}
use Rattle.npa_term.proofs.Numbered.{is_numbered, once_has, numbered_sort, unnumbered_sort}
use Rattle.npa_term.proofs.Renumbered.{taken_back, renumbered_below, terms_cover, renumbered_cover}
use Rattle.npa_term.proofs.laws.numbering_laws.Goals as goal

pub returns : goal.returns
returns c = record {
  numbered = λ ts v c. is_numbered 0 (variables_once ts) v (once_has [] (flat_map variables ts) v c);
  back = taken_back;
  sorts = λ ts v. (numbered_sort 0 (variables_once ts) v, unnumbered_sort 0 (variables_once ts) v);
  below = renumbered_below;
  covering = terms_cover;
  covered = renumbered_cover;
}
