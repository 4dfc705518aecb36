use Rattle.npa_accept.proofs.Firsts.{accepted_none, none_accepted, one_first}
use Rattle.npa_accept.proofs.Parts.{listed_part, part_listed}
use Rattle.npa_accept.proofs.laws.accepted_laws.Goals as goal

pub returns : goal.returns
returns c = record {
  one = one_first;
  parts = λ t u. (listed_part u t, part_listed);
  none = λ th t. (none_accepted th t, accepted_none th t);
}
