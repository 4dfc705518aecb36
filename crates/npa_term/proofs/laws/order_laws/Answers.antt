use Rattle.npa_term.proofs.AgreeingLaws.{tied_equal}
use Rattle.npa_term.proofs.OrderLaws.{term_cmp_total}
use Rattle.npa_term.proofs.laws.order_laws.Goals as goal

pub returns : goal.returns
returns c = record { total = term_cmp_total; tied = tied_equal }
