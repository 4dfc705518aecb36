use Rattle.npa_term.proofs.RenamedLaws.{variables-renamed, symbol_count-renamed, same_renamed, term_cmp-renamed, canonical-renamed}
use Rattle.npa_term.proofs.laws.renaming_laws.Goals as goal

pub returns : goal.returns
returns c = record { variables = variables-renamed; sizes = symbol_count-renamed; same = λ base t u p. same_renamed base p; order = term_cmp-renamed; canonical = canonical-renamed }
