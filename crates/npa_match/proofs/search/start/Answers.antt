use Rattle.std.proofs.Common.{◌∙◌, ap}
use Rattle.npa_match.specs.Matching.{read_pairs}
use Rattle.npa_match.specs.Search.{goal_pairs}
use Rattle.npa_match.proofs.Waiting.{pairs_reversed}
use Rattle.npa_match.proofs.search.start.Goals as goal

pub returns-clause-pairs : goal.returns-clause-pairs
returns-clause-pairs c = ap goal_pairs c.reverse.ensures.items ∙ pairs_reversed c.in_ok-goals.goals.items ∙ ap read_pairs c.in_ok-goals.ensures.items
