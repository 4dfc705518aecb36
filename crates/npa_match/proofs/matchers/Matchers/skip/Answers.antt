use Rattle.npa_match.proofs.Waiting.{last_once}
use Rattle.npa_match.proofs.matchers.Matchers.skip.Goals as goal

pub invariant_of-self : goal.invariant_of-self
invariant_of-self c = last_once _ _ c.in_err-next_end.ensures.lost c.self.invariant
