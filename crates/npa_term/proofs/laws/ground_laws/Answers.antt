use Rattle.npa_term.proofs.GroundLaws.{applied-ground, ground_canonical}
use Rattle.npa_term.proofs.laws.ground_laws.Goals as goal

pub returns : goal.returns
returns c = record { fixed = applied-ground; canonical = ground_canonical }
