use Rattle.std.proofs.Common.{length}
use Rattle.npa_replay.proofs.Searching.{inside_candidates}
use Rattle.npa_replay.proofs.scene.place_at.Goals as goal

pub returns-clause-candidates : goal.returns-clause-candidates
returns-clause-candidates c =
    inside_candidates c.args.places.now (length c.args.scene.now.parts.now) c.args.at c.args.candidates.now c.requires.places c.requires.candidates.even c.requires.within
