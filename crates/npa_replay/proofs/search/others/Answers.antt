use Rattle.npa_replay.proofs.Removing.{others_shorter, others_different, others_among}
use Rattle.npa_replay.proofs.search.others.Goals as goal

pub returns-clause-shorter : goal.returns-clause-shorter
returns-clause-shorter c = others_shorter c.args.places.now c.in_ok-others.others c.args.at c.requires.within c.requires.different c.in_ok-others.ensures

pub returns-clause-different : goal.returns-clause-different
returns-clause-different c = others_different c.args.places.now c.in_ok-others.others c.args.at c.requires.within c.requires.different c.in_ok-others.ensures

pub returns-clause-among : goal.returns-clause-among
returns-clause-among c = others_among c.args.places.now c.in_ok-others.others c.args.at c.requires.within c.requires.different c.in_ok-others.ensures
