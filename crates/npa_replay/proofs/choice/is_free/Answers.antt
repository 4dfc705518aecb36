use Rattle.std.proofs.Common.{ap}
use Rattle.npa_model.specs.declared.aim.Part.{Part}
use Rattle.npa_replay.specs.Choices.{taken}
use Rattle.npa_replay.proofs.Members.{free_unless, used_unless}
use Rattle.npa_replay.proofs.choice.is_free.Goals as goal

pub returns-in-Strand-clause-free : goal.returns-in-Strand-clause-free
returns-in-Strand-clause-free c =
    free_unless c.holds.result c.args.used.now c.args.place (taken c.args.part.now c.args.place) (ap (λ (p : Part). taken p c.args.place) c.in-Strand.is) c.holds.ensures.1

pub returns-in-Strand-clause-used : goal.returns-in-Strand-clause-used
returns-in-Strand-clause-used c =
    used_unless c.holds.result c.args.used.now c.args.place (taken c.args.part.now c.args.place) (ap (λ (p : Part). taken p c.args.place) c.in-Strand.is) c.holds.ensures.0
