use Rattle.std.proofs.Common.{sym, subst}
use Rattle.npa_rewrite.specs.declared.theory.Theory.{Theory}
use Rattle.npa_model.specs.Accepted.{IsAccepted}
use Rattle.npa_replay.proofs.replaying.replay.Goals as goal

pub replayed-requires-clause-accepted : goal.replayed-requires-clause-accepted
replayed-requires-clause-accepted c = subst (λ (th : Theory). IsAccepted th c.args.aim.now) (sym c.theory.ensures) c.requires.accepted
