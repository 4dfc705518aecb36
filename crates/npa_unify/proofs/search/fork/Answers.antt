use Rattle.npa_unify.specs.Branches.{fork as forked}
use Rattle.npa_unify.specs.Seen.{seen}
use Rattle.npa_unify.proofs.Following.{fork_step}
use Rattle.npa_unify.proofs.search.fork.Goals as goal

pub loop-i-preserved : goal.loop-i-preserved
loop-i-preserved c = record {
  all = fork_step (λ s. forked s c.args.v c.args.w (seen c.args.state.now)) c.args.lowers.now c.loop-i.i _ _ _ _ c.loop-i-test.true c.in_ok-fork_at.ensures.all c.loop-i.invariant.all;
  sound = λ sound. c.in_ok-fork_at.ensures.sound (c.loop-i.invariant.sound sound);
}
