use Rattle.npa_match.proofs.Bindings.{unbound_next}
use Rattle.npa_subsume.proofs.cover.substitution.Goals as goal

pub bind-requires : goal.bind-requires
bind-requires c = unbound_next c.args.bound.now c.loop-v.v-index c.loop-v-item.result c.loop-v.s c.requires c.loop-v-test.true c.loop-v-item.is c.loop-v.invariant
