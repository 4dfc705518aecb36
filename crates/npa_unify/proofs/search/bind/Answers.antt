use Rattle.npa_unify.proofs.Following.{seen_put}
use Rattle.npa_unify.proofs.search.bind.Goals as goal

pub returns-clause-seen : goal.returns-clause-seen
returns-clause-seen c = seen_put c.args.state.goals.items c.args.state.bound.items c.push.new.self.items c.args.state.next c.args.v c.args.value c.in_ok-push.ensures.items
