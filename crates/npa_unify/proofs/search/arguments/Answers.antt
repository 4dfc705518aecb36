use Rattle.std.proofs.Common.{◌≡◌, length, ◌∙◌}
use Rattle.npa_unify.specs.Seen.{full, raw, seen, seen_all, seen_as}
use Rattle.npa_unify.proofs.Following.{straight_at, seen_zip}
use Rattle.npa_unify.proofs.Outcomes.{on_ok}
use Rattle.npa_unify.proofs.search.arguments.Goals as goal

pub returns-clause-all : goal.returns-clause-all
returns-clause-all c =
    let h = full (raw c.args.state.bound.items) in
    let even : length c.args.ts.now ≡ length c.args.us.now = c.if-ts-us.false in
    on_ok c.wait.result (λ e.
    e ∙ straight_at h c.args.op c.args.ts.now c.args.us.now (seen c.args.state) (seen_as c.push_arguments.new.goals.items c.args.state.bound.items c.args.state.next) (seen_all c.args.waiting.now.items) even c.if-is_crossed.ensures
    (seen_zip c.args.state.goals.items c.push_arguments.new.goals.items c.args.state.bound.items c.args.state.next c.args.ts.now c.args.us.now c.in_ok-push_arguments.ensures)) c.wait.ensures.all
