use Rattle.std.proofs.Common.{rules, ◌≡◌, length, sym, subst}
use Rattle.fold_store.specs.Forest.{SameInClass, with_own}
use Rattle.fold_store.proofs.Trees.{own_added}
use Rattle.fold_store.proofs.forest.Forest.add.Goals as goal

pub returns-clause-same : goal.returns-clause-same
returns-clause-same c = λ label own same.
    let many : c.len-number.result ≡ length c.self.inside.nodes.items = search rules in
    let seen : c.self.inside.nodes.items ≡ c.args.self.now = c.self.view_is in
    let made = own_added c.self.inside.nodes.items _ c.self.invariant many many label own (subst (SameInClass label) (sym seen) same) in
    subst (λ w. SameInClass (with_own label (length w) own) c.push.new.self.items) seen (subst (SameInClass (with_own label (length c.self.inside.nodes.items) own)) (sym c.in_ok-push.ensures.items) made)
