use Rattle.std.proofs.Common.{◌≡◌, subst, sym, take, arith, ◌≤◌, length, [], refl, ◌∙◌}
use Rattle.fold_store.specs.Store.{IsFor, InsertsBelow, nothing, none_behind}
use Rattle.fold_store.proofs.Finishing.{finishing_start, finishing_closing, finishing_done, finishing_taken, inserts_settled, length_taken, once_settled, always_err, take_whole}
use Rattle.fold_store.proofs.ledger.Ledger.finish.Goals as goal

pub returns-then-not-is_for-clause-kept : goal.returns-then-not-is_for-clause-kept
returns-then-not-is_for-clause-kept g c = nothing

pub returns-then-not-is_for-clause-once : goal.returns-then-not-is_for-clause-once
returns-then-not-is_for-clause-once g c = (0, none_behind 0)

pub returns-in_err-push-clause-once : goal.returns-in_err-push-clause-once
returns-in_err-push-clause-once g c =
    let rules = g.F.Folding.rules in
    let k : c.loop-child.child ≡ length (take c.loop-child.child c.args.work.now.children) = length_taken c.args.work.now.children c.loop-child.child (let n = c.children-child-end.ensures.number in omega (arith, n, c.loop-child-test.true)) in
    always_err c.from_residual-in_err-push.result (once_settled rules c.in_ok-placed.ensures.ok (subst (λ m. InsertsBelow rules c.args.id c.args.self.now m c.loop-child.self) (sym k) c.loop-child.invariant.once))

pub loop-child-init : goal.loop-child-init
loop-child-init g c =
    let f : IsFor c.args.self.now c.args.id c.args.work.now = c.is_for.ensures.0 c.if-not-is_for.false in
    finishing_start g.F.Folding.rules c.args.self.now c.args.id c.args.hints.now c.args.work.now [] c.new-places.result (g.met.F.Folding.lawful c.args.self.now.rules) c.events-start.ensures.after f c.children-child-end.ensures.expands refl c.new-places.ensures

pub returns-in_err-push-clause-kept : goal.returns-in_err-push-clause-kept
returns-in_err-push-clause-kept g c = always_err c.from_residual-in_err-push.result (inserts_settled g.F.Folding.rules c.in_ok-placed.ensures.ok c.loop-child.invariant.inserts)

pub loop-child-preserved : goal.loop-child-preserved
loop-child-preserved g c =
    finishing_taken c.in_ok-placed.ensures.ok c.loop-child.invariant c.child.ensures.stands (c.copied-hint.ensures ∙ c.get.ensures.value) c.in_ok-push.ensures.ok

pub close-requires : goal.close-requires
close-requires g c =
    let all : length c.args.work.now.children ≤ c.loop-child.child = (let n = c.children-child-end.ensures.number in omega arith) in
    finishing_closing c.loop-child.invariant (take_whole c.args.work.now.children c.loop-child.child all) c.events-start.ensures.number c.events-start.ensures.after

pub returns-clause-ok : goal.returns-clause-ok
returns-clause-ok g c =
    let all : length c.args.work.now.children ≤ c.loop-child.child = (let n = c.children-child-end.ensures.number in omega arith) in
    finishing_done c.loop-child.invariant (take_whole c.args.work.now.children c.loop-child.child all) c.events-start.ensures.number c.close.ensures
