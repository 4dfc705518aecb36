use Rattle.std.proofs.Common.{arith, ◌≡◌, length, refl, ap, subst, sym}
use Rattle.fold_store.specs.Store.{Inserts}
use Rattle.fold_store.proofs.Finishing.{always_err}
use Rattle.fold_pool.proofs.Turns.{inserts_of, ordered_none, ordered_next, longer_next}
use Rattle.fold_pool.proofs.turn.insert_all.Goals as goal

pub loop-child-init : goal.loop-child-init
loop-child-init g c = record {
  ordered = ordered_none g.F.Folding.rules c.args.id c.args.store.now c.new-entries.result c.new-entries.ensures;
  number = ap length c.new-entries.ensures;
  is_for = c.requires;
}

pub returns-in_err-number-clause-left : goal.returns-in_err-number-clause-left
returns-in_err-number-clause-left g c =
    always_err c.from_residual.result (subst (Inserts g.F.Folding.rules c.args.id c.args.store.now) (sym c.in_err-number.ensures.err) (inserts_of c.loop-child.invariant.ordered))

pub returns-in_err-push-clause-left : goal.returns-in_err-push-clause-left
returns-in_err-push-clause-left g c =
    always_err c.from_residual-in_err-push.result (inserts_of (ordered_next c.loop-child.invariant.ordered c.loop-child.invariant.number c.in_ok-number.ensures.ok refl))

pub loop-child-preserved : goal.loop-child-preserved
loop-child-preserved g c = record {
  ordered = ordered_next c.loop-child.invariant.ordered c.loop-child.invariant.number c.in_ok-number.ensures.ok c.in_ok-push.ensures.ok;
  number = longer_next c.loop-child.entries c.push.new.self c.in_ok-number.number c.loop-child.child c.in_ok-push.ensures.ok c.loop-child.invariant.number;
  is_for = c.insert.ensures.is_for;
}

pub returns-clause-ok : goal.returns-clause-ok
returns-clause-ok g c =
    let many : length c.loop-child.entries ≡ length c.args.work.now.children =
    (let n = c.loop-child.invariant.number in let h = c.loop-child-test.false in let k = c.loop-child.auto.child-end in let total = c.children-child-end.ensures.number in omega arith) in
    record { inserts = c.loop-child.invariant.ordered; all = many }
