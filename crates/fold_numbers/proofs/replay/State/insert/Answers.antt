use Rattle.std.proofs.Common.{rules, ◌≡◌, Some, refl, slice_get}
use Rattle.fold_numbers.specs.Numbers.{numbers}
use Rattle.fold_numbers.proofs.Runs.{insert_ran, ran_not}
use Rattle.fold_core.proofs.Inversions.{step_says}
use Rattle.fold_numbers.proofs.replay.State.insert.Goals as goal

pub returns-in_default : goal.returns-in_default
returns-in_default c = ran_not c.args.self.now (λ other step. (let s = step_says step in (rw c.in_default.is at c.in_ok-children.ensures.none) s.children s.expanding))

pub returns : goal.returns
returns c =
    let at : slice_get c.in-Some.children c.args.child ≡ Some c.in-Some-get.item.now = search rules in
    insert_ran (numbers c.args.problem.now.rules) c.args.problem.now.roots c.args.before.now c.args.self.now c.place.new.self {children = c.in-Some.children} c.args.problem.now.budget _ c.args.parent c.args.child c.args.place _ c.place.result
    refl (rw c.in-Some.is at c.in_ok-children.ensures.some) (record { is = at }) c.place.ensures
