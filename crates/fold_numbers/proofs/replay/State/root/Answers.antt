use Rattle.std.proofs.Common.{rules, arith, ◌≡◌, Some, refl, slice_get}
use Rattle.fold_numbers.specs.Numbers.{numbers}
use Rattle.fold_core.specs.Machine.{NextRoot}
use Rattle.fold_numbers.proofs.Runs.{root_ran}
use Rattle.fold_numbers.proofs.replay.State.root.Goals as goal

pub returns : goal.returns
returns c =
    let at : slice_get c.args.problem.now.roots c.args.number ≡ Some c.in-Some.item.now = search rules in
    let next : NextRoot c.args.problem.now.roots c.args.before.now c.args.number c.in-Some.item.now = record {
      next = omega (arith, c.requires);
      only_roots = omega (arith, c.requires);
      root = record { is = at };
    } in
    root_ran (numbers c.args.problem.now.rules) c.args.problem.now.roots c.args.before.now c.args.self.now c.place.new.self c.args.problem.now.budget _ c.args.number c.args.place _ c.place.result
    refl next c.place.ensures
