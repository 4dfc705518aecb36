use Rattle.std.proofs.Common.{rules, arith, length, true, refl, sym, ◌∙◌}
use Rattle.fold_numbers.specs.Numbers.{numbers}
use Rattle.fold_core.specs.Machine.{Expanding}
use Rattle.fold_numbers.specs.Replay.{RanAll}
use Rattle.fold_numbers.proofs.Runs.{finish_ran, finish_stops, still_there, settles_length, ran_not}
use Rattle.fold_core.proofs.Inversions.{step_says}
use Rattle.fold_numbers.proofs.replay.State.finish.Goals as goal

pub returns-in_default : goal.returns-in_default
returns-in_default c = ran_not c.args.self.now (λ other step. (let s = step_says step in (rw c.in_default.is at c.in_ok-children.ensures.none) s.children s.expanding))

pub returns-then-len : goal.returns-then-len
returns-then-len c =
    let x : Expanding (numbers c.args.problem.now.rules) c.args.entry c.in-Some.children c.args.self.now = (rw c.in-Some.is at c.in_ok-children.ensures.some) in
    finish_stops (numbers c.args.problem.now.rules) c.args.problem.now.roots c.args.before.now c.args.self.now c.args.self.now c.in-Some.children c.args.problem.now.budget c.args.entry c.args.places.now x
    (λ other s. (let e = settles_length s in c.if-len.true (c.len.ensures ∙ e ∙ sym c.len-2.ensures)))

pub close-requires-clause-within : goal.close-requires-clause-within
close-requires-clause-within c =
    let x : Expanding (numbers c.args.problem.now.rules) c.args.entry c.in-Some.children c.args.self.now = (rw c.in-Some.is at c.in_ok-children.ensures.some) in
    let ran : RanAll (numbers c.args.problem.now.rules) (length c.args.before.now) c.args.entry 0 c.in-Some.children c.args.places.now c.args.self.now true c.settle.new.self = search rules in
    (still_there x (ran.leads refl)).0

pub close-requires-clause-few : goal.close-requires-clause-few
close-requires-clause-few c =
    let x : Expanding (numbers c.args.problem.now.rules) c.args.entry c.in-Some.children c.args.self.now = (rw c.in-Some.is at c.in_ok-children.ensures.some) in
    let ran : RanAll (numbers c.args.problem.now.rules) (length c.args.before.now) c.args.entry 0 c.in-Some.children c.args.places.now c.args.self.now true c.settle.new.self = search rules in
    let same = (still_there x (ran.leads refl)).1 in
    omega (arith, same, c.requires)

pub returns : goal.returns
returns c =
    let x : Expanding (numbers c.args.problem.now.rules) c.args.entry c.in-Some.children c.args.self.now = (rw c.in-Some.is at c.in_ok-children.ensures.some) in
    let ran : RanAll (numbers c.args.problem.now.rules) (length c.args.before.now) c.args.entry 0 c.in-Some.children c.args.places.now c.args.self.now true c.settle.new.self = search rules in
    finish_ran (numbers c.args.problem.now.rules) c.args.problem.now.roots c.args.before.now c.args.self.now c.settle.new.self c.close.new.self c.in-Some.children c.args.problem.now.budget _ c.args.entry c.args.places.now
    refl x ran c.close.ensures
