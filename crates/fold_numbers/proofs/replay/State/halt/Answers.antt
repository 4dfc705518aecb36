use Rattle.std.proofs.Common.{rules, ◌≡◌, ℕ, None}
use Rattle.fold_numbers.specs.Numbers.{numbers}
use Rattle.fold_core.specs.Machine.{Core}
use Rattle.fold_numbers.proofs.Runs.{halt_ran, halt_stops}
use Rattle.fold_numbers.proofs.replay.State.halt.Goals as goal

pub returns-in_default : goal.returns-in_default
returns-in_default c =
    halt_stops (numbers c.args.problem.now.rules) c.args.problem.now.roots c.args.before.now c.args.self.now c.args.self.now c.args.problem.now.budget c.args.entry c.args.why
    (λ over. (rw c.in_default.is at c.in_ok-large.ensures.none) c.args.why over)

pub returns : goal.returns
returns c =
    let v : Core ℕ = record { entries = c.self.inside.entries.items; found = c.self.inside.found; halted = c.self.inside.halted; finished = c.self.inside.finished } in
    let here : v ≡ c.args.self.now = c.self.view_is in
    let free : v.halted ≡ None = search rules in
    let is : c.in-Some.large ≡ c.args.why = search rules in
    halt_ran (numbers c.args.problem.now.rules) c.args.problem.now.roots c.args.before.now c.args.self.now v c.args.problem.now.budget c.args.entry c.in-Some.large c.args.why here free is
    (rw c.in-Some.is at c.in_ok-large.ensures.some)
