use Rattle.std.proofs.Common.{rules, ◌≡◌, ℕ}
use Rattle.fold_numbers.specs.Numbers.{numbers}
use Rattle.fold_core.specs.Machine.{Core}
use Rattle.fold_numbers.proofs.Runs.{reset_ran}
use Rattle.fold_numbers.proofs.replay.State.reset.Goals as goal

pub returns : goal.returns
returns c =
    let v : Core ℕ = record { entries = c.self.inside.entries.items; found = c.self.inside.found; halted = c.self.inside.halted; finished = c.self.inside.finished } in
    let here : v ≡ c.args.self.now = c.self.view_is in
    reset_ran (numbers c.args.problem.now.rules) c.args.problem.now.roots c.args.problem.now.budget c.args.before.now c.args.self.now v c.in_ok-entries.entries.items here (search rules)
