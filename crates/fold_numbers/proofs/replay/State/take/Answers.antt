use Rattle.std.proofs.Common.{rules, arith, ◌≡◌, ℕ, Some, None, refl}
use Rattle.fold_numbers.specs.Numbers.{numbers}
use Rattle.fold_core.specs.Machine.{Core, least_waiting, taken_count}
use Rattle.fold_numbers.proofs.Runs.{take_ran, waiting_within}
use Rattle.fold_numbers.proofs.replay.State.take.Goals as goal

pub set_status-requires : goal.set_status-requires
set_status-requires c =
    let first : least_waiting c.self.inside.entries.items ≡ Some c.args.entry = search rules in
    waiting_within c.self.inside.entries.items c.args.entry first

pub returns-in-Some : goal.returns-in-Some
returns-in-Some c =
    let v : Core ℕ = record { entries = c.self.inside.entries.items; found = c.self.inside.found; halted = c.self.inside.halted; finished = c.self.inside.finished } in
    let here : v ≡ c.args.self.now = c.self.view_is in
    let found : v.found ≡ None = search rules in
    let halted : v.halted ≡ None = search rules in
    let first : least_waiting c.self.inside.entries.items ≡ Some c.args.entry = search rules in
    let count : c.count_taken.result ≡ taken_count c.self.inside.entries.items = search rules in
    take_ran (numbers c.args.problem.now.rules) c.args.problem.now.roots c.args.before.now c.args.self.now v c.args.problem.now.budget _ c.args.entry c.args.entry c.set_status.new.entries.items
    here found halted refl (omega (arith, count, c.if-count_taken-left.false)) first refl c.set_status.ensures
