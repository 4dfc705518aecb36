use Rattle.std.proofs.Common.{◌≡◌, ◌≤◌, take}
use Rattle.fold_core.specs.Machine.{After, roots_placed}
use Rattle.fold_numbers.specs.Numbers.{numbers}
use Rattle.fold_numbers.proofs.replay.after.Given as goal

abbrev pub invariant-loop-tick : goal.invariant-loop-tick
invariant-loop-tick l = record {
  reached : After (numbers l.problem.rules) l.problem.roots l.problem.budget (take l.tick l.events-2) l.state;
  counted : l.placed ≡ roots_placed (take l.tick l.events-2);
  few : l.placed ≤ l.tick;
}
