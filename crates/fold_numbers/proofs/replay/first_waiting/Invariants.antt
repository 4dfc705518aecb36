use Rattle.std.proofs.Common.{◌≡◌, drop}
use Rattle.std.specs.List.{position_from}
use Rattle.fold_core.specs.Machine.{is_waiting, least_waiting}
use Rattle.fold_numbers.proofs.replay.first_waiting.Given as goal

abbrev pub invariant-loop-kept : goal.invariant-loop-kept
invariant-loop-kept l = record {
  rest : position_from (λ e. is_waiting e.status) l.at (drop l.kept-index l.entries) ≡ least_waiting l.entries;
  at_is : l.at ≡ l.kept-index;
}
