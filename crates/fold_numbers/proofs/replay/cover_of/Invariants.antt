use Rattle.std.proofs.Common.{◌≡◌, ◌&&◌, drop}
use Rattle.std.specs.List.{position_from}
use Rattle.fold_core.specs.Machine.{is_live, least_cover}
use Rattle.fold_numbers.specs.Numbers.{numbers, covers_number}
use Rattle.fold_numbers.proofs.replay.cover_of.Given as goal

abbrev pub invariant-loop-kept : goal.invariant-loop-kept
invariant-loop-kept l = record {
  rest : position_from (λ e. is_live e.status && covers_number e.item l.item) l.at (drop l.kept-index l.entries) ≡ least_cover (numbers l.rules) l.item l.entries;
  at_is : l.at ≡ l.kept-index;
}
