use Rattle.std.proofs.Common.{◌≡◌, ◌≤◌, ◌+◌, drop, length}
use Rattle.npa_moves.specs.Gathering.{joined}
use Rattle.npa_moves.specs.Moves.{each_with}
use Rattle.npa_drafts.specs.Drafts.{results_of}
use Rattle.npa_drafts.proofs.results.results_by.Given as goal

abbrev pub invariant-loop-s : goal.invariant-loop-s
invariant-loop-s l = record {
  few : length l.made ≤ l.s-index;
  results : joined l.made (results_of l.vars l.from (each_with l.message l.unknown) (l.at + length l.made) (drop l.s-index l.unifiers))
      ≡ results_of l.vars l.from (each_with l.message l.unknown) l.at l.unifiers;
}
