use Rattle.std.proofs.Common.{◌≡◌, drop}
use Rattle.npa_moves.specs.Lists.{each_place, strand_problems}
use Rattle.npa_moves.specs.Steps.{found_variants, solve_over}
use Rattle.npa_back.specs.Behind.{all_behind}
use Rattle.npa_back.proofs.introducing.add_introduced.Given as goal

abbrev pub invariant-loop-s : goal.invariant-loop-s
invariant-loop-s l = all_behind (solve_over l.narrowing.ready.now.sig.sorts) l.narrowing.vars.now l.made (each_place (strand_problems (found_variants l.narrowing.ready.now) l.narrowing.pattern.now) l.s (drop l.s l.narrowing.ready.now.strands))
    ≡ all_behind (solve_over l.narrowing.ready.now.sig.sorts) l.narrowing.vars.now l.fn.made (each_place (strand_problems (found_variants l.narrowing.ready.now) l.narrowing.pattern.now) 0 l.narrowing.ready.now.strands)
