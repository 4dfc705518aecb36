use Rattle.std.proofs.Common.{◌≡◌, drop}
use Rattle.npa_moves.specs.Lists.{each_place, variant_problems}
use Rattle.npa_moves.specs.Steps.{solve_over}
use Rattle.npa_back.specs.Behind.{all_behind}
use Rattle.npa_back.proofs.introducing.add_variants.Given as goal

abbrev pub invariant-loop-n : goal.invariant-loop-n
invariant-loop-n l = all_behind (solve_over l.narrowing.ready.now.sig.sorts) l.narrowing.vars.now l.made (each_place (variant_problems l.narrowing.pattern.now l.s l.strand) l.n (drop l.n l.variants))
    ≡ all_behind (solve_over l.narrowing.ready.now.sig.sorts) l.narrowing.vars.now l.fn.made (each_place (variant_problems l.narrowing.pattern.now l.s l.strand) 0 l.variants)
