use Rattle.std.proofs.Common.{◌≡◌, drop}
use Rattle.npa_moves.specs.Lists.{each_place, event_problems, variant_problems}
use Rattle.npa_moves.specs.Steps.{solve_over}
use Rattle.npa_back.specs.Behind.{all_behind}
use Rattle.npa_back.proofs.introducing.add_events.Given as goal

abbrev pub invariant-loop-e : goal.invariant-loop-e
invariant-loop-e l = all_behind (solve_over l.narrowing.ready.now.sig.sorts) l.narrowing.vars.now l.made (each_place (event_problems l.narrowing.pattern.now l.by.number l.by.strand.now l.by.variant l.by.values.now) l.e (drop l.e l.by.strand.now.events))
    ≡ all_behind (solve_over l.narrowing.ready.now.sig.sorts) l.narrowing.vars.now l.fn.made (variant_problems l.narrowing.pattern.now l.by.number l.by.strand.now l.by.variant l.by.values.now)
