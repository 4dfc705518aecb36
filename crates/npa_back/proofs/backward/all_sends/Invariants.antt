use Rattle.std.proofs.Common.{◌≡◌, [], drop}
use Rattle.npa_moves.specs.Lists.{each_place, send_problems}
use Rattle.npa_moves.specs.Steps.{solve_over}
use Rattle.npa_back.specs.Behind.{all_behind}
use Rattle.npa_back.proofs.backward.all_sends.Given as goal

abbrev pub invariant-loop-k : goal.invariant-loop-k
invariant-loop-k l = all_behind (solve_over l.narrowing.ready.now.sig.sorts) l.narrowing.vars.now l.made (each_place (send_problems l.narrowing.ready.now.strands l.narrowing.pattern.now) l.k (drop l.k l.narrowing.pattern.now.strands))
    ≡ all_behind (solve_over l.narrowing.ready.now.sig.sorts) l.narrowing.vars.now [] (each_place (send_problems l.narrowing.ready.now.strands l.narrowing.pattern.now) 0 l.narrowing.pattern.now.strands)
