use Rattle.std.proofs.Common.{◌≡◌, drop}
use Rattle.std.specs.Cmp.Lexicographic.{slice_cmp}
use Rattle.npa_term.specs.Order.{term_cmp}
use Rattle.npa_term.proofs.order.+order.Given as goal

abbrev pub invariant-cmp_all-loop-i : goal.invariant-cmp_all-loop-i
invariant-cmp_all-loop-i l = slice_cmp term_cmp (drop l.i l.a) (drop l.i l.b) ≡ slice_cmp term_cmp l.a l.b
