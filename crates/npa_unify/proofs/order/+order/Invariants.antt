use Rattle.std.proofs.Common.{◌≡◌, ◌+◌, ◌*◌, map, drop}
use Rattle.std.specs.Cmp.Lexicographic.{slice_cmp}
use Rattle.npa_term.specs.Order.{term_cmp}
use Rattle.npa_term.specs.Symbols.{symbol_count, all_count}
use Rattle.npa_unify.specs.Seen.{form, full, placed, raw}
use Rattle.npa_unify.proofs.order.+order.Given as goal

abbrev pub decreases-order : goal.decreases-order
decreases-order l = 2 * (symbol_count (full (raw l.bound.now) l.t.now) + symbol_count (full (raw l.bound.now) l.u.now))

abbrev pub decreases-order_arguments : goal.decreases-order_arguments
decreases-order_arguments l = 2 * (all_count (map (full (raw l.bound.now)) l.ts.now) + all_count (map (full (raw l.bound.now)) l.us.now)) + 3

abbrev pub decreases-is_turned : goal.decreases-is_turned
decreases-is_turned l = 2 * all_count (map (full (raw l.bound.now)) l.ts.now) + 1

abbrev pub invariant-order_arguments-loop-i : goal.invariant-order_arguments-loop-i
invariant-order_arguments-loop-i l =
    slice_cmp term_cmp (drop l.i (map (form (raw l.bound)) (placed l.left l.ts))) (drop l.i (map (form (raw l.bound)) (placed l.right l.us)))
    ≡ slice_cmp term_cmp (map (form (raw l.bound)) (placed l.left l.ts)) (map (form (raw l.bound)) (placed l.right l.us))
