use Rattle.std.proofs.Common.{◌≡◌, min, ◌+◌, ◌*◌, ◌<◌, ◌^◌, ◌-◌, map, drop, get_or}
use Rattle.npa_term.specs.Symbols.{symbol_count, all_count}
use Rattle.npa_unify.specs.Seen.{AreKnown, counts, full, head_term, raw}
use Rattle.npa_unify.proofs.sizes.+sizes.Given as goal

abbrev pub decreases-value_size : goal.decreases-value_size
decreases-value_size l = 4 * get_or (map (λ b. symbol_count (full (raw l.bound.now) b.1)) (raw l.bound.now)) l.at 0 + 1

abbrev pub decreases-head_size : goal.decreases-head_size
decreases-head_size l = 4 * symbol_count (full (raw l.bound.now) (head_term l.head))

abbrev pub decreases-application_size : goal.decreases-application_size
decreases-application_size l = 4 * all_count (map (full (raw l.bound.now)) l.args.now) + 3

abbrev pub decreases-size : goal.decreases-size
decreases-size l = 4 * symbol_count (full (raw l.bound.now) l.t.now) + 2

abbrev pub invariant-application_size-loop-arg : goal.invariant-application_size-loop-arg
invariant-application_size-loop-arg l = record {
  rest : min (l.sum + all_count (map (full (raw l.bound)) (drop l.arg-index l.args))) (2 ^ 64 - 1) ≡ min (1 + all_count (map (full (raw l.bound)) l.args)) (2 ^ 64 - 1);
  fits : l.sum < 2 ^ 64;
  known : AreKnown l.known.items (counts (raw l.bound));
}
