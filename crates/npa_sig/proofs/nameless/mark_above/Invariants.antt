use Rattle.std.proofs.Common.{◌≡◌, ℕ, ◌<◌, ◌≤◌, ◌||◌, false, get_or}
use Rattle.npa_sorts.specs.Subsorts.{at_or_below}
use Rattle.npa_sig.proofs.nameless.mark_above.Given as goal

abbrev pub invariant-loop-s : goal.invariant-loop-s
invariant-loop-s l = record {
  done : (x : ℕ) → x < l.s → get_or l.marks x false ≡ (get_or l.initial.marks x false || at_or_below l.sorts l.sort x);
  rest : (x : ℕ) → l.s ≤ x → get_or l.marks x false ≡ get_or l.initial.marks x false;
}
