use Rattle.std.proofs.Common.{◌≡◌, ℕ, ◌<◌, ◌≤◌, false, ◌||◌, get_or}
use Rattle.npa_sorts.proofs.table.mark.Given as goal

abbrev pub invariant-loop-t : goal.invariant-loop-t
invariant-loop-t l = record {
  done : (k : ℕ) → k < l.t → get_or l.row k false ≡ (get_or l.initial.row k false || get_or l.more k false);
  rest : (k : ℕ) → l.t ≤ k → get_or l.row k false ≡ get_or l.initial.row k false;
}
