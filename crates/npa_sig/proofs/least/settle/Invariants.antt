use Rattle.std.proofs.Common.{◌≡◌, ℕ, ◌<◌, ◌≤◌, None, get_or}
use Rattle.npa_sorts.specs.Subsorts.{at_or_below}
use Rattle.npa_sig.specs.Sizes.{settled}
use Rattle.npa_sig.proofs.least.settle.Given as goal

abbrev pub invariant-loop-s : goal.invariant-loop-s
invariant-loop-s l = record {
  done : (x : ℕ) → x < l.s → get_or l.sizes x None ≡ settled (get_or l.initial.sizes x None) (at_or_below l.sorts l.offer.sort x) l.offer.size;
  rest : (x : ℕ) → l.s ≤ x → get_or l.sizes x None ≡ get_or l.initial.sizes x None;
}
