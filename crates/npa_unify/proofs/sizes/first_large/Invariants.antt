use Rattle.std.proofs.Common.{◌≡◌, drop}
use Rattle.std.specs.Prelude.{find, nat_lt}
use Rattle.npa_unify.specs.Seen.{AreKnown, counts, raw}
use Rattle.npa_unify.proofs.sizes.first_large.Given as goal

abbrev pub invariant-loop-at : goal.invariant-loop-at
invariant-loop-at l = record {
  known : AreKnown l.known.items (counts (raw l.bound));
  rest : find (λ n. nat_lt 1024 n) (drop l.at (counts (raw l.bound))) ≡ find (λ n. nat_lt 1024 n) (counts (raw l.bound));
}
