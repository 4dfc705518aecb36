use Rattle.std.proofs.Common.{◌≡◌, ◌-◌, ◌++◌, drop, length, map}
use Rattle.npa_unify.specs.Branches.{fork}
use Rattle.npa_unify.specs.Seen.{AreSound, seen, seen_all}
use Rattle.npa_unify.proofs.search.fork.Given as goal

abbrev pub invariant-loop-i : goal.invariant-loop-i
invariant-loop-i l = record {
  all : seen_all l.waiting.items ≡ map (λ s. fork s l.v l.w (seen l.state)) (drop (length l.lowers - l.i) l.lowers) ++ seen_all l.initial.waiting.items;
  sound : AreSound l.initial.waiting.items → AreSound l.waiting.items;
}
