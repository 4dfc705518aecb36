use Rattle.std.proofs.Common.{◌≡◌, drop}
use Rattle.npa_unify.specs.Seen.{head_term, raw, walked}
use Rattle.npa_unify.proofs.heads.walk_head.Given as goal

abbrev pub invariant-loop-v : goal.invariant-loop-v
invariant-loop-v l = walked (raw (drop l.v-index l.bound)) (head_term l.found) ≡ walked (raw l.bound) (head_term l.head)
