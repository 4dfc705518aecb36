use Rattle.std.proofs.Common.{◌≡◌, map, drop}
use Rattle.npa_module.specs.Items.{joined, occurring, words_in}
use Rattle.npa_module.proofs.equations.+add_occurring.Given as goal

abbrev pub invariant-loop-arg : goal.invariant-loop-arg
invariant-loop-arg l = occurring l.vars l.found (joined (map (words_in l.bytes) (drop l.arg-index l.arg-items))) ≡ occurring l.vars l.fn.found (words_in l.bytes l.raw)
