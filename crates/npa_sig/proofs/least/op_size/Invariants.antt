use Rattle.std.proofs.Common.{◌≡◌, ◌<◌, ◌^◌, drop}
use Rattle.npa_sig.specs.Sizes.{summed}
use Rattle.npa_sig.proofs.least.op_size.Given as goal

abbrev pub invariant-loop-arg : goal.invariant-loop-arg
invariant-loop-arg l = record {
  rest : summed l.sizes l.sum (drop l.arg-index l.args) ≡ summed l.sizes 1 l.args;
  fits : l.sum < 2 ^ 64;
}
