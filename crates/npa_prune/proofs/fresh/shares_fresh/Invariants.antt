use Rattle.std.proofs.Common.{◌≡◌, [], drop}
use Rattle.std.specs.List.{flat_map}
use Rattle.npa_prune.specs.Pruned.{fresh_args, fresh_values}
use Rattle.npa_prune.specs.Repeating.{repeats}
use Rattle.npa_prune.proofs.fresh.shares_fresh.Given as goal

abbrev pub invariant-loop-strand : goal.invariant-loop-strand
invariant-loop-strand l = repeats [] (fresh_values l.protocol.strands l.p) ≡ repeats l.seen (flat_map (fresh_args l.protocol.strands) (drop l.strand-index l.strand-items))
