use Rattle.npa_module.proofs.Whole.{few_fresh}
use Rattle.npa_module.proofs.strands.read_strand.Goals as goal

pub read_behind-requires-clause-fresh : goal.read_behind-requires-clause-fresh
read_behind-requires-clause-fresh c =
    few_fresh c.in-Ok.fresh.names c.as_slice.result.now c.in_ok-fresh.fresh.items c.below.result.now c.args.nodes.now c.in-Ok.ensures.many c.as_slice.ensures.value c.in_ok-fresh.ensures c.below.ensures c.requires.fresh
