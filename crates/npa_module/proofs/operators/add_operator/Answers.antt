use Rattle.npa_module.proofs.FormedItems.{operator_sorts}
use Rattle.npa_module.proofs.operators.add_operator.Goals as goal

pub declare-requires-clause-sorts : goal.declare-requires-clause-sorts
declare-requires-clause-sorts c = operator_sorts c.args.bytes.now c.args.tokens.now c.args.draft c.requires.named c.args.nodes.now c.in-Ok.decl c.in-Ok.ensures
