use Rattle.npa_module.proofs.Occurring.{both_sides}
use Rattle.npa_module.proofs.equations.numbered.Goals as goal

pub returns : goal.returns
returns c =
    both_sides c.args.bytes.now c.args.vars.now c.args.left.now c.args.right.now c.new-found.result c.add_occurring.new.found c.add_occurring-2.new.found
    c.as_slice.result.now c.as_slice-2.result.now c.scope_of.result
    c.new-found.ensures c.in_ok-add_occurring.ensures c.in_ok-add_occurring-2.ensures c.as_slice.ensures c.as_slice-2.ensures c.scope_of.ensures
