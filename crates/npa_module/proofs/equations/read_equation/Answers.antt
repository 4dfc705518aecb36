use Rattle.std.proofs.Common.{ap, sym, ◌∙◌}
use Rattle.npa_reading.specs.Trees.{seen}
use Rattle.npa_module.specs.declared.scopes.Binders.{Binders}
use Rattle.npa_module.proofs.Occurring.{variables_alone}
use Rattle.npa_module.proofs.equations.read_equation.Goals as goal

pub read_over-requires : goal.read_over-requires
read_over-requires c =
    variables_alone c.args.bytes.now c.args.tokens.now c.args.draft.now (seen c.as_slice.result.now) c.new-none.result c.in-Ok.vars c.in-Ok.ensures
    (ap (λ (b : Binders). b.earlier) c.new-none.ensures ∙ sym (ap (λ (b : Binders). b.names) c.new-none.ensures))
