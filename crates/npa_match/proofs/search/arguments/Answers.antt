use Rattle.std.proofs.Common.{sym, ◌∙◌, ap}
use Rattle.npa_term.specs.declared.term.Term.{App}
use Rattle.npa_term.proofs.Equality.{op_equal}
use Rattle.npa_match.proofs.search.arguments.Goals as goal

pub returns-then-eq : goal.returns-then-eq
returns-then-eq c =
    c.in-App.is ∙ ap (λ f. App f c.in-App.ts) (op_equal c.in-App.f c.args.op (sym c.if-eq.ensures)) ∙ ap (App c.args.op) (sym c.as_slice.ensures)
