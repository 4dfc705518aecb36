use Rattle.std.proofs.Common.{◌≡◌, map, ◌∙◌, ap, sym, arith}
use Rattle.std.proofs.lemmas.Grind.{common_steps}
use Rattle.npa_term.specs.declared.term.Term.{App}
use Rattle.npa_term.specs.Bound.{applied}
use Rattle.npa_term.proofs.Rows.{applied_at}
use Rattle.npa_term.proofs.instances.+replace.Goals as goal

pub returns-after-loop-arg : goal.returns-after-loop-arg
returns-after-loop-arg t c =
    let made : c.from_vec.result ≡ map (applied c.args.s.now) c.in-App.args = grind (arith, common_steps) in
    ap (App c.in-App.op) made ∙ sym (applied_at c.args.s.now c.args.t.now c.in-App.op c.in-App.args c.in-App.is)
