use Rattle.std.proofs.Common.{◌≡◌, map, ap, sym, ◌∙◌, arith}
use Rattle.std.proofs.lemmas.Grind.{common_steps}
use Rattle.npa_term.specs.declared.term.Term.{App}
use Rattle.npa_sig.specs.Values.{under}
use Rattle.npa_sig.proofs.Under.{under_at}
use Rattle.npa_model.proofs.values.+under.Goals as goal

pub returns-after-loop-arg : goal.returns-after-loop-arg
returns-after-loop-arg t c =
    let made : c.loop-arg.made.items ≡ map (under c.args.values.now) c.in-App.args = grind (arith, common_steps) in
    ap (App c.in-App.op) (c.from_vec.ensures ∙ made) ∙ sym (under_at c.args.values.now c.args.t.now c.in-App.op c.in-App.args c.in-App.is)
