use Rattle.npa_moves.specs.Steps.{Gives}
use Rattle.std.proofs.Common.{Ok, sym, ◌∙◌, ap, subst}
use Rattle.npa_back.proofs.ToldSets.{alone_goes}
use Rattle.npa_back.proofs.learning.add_alone.Goals as goal

-- src/learning.rt:130:1
pub returns : goal.returns
returns c =
    let n = c.args.narrowing.now in
    subst (Gives c.add_results.result) (sym (alone_goes n.ready.now.sig.sorts n.vars.now c.args.made c.args.kind c.args.from.now n.next c.as_slice.result.now (c.in_ok-unifiers.ensures ∙ ap Ok (sym c.as_slice.ensures)))) c.add_results.ensures
