use Rattle.std.proofs.Common.{◌∙◌, ap}
use Rattle.std.proofs.lemmas.Result.{err_from_is_err_and}
use Rattle.npa_model.specs.declared.pattern.Pattern.{Pattern}
use Rattle.npa_back.proofs.Following.{handed}
use Rattle.npa_back.proofs.ToldSets.{next_set, set_stops}
use Rattle.npa_back.proofs.telling.add_told.Goals as goal

-- src/telling.rt:81:16
pub returns-in_err-made : goal.returns-in_err-made
returns-in_err-made c =
    let n = c.args.narrowing.now in
    let e = err_from_is_err_and c.from_residual-in_err-made.result c.from_residual-in_err-made.ensures.1 in
    handed c.from_residual-in_err-made.result e.0 c.in_err-made.field-0.0 _ e.1 e.2
    (set_stops c.args.kind n.vars.now c.args.before c.args.message.now n.pattern.now.unknown c.args.sets.now _ c.loop-set.made c.loop-set.set-index c.set-item.result c.knowing-before.result c.in_err-made.field-0.0
    c.loop-set-test.true c.set-item.is (ap (λ (g : Pattern). g.strands) c.knowing-before.ensures ∙ c.loop-set.invariant.strands) (ap (λ (g : Pattern). g.unknown) c.knowing-before.ensures ∙ c.loop-set.invariant.unknown)
    c.loop-set.invariant.steps c.in_err-made.ensures)

-- src/telling.rt:79:5
pub loop-set-preserved : goal.loop-set-preserved
loop-set-preserved c =
    let n = c.args.narrowing.now in
    let strands = ap (λ (g : Pattern). g.strands) c.knowing-before.ensures ∙ c.loop-set.invariant.strands in
    let others = ap (λ (g : Pattern). g.unknown) c.knowing-before.ensures ∙ c.loop-set.invariant.unknown in
    record {
      strands = strands;
      unknown = others;
      steps = next_set c.args.kind n.vars.now c.args.before c.args.message.now n.pattern.now.unknown c.args.sets.now _ c.loop-set.made c.in_ok-made.made c.loop-set.set-index c.set-item.result c.knowing-before.result
          c.loop-set-test.true c.set-item.is strands others c.loop-set.invariant.steps c.in_ok-made.ensures;
    }
