use Rattle.std.proofs.Common.{◌≡◌, ◌∙◌, ◌-◌, ap, sym, replicate, arith}
use Rattle.npa_variants.specs.Strands.{with_params}
use Rattle.npa_variants.proofs.StrandParams.{fresh_step, params_none}
use Rattle.npa_variants.proofs.strands.push_fresh.Goals as goal

pub loop-preserved : goal.loop-preserved
loop-preserved c =
    fresh_step c.loop.terms.items c.push_param.new.terms.items c.args.count c.loop.counter c.loop-test.true c.in_ok-push_param.ensures ∙ c.loop.invariant

pub returns : goal.returns
returns c =
    let none : c.args.count - c.loop.counter ≡ 0 = omega (arith, c.loop-test.false) in
    sym (params_none c.loop.terms.items) ∙ ap (λ n. with_params c.loop.terms.items (replicate n 1)) (sym none) ∙ c.loop.invariant
