use Rattle.std.proofs.Common.{◌≤◌, ◌+◌, sym, ◌∙◌, [], arith, rules}
use Rattle.npa_choice.proofs.Completing.{none_open_next, none_open_all}
use Rattle.npa_choice.proofs.search.count_open.Goals.{then-branch, else-branch}
use Rattle.npa_choice.proofs.search.count_open.Goals as goal

pub loop-offer-preserved : goal.loop-offer-preserved
loop-offer-preserved c =
    let few : c.if-branch.count ≤ c.loop-offer.offer-index + 1 = search rules in
    let most : c.if-branch.count ≤ c.args.most = search rules in
    record {
      closed = elim c.if-branch.branch [
        | then-branch w ↦ λ e. absurd (let no : ⊥ = omega (arith, e, w.count-is) in no)
        | else-branch w ↦ λ e. none_open_next [] c.args.sorts.now c.args.choice.now c.args.offers.now c.loop-offer.offer-index c.offer-item.result c.loop-offer-test.true c.offer-item.is
            (c.loop-offer.invariant.closed (sym w.count-is ∙ e)) (c.in_ok-is_open.ensures w.if-branch.false)
      ];
      few = few;
      most = most;
    }

pub returns-clause-none : goal.returns-clause-none
returns-clause-none c =
    λ e. none_open_all [] c.args.sorts.now c.args.choice.now c.args.offers.now c.loop-offer.offer-index (omega (arith, c.loop-offer-test.false)) (c.loop-offer.invariant.closed e)
