use Rattle.std.proofs.Common.{◌↔◌, ℕ, IsTrue, subst}
use Rattle.npa_sorts.specs.Subsorts.{AreSorts, IsAtOrBelow, at_or_below}
use Rattle.npa_sorts.proofs.LowerLaws.{IsAcyclic}
use Rattle.npa_conv.specs.Verdict.{conv_of}
use Rattle.npa_conv.proofs.Answering.{told_cancel, told_convergent, told_none, told_pair, told_some}
use Rattle.npa_conv.proofs.convergence.convergent.Goals as goal

pub returns-clause-converges : goal.returns-clause-converges
returns-clause-converges c = told_none c.first_fault.result (conv_of c.args.th.now) c.first_fault.ensures

pub returns-clause-refused : goal.returns-clause-refused
returns-clause-refused c = told_some c.first_fault.result (conv_of c.args.th.now) c.first_fault.ensures

pub returns-clause-cancelling : goal.returns-clause-cancelling
returns-clause-cancelling c =
    told_cancel c.args.th.now c.requires.plain
    (subst (λ o. (s t : ℕ) → IsTrue (at_or_below o s t) ↔ IsAtOrBelow o s t) c.sorts-sorts.ensures c.laws-2.ensures.decides) c.first_fault.result c.first_fault.ensures

pub returns-clause-convergent : goal.returns-clause-convergent
returns-clause-convergent c =
    told_convergent c.args.th.now c.requires.plain
    (subst (λ o. (s t : ℕ) → IsTrue (at_or_below o s t) ↔ IsAtOrBelow o s t) c.sorts-sorts.ensures c.laws-2.ensures.decides)
    (subst AreSorts c.sorts-sorts.ensures c.pairs.ensures.sorts) (subst IsAcyclic c.sorts-sorts.ensures c.laws-2.ensures.acyclic) c.laws.ensures.formed.pairs
    c.first_fault.result c.first_fault.ensures

pub returns-clause-pair : goal.returns-clause-pair
returns-clause-pair c =
    told_pair c.args.th.now c.requires.plain
    (subst (λ o. (s t : ℕ) → IsTrue (at_or_below o s t) ↔ IsAtOrBelow o s t) c.sorts-sorts.ensures c.laws-2.ensures.decides) c.first_fault.result c.first_fault.ensures
