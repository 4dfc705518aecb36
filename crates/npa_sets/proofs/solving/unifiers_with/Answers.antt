use Rattle.std.proofs.Common.{◌++◌, ◌∷◌, [], Ok, sym, ◌∙◌, ap}
use Rattle.npa_variants.specs.Told.{seen}
use Rattle.npa_moves.specs.Moves.{each_with}
use Rattle.npa_sets.proofs.Cutting.{cut_by_last, cut_itself, with_last}
use Rattle.npa_sets.proofs.Unifying.{given_unifiers, cut_unifiers}
use Rattle.npa_sets.proofs.solving.unifiers_with.Goals as goal

pub returns-then-not-may_unify-clause-cut : goal.returns-then-not-may_unify-clause-cut
returns-then-not-may_unify-clause-cut c = λ _.
    let p = c.args.problem.now in
    let taken = seen c.args.taken.now in
    cut_by_last p.message.now p.sorts.now p.next c.pairs-pairs.ensures.sorts c.laws.ensures.acyclic c.requires.message taken c.args.fact.now
    (with_last p.next taken c.args.fact.now c.requires.taken c.requires.fact) (c.may_unify.ensures c.if-not-may_unify.true)

pub returns-then-not-may_unify-clause-gives : goal.returns-then-not-may_unify-clause-gives
returns-then-not-may_unify-clause-gives c =
    let p = c.args.problem.now in
    let taken = seen c.args.taken.now in
    cut_itself p.message.now p.sorts.now p.next (taken ++ c.args.fact.now ∷ [])
    (cut_by_last p.message.now p.sorts.now p.next c.pairs-pairs.ensures.sorts c.laws.ensures.acyclic c.requires.message taken c.args.fact.now
    (with_last p.next taken c.args.fact.now c.requires.taken c.requires.fact) (c.may_unify.ensures c.if-not-may_unify.true))
    ∙ ap Ok (sym c.new.ensures)

pub unify-requires-clause-sorts : goal.unify-requires-clause-sorts
unify-requires-clause-sorts c = (c.in_ok-are_fit.ensures.0 c.if-not-branch.false).sorts

pub unify-requires-clause-low : goal.unify-requires-clause-low
unify-requires-clause-low c = (c.in_ok-are_fit.ensures.0 c.if-not-branch.false).low

pub returns-clause-gives : goal.returns-clause-gives
returns-clause-gives c =
    let p = c.args.problem.now in
    given_unifiers p.sorts.now p.next c.in_ok-pairs.pairs (each_with p.message.now (seen c.args.taken.now ++ c.args.fact.now ∷ [])) c.unify.result c.in_ok-pairs.ensures
    c.unify.ensures.list c.unify.ensures.many c.unify.ensures.large

pub returns-clause-cut : goal.returns-clause-cut
returns-clause-cut c =
    let p = c.args.problem.now in
    let taken = seen c.args.taken.now in
    cut_unifiers p.message.now p.sorts.now p.next c.pairs-pairs.ensures.sorts c.laws.ensures.acyclic c.requires.message c.in_ok-pairs.pairs (taken ++ c.args.fact.now ∷ [])
    (with_last p.next taken c.args.fact.now c.requires.taken c.requires.fact) c.unify.result c.in_ok-pairs.ensures c.unify.ensures.list
