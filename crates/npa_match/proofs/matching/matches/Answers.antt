use Rattle.std.proofs.Common.{◌≤◌, length, sym, ◌∙◌, subst}
use Rattle.std.specs.Prelude.{All}
use Rattle.npa_match.specs.Matching.{IsMatcher, AreDifferent, first_variables}
use Rattle.npa_match.proofs.Answered.{IsCovered, all_found, more, all_branches, every_branch, different_branches}
use Rattle.npa_match.proofs.Counted.{no_more}
use Rattle.npa_match.proofs.matching.matches.Goals as goal

pub returns-then-len-eq-MAX_MATCHERS-clause-many : goal.returns-then-len-eq-MAX_MATCHERS-clause-many
returns-then-len-eq-MAX_MATCHERS-clause-many c =
    let next = rw c.in-Some.is at c.in_ok-s.ensures.found in
    λ _. more c.args.sorts.now c.args.pairs.now c.loop-found.found c.loop-found.left _ _ 4096 c.loop-found.invariant.all next (sym c.len.ensures ∙ c.if-len-eq-MAX_MATCHERS.true)

pub returns-clause-matchers : goal.returns-clause-matchers
returns-clause-matchers c =
    let is = all_found c.args.sorts.now c.args.pairs.now c.loop-found.found c.loop-found.left c.loop-found.invariant.all (c.in_ok-s.ensures.none c.in_default.is) in
    subst (All (IsMatcher c.args.sorts.now c.args.pairs.now)) (sym is) (all_branches c.args.sorts.now c.args.pairs.now)

pub returns-clause-every : goal.returns-clause-every
returns-clause-every c =
    let is = all_found c.args.sorts.now c.args.pairs.now c.loop-found.found c.loop-found.left c.loop-found.invariant.all (c.in_ok-s.ensures.none c.in_default.is) in
    λ u m. subst (IsCovered c.args.pairs.now u) (sym is) (every_branch c.args.sorts.now c.args.pairs.now u m)

pub returns-clause-once : goal.returns-clause-once
returns-clause-once c =
    let is = all_found c.args.sorts.now c.args.pairs.now c.loop-found.found c.loop-found.left c.loop-found.invariant.all (c.in_ok-s.ensures.none c.in_default.is) in
    subst (AreDifferent (first_variables c.args.pairs.now)) (sym is) (different_branches c.args.sorts.now c.args.pairs.now)

pub returns-clause-few : goal.returns-clause-few
returns-clause-few c =
    let is = all_found c.args.sorts.now c.args.pairs.now c.loop-found.found c.loop-found.left c.loop-found.invariant.all (c.in_ok-s.ensures.none c.in_default.is) in
    (c.loop-found.invariant.few, no_more c.args.sorts.now c.args.pairs.now 4096 (subst (λ ss. length ss ≤ 4096) is c.loop-found.invariant.few))
