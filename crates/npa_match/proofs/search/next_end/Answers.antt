use Rattle.std.proofs.Common.{◌≡◌, ◌∷◌, ◌++◌, Some, sym, ◌∙◌, ap, []}
use Rattle.npa_match.specs.Search.{ends_of, outcome_ends}
use Rattle.npa_match.proofs.Waiting.{forked, lost_straight, on_err}
use Rattle.npa_match.proofs.search.next_end.Goals as goal

pub returns-in_err-push-in-Forks-2-clause-lost : goal.returns-in_err-push-in-Forks-2-clause-lost
returns-in_err-push-in-Forks-2-clause-lost c =
    let o = c.args.sorts.now in
    let first : c.loop-branch.waiting.items ≡ c.pop.new.self.items ++ Some c.in-Some-Some.branch ∷ [] =
    c.in-Some-Some.ensures.items ∙ ap (λ b. c.pop.new.self.items ++ b ∷ []) c.in-Some-Some.field-0-is in
    let is : ends_of o c.in-Forks.straight ++ ends_of o c.in-Forks.crossed ≡ ends_of o c.in-Some-Some.branch = ap (outcome_ends o) (sym c.in-Forks.is) ∙ c.in_ok-advance.ensures.ends in
    on_err _ c.from_residual-in_err-push-in-Forks-2.result
    (lost_straight o _ _ c.push.new.self.items c.push-in-Forks.new.self.items c.in-Some-Some.branch c.in-Forks.straight c.in-Forks.crossed _ first is c.in_ok-push-in-Forks.ensures.ok (ap (λ w. w.items) c.in_err-push-in-Forks-2.ensures.err) c.loop-branch.invariant)

pub loop-branch-preserved : goal.loop-branch-preserved
loop-branch-preserved c =
    let o = c.args.sorts.now in
    let first : c.loop-branch.waiting.items ≡ c.pop.new.self.items ++ Some c.in-Some-Some.branch ∷ [] =
    c.in-Some-Some.ensures.items ∙ ap (λ b. c.pop.new.self.items ++ b ∷ []) c.in-Some-Some.field-0-is in
    let is : ends_of o c.in-Forks.straight ++ ends_of o c.in-Forks.crossed ≡ ends_of o c.in-Some-Some.branch = ap (outcome_ends o) (sym c.in-Forks.is) ∙ c.in_ok-advance.ensures.ends in
    forked o _ _ _ _ _ _ _ first is c.in_ok-push-in-Forks.ensures.ok c.in_ok-push-in-Forks-2.ensures.ok ∙ c.loop-branch.invariant
