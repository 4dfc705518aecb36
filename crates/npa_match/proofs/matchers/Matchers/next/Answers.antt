use Rattle.std.proofs.Common.{IfSome, ◌≡◌, ◌∷◌, reverse, sym, ◌∙◌, subst, []}
use Rattle.npa_match.specs.Search.{waiting_ends}
use Rattle.npa_match.specs.Matching.{bound_pairs}
use Rattle.npa_match.proofs.Waiting.{last_once, on_err}
use Rattle.npa_match.proofs.matchers.Matchers.next.Goals as goal

pub invariant_of-self : goal.invariant_of-self
invariant_of-self c = last_once _ _ c.in_err-bound.ensures.lost c.self.invariant

pub returns-in_err-substitution-in-Some-clause-lost : goal.returns-in_err-substitution-in-Some-clause-lost
returns-in_err-substitution-in-Some-clause-lost c =
    let o = c.self.inside.sorts.now in
    let new = c.next_end.new.waiting.items in
    let found = subst (λ x. IfSome x (λ b. waiting_ends o (reverse c.self.inside.waiting.items) ≡ bound_pairs b.items ∷ waiting_ends o (reverse new))) c.in-Some.is c.in_ok-bound.ensures.found in
    on_err _ c.from_residual-in_err-substitution-in-Some.result (bound_pairs c.in-Some.bound.items ∷ [], sym c.self.view_is ∙ found)
