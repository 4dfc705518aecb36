use Rattle.std.proofs.Common.{◌≡◌, Some, sym, ◌∙◌, ap, subst, ◌++◌, ◌∷◌, []}
use Rattle.npa_match.specs.Matching.{read_pairs}
use Rattle.npa_match.specs.Search.{AllBindOnce}
use Rattle.npa_match.proofs.Waiting.{branches_once, started}
use Rattle.npa_match.proofs.matchers.Matchers.new.Goals as goal

pub invariant_of-result : goal.invariant_of-result
invariant_of-result c =
    let o = c.args.sorts.now in
    let one : c.push.new.self.items ≡ Some c.in_ok-branch.branch ∷ [] = c.in_ok-push.ensures.ok ∙ ap (λ ws. ws ++ Some c.in_ok-branch.branch ∷ []) c.new-waiting.ensures.items in
    subst (λ ss. AllBindOnce ss) (sym (started o (read_pairs c.args.pairs.now) [] c.push.new.self.items c.in_ok-branch.branch one c.in_ok-branch.ensures.pairs c.in_ok-branch.ensures.bound)) (branches_once o (read_pairs c.args.pairs.now))
