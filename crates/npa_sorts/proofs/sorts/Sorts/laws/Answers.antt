use Rattle.std.proofs.Common.{◌≡◌, ℕ, subst}
use Rattle.std.specs.Prelude.{None, position}
use Rattle.npa_sorts.specs.Subsorts.{AreSorts, IsBelow, names_fresh}
use Rattle.npa_sorts.proofs.Steps.{at_or_below_trans, at_or_below_antisym, at_or_below_sort, declared_below_msg, fresh_not_below}
use Rattle.npa_sorts.proofs.Climbs.{decides as at_or_below_decides}
use Rattle.npa_sorts.proofs.sorts.Sorts.laws.Goals as goal

pub returns : goal.returns
returns c =
    let o = c.args.self.now in
    let sorts : AreSorts o = subst AreSorts c.self.view_is c.self.invariant.sorts in
    let apart : position names_fresh o.pairs ≡ None = subst (λ p. position names_fresh p.pairs ≡ None) c.self.view_is c.self.invariant.apart in
    let acyclic : (s : ℕ) → IsBelow o s s → ⊥ = subst (λ p. (s : ℕ) → IsBelow p s s → ⊥) c.self.view_is c.self.invariant.acyclic in
    record {
      transitive = λ s t u p q. at_or_below_trans p q;
      antisymmetric = at_or_below_antisym o acyclic;
      acyclic = acyclic;
      lower = λ s t p high. at_or_below_sort o s t sorts p high;
      msg = declared_below_msg o;
      fresh = λ s t p. fresh_not_below apart p;
      decides = at_or_below_decides o;
    }
