-- What normal forms weigh under a substitution.
use Rattle.std.proofs.Common.{◌≡◌, ◌<◌, ◌≤◌, ◌+◌, ℕ, List, [], ◌∷◌, ◌++◌, map, inl, inr, sym, subst, arith}
use Rattle.std.specs.Prelude.{Contains}
use Rattle.npa_term.specs.declared.term.Var.{Var as Variable}
use Rattle.npa_term.specs.declared.term.Term.{Term}
use Rattle.npa_term.specs.Bound.{applied}
use Rattle.npa_term.specs.Canonical.{canonical}
use Rattle.npa_term.specs.Same.{Same, itself}
use Rattle.npa_term.specs.Symbols.{symbol_count}
use Rattle.npa_term.specs.Variables.{variables}
use Rattle.npa_term.proofs.CanonicalLaws.{canonical_same}
use Rattle.npa_term.proofs.SameLaws.{same_sym, same_applied, same_count}
use Rattle.npa_rewrite.specs.declared.theory.Theory.{Theory}
use Rattle.npa_rewrite.specs.Innermost.{normalized}
use Rattle.npa_rewrite.specs.Rewriting.{AllCancel, FitsSorts, IsNormal, Rewrites, Steps, none, more}
use Rattle.npa_rewrite.proofs.InstanceParts.{here, behind, member_cases}
use Rattle.npa_rewrite.proofs.InstanceSteps.{rewrites_instance, rewrites_variables, steps_instance}
use Rattle.npa_rewrite.proofs.Instances.{same_variables}
use Rattle.npa_rewrite.proofs.Kept.{smaller}
use Rattle.npa_rewrite.proofs.Lightening.{cancel_lightens}
use Rattle.npa_rewrite.proofs.Normalized.{normalized_form}
use Rattle.npa_rewrite.proofs.Under.{normal_same}
use Rattle.npa_variants.proofs.Covers.{total}
use Rattle.npa_variants.proofs.Members.{none_there}

-- sums

pub total_append : (weigh : Term → ℕ) (ts us : List Term) → total weigh (ts ++ us) ≡ total weigh ts + total weigh us
total_append weigh [] us = omega arith
total_append weigh (t ∷ ts) us = let rest = total_append weigh ts us in omega (arith, rest)

module _ (weigh : Term → ℕ) (f g : Term → Term) where
  total_upto : (ts : List Term) → ((t : Term) → Contains ts t → weigh (f t) ≤ weigh (g t)) → total weigh (map f ts) ≤ total weigh (map g ts)
  total_upto [] each = omega arith
  total_upto (t ∷ ts) each =
      let one = each t (here t ts) in
      let rest = total_upto ts (λ u c. each u (behind t u ts c)) in
      omega (arith, one, rest)

  -- a sum of numbers that are no greater, one of them less
  pub total_less : (ts : List Term) (x : Term) → ((t : Term) → Contains ts t → weigh (f t) ≤ weigh (g t)) → Contains ts x → weigh (f x) < weigh (g x) →
      total weigh (map f ts) < total weigh (map g ts)
  total_less [] x each c less = absurd (none_there x c)
  total_less (t ∷ ts) x each c less =
      elim (member_cases t x ts c) [
        | inl e ↦
            let one : weigh (f t) < weigh (g t) = subst (λ y. weigh (f y) < weigh (g y)) (sym e) less in
            let rest = total_upto ts (λ u d. each u (behind t u ts d)) in
            omega (arith, one, rest)
        | inr d ↦
            let one = each t (here t ts) in
            let rest = total_less ts x (λ u i. each u (behind t u ts i)) d less in
            omega (arith, one, rest)
      ]

module _ (th : Theory) (cancel : AllCancel th) where
  steps_upto : {t u : Term} → Steps th t u → symbol_count u ≤ symbol_count t
  steps_upto none = omega arith
  steps_upto (more u v p r) = let one = smaller th u v cancel r in let rest = steps_upto p in omega (arith, one, rest)

  steps_have : {t u : Term} → Steps th t u → (v : Variable) → Contains (variables u) v → Contains (variables t) v
  steps_have none v c = c
  steps_have (more u w p r) v c = steps_have p v (rewrites_variables th symbol_count (cancel_lightens th cancel) u w v r c)

  -- the steps from a term to its normal form, of an instance
  module _ (d : List (Variable × Term)) (t : Term) (fits : FitsSorts th.sig.sorts (variables t) d) where
    fits_canonical : FitsSorts th.sig.sorts (variables (canonical t)) d
    fits_canonical v c = fits v (same_variables (same_sym (canonical_same t)) v c)

    even : symbol_count (applied d (canonical t)) ≡ symbol_count (applied d t)
    even = same_count (same_applied d (same_sym (canonical_same t)))

    moved : (v : Term) × Steps th (applied d (canonical t)) v × Same v (applied d (normalized th t))
    moved = steps_instance th symbol_count (cancel_lightens th cancel) d (applied d (canonical t)) (itself (applied d (canonical t))) fits_canonical (normalized_form th cancel t).reached

    pub form_upto : symbol_count (applied d (normalized th t)) ≤ symbol_count (applied d t)
    form_upto =
        let one = steps_upto moved.1 in
        let two = same_count moved.2 in
        let three = even in
        omega (arith, one, two, three)

    last_step : {a b : Term} → Steps th a b → IsNormal th b → (IsNormal th a → ⊥) → (u : Term) × Steps th a u × Rewrites th u b
    last_step none normal never = absurd (never normal)
    last_step (more u v p r) normal never = (u, p, r)

    -- fewer symbols where the term isn't normal
    pub form_less : (IsNormal th t → ⊥) → symbol_count (applied d (normalized th t)) < symbol_count (applied d t)
    form_less never =
        let form = normalized_form th cancel t in
        let last = last_step form.reached form.normal (λ normal. never (normal_same th (canonical t) t (same_sym (canonical_same t)) normal)) in
        let before = steps_instance th symbol_count (cancel_lightens th cancel) d (applied d (canonical t)) (itself (applied d (canonical t))) fits_canonical last.1 in
        let fits_last : FitsSorts th.sig.sorts (variables last.0) d = λ v c. fits_canonical v (steps_have last.1 v c) in
        let step = rewrites_instance th d last.0 (normalized th t) last.2 fits_last in
        let one = steps_upto before.1 in
        let two = same_count before.2 in
        let three = smaller th (applied d last.0) step.to cancel step.step in
        let four = same_count step.same in
        let five = even in
        omega (arith, one, two, three, four, five)
