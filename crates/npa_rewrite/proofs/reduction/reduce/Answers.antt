use Rattle.std.proofs.Common.{◌≡◌, refl, sym, ◌∙◌, ap, subst}
use Rattle.npa_term.specs.Canonical.{canonical}
use Rattle.npa_term.proofs.CanonicalLaws.{canonical-canonical}
use Rattle.npa_rewrite.specs.declared.step.Outcome.TheVariants.{Made, Normal}
use Rattle.npa_rewrite.specs.Stepping.{IsOutcome}
use Rattle.npa_rewrite.proofs.Under.{not_normal, normal_before}
use Rattle.npa_rewrite.proofs.reduction.reduce.Goals as goal

pub returns-in-Made-clause-canonical : goal.returns-in-Made-clause-canonical
returns-in-Made-clause-canonical c =
    let is : c.in_ok-canon-in-Made.field-0 ≡ canonical c.in-Made.next = c.in_ok-canon-in-Made.ensures.value in
    ap canonical is ∙ canonical-canonical c.in-Made.next ∙ sym is

pub returns-in-Made-clause-normal : goal.returns-in-Made-clause-normal
returns-in-Made-clause-normal c =
    let step : IsOutcome c.args.th.now c.in_ok-start.start (Made c.in-Made.next) = subst (IsOutcome c.args.th.now c.in_ok-start.start) c.in-Made.is c.in_ok-next.ensures.outcome in
    (λ e. cc, λ normal. absurd (not_normal c.args.th.now c.args.t.now c.in_ok-start.start (canonical c.in-Made.next) c.in_ok-start.ensures.value step normal))

pub returns-clause-normal : goal.returns-clause-normal
returns-clause-normal c =
    let normal : IsOutcome c.args.th.now c.in_ok-start.start (Normal c.in-Normal.field-0) = subst (IsOutcome c.args.th.now c.in_ok-start.start) c.in-Normal.is c.in_ok-next.ensures.outcome in
    (λ e. normal_before c.args.th.now c.args.t.now c.in_ok-start.start c.in_ok-start.ensures.value normal, λ n. refl)
