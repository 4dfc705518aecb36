use Rattle.std.proofs.Common.{◌≡◌, ℕ, ◌+◌, ◌<◌, [], ◌∷◌, ◌++◌, Bool, true, false, refl, subst, sym, ap, ◌∙◌, arith}
use Rattle.std.specs.Prelude.{Contains, ◌↔◌}
use Rattle.std.specs.List.Sorted.{IsStrictlyIncreasing}
use Rattle.std.proofs.lemmas.Bool.{false_from_ne_true}
use Rattle.npa_sorts.specs.Lowers.{is_maximal}
use Rattle.npa_sorts.specs.Subsorts.{AreSorts, IsMaximalLower}
use Rattle.npa_sorts.proofs.LowerLaws.{filter_more, filter_same, maximal_exact}
use Rattle.npa_sorts.proofs.Lowers.{found_more, found_same, increasing_more}
use Rattle.npa_sorts.proofs.Steps.{at_or_below_sort}
use Rattle.npa_sorts.proofs.sorts.Sorts.maximal_lower.Goals as goal
use Rattle.npa_sorts.proofs.sorts.Sorts.maximal_lower.Goals.{then-is_maximal_lower+in_ok-push, else-is_maximal_lower}

pub loop-r-preserved : goal.loop-r-preserved
loop-r-preserved c =
    let P : ℕ → Type 0 = IsMaximalLower c.args.self.now c.args.s c.args.t in
    let test : ℕ → Bool = is_maximal c.args.self.now c.args.s c.args.t in
    let exact = maximal_exact c.args.self.now c.args.s c.args.t c.loop-r.r (subst AreSorts c.self.view_is c.self.invariant.sorts) c.requires.first in
    elim c.if-is_maximal_lower.branch [
      | then-is_maximal_lower+in_ok-push w ↦
          let is : c.if-is_maximal_lower.found ≡ c.loop-r.found ++ c.loop-r.r ∷ [] = w.found-is ∙ w.in_ok-push.ensures.ok in
          record {
            maximal = subst (λ xs. (x : ℕ) → Contains xs x ↔ ((x < c.loop-r.r + 1) × P x)) (sym is) (found_more c.loop-r.found c.loop-r.r P c.loop-r.invariant.maximal (w.if-is_maximal_lower.ensures.0 refl));
            ascending = subst IsStrictlyIncreasing (sym is) (increasing_more c.loop-r.found c.loop-r.r c.loop-r.invariant.ascending (λ x member. ((c.loop-r.invariant.maximal x).0 member).0));
            value = is ∙ filter_more test c.loop-r.found c.loop-r.r c.loop-r.invariant.value (exact.1 (w.if-is_maximal_lower.ensures.0 refl));
          }
      | else-is_maximal_lower w ↦
          record {
            maximal = subst (λ xs. (x : ℕ) → Contains xs x ↔ ((x < c.loop-r.r + 1) × P x)) (sym w.found-is) (found_same c.loop-r.found c.loop-r.r P c.loop-r.invariant.maximal (λ p. let no : false ≡ true = w.if-is_maximal_lower.ensures.1 p in cc));
            ascending = subst IsStrictlyIncreasing (sym w.found-is) c.loop-r.invariant.ascending;
            value = w.found-is ∙ filter_same test c.loop-r.found c.loop-r.r c.loop-r.invariant.value
                (false_from_ne_true (test c.loop-r.r) (λ e. let no : false ≡ true = w.if-is_maximal_lower.ensures.1 (exact.0 e) in cc));
          }
    ]

pub returns-clause-maximal : goal.returns-clause-maximal
returns-clause-maximal c = λ r.
    let whole = c.loop-r.invariant.maximal r in (
      λ member. (whole.0 member).1,
      λ is.
          let sort = at_or_below_sort c.args.self.now r c.args.s (subst AreSorts c.self.view_is c.self.invariant.sorts) is.first c.requires.first in
          whole.1 (omega (arith, c.loop-r-test.false, ap (λ o. o.declared) c.self.view_is, sort), is),
    )
