use Rattle.std.proofs.Common.{◌≡◌, sym, ◌∙◌, ap, subst, arith}
use Rattle.std.specs.Prelude.{Contains, IsTrue, Bool, false}
use Rattle.npa_unify.specs.Branches.{pair_variables}
use Rattle.npa_unify.proofs.fitting.are_fit.Goals.{then-next-gt-MAX_NEXT-via-then-next-gt-MAX_NEXT, then-next-gt-MAX_NEXT-via-else-next-gt-MAX_NEXT+then-not-are_low}
use Rattle.npa_unify.proofs.fitting.are_fit.Goals as goal

differ : (b : Bool) → b ≡ false → IsTrue b → ⊥
differ b e f = cc

pub returns-then-next-gt-MAX_NEXT : goal.returns-then-next-gt-MAX_NEXT
returns-then-next-gt-MAX_NEXT c =
    let all : c.as_slice-vars.result.now ≡ pair_variables c.args.pairs.now =
    c.as_slice-vars.ensures.value ∙ c.in_ok-found.ensures ∙ ap pair_variables c.as_slice.ensures in (
      λ e. cc,
      λ fit. elim c.then-next-gt-MAX_NEXT.branch [
        | then-next-gt-MAX_NEXT-via-then-next-gt-MAX_NEXT w ↦ absurd (let none : ⊥ = omega (arith, fit.room, w.if-next-gt-MAX_NEXT.true) in none)
        | then-next-gt-MAX_NEXT-via-else-next-gt-MAX_NEXT+then-not-are_low w ↦
            let low : IsTrue w.are_low.result = w.are_low.ensures.1 (λ v m. let d = subst (λ l. Contains l v) all m in (fit.sorts v d, fit.low v d)) in
            absurd (differ w.are_low.result w.if-not-are_low.true low)
      ],
    )

pub returns : goal.returns
returns c =
    let all : c.as_slice-vars.result.now ≡ pair_variables c.args.pairs.now =
    c.as_slice-vars.ensures.value ∙ c.in_ok-found.ensures ∙ ap pair_variables c.as_slice.ensures in (
      λ e. record {
        sorts = λ v m. let low : IsTrue c.are_low.result = c.if-not-are_low.false in (c.are_low.ensures.0 low v (subst (λ l. Contains l v) (sym all) m)).0;
        low = λ v m. let low : IsTrue c.are_low.result = c.if-not-are_low.false in (c.are_low.ensures.0 low v (subst (λ l. Contains l v) (sym all) m)).1;
        room = omega (arith, c.if-next-gt-MAX_NEXT.false);
        one = λ v w m n. c.have_one_sort.ensures.0 e v (subst (λ l. Contains l v) (sym all) m) w (subst (λ l. Contains l w) (sym all) n);
      },
      λ fit. c.have_one_sort.ensures.1 (λ v m w n. fit.one v w (subst (λ l. Contains l v) all m) (subst (λ l. Contains l w) all n)),
    )
