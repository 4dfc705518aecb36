use Rattle.std.proofs.Common.{◌≡◌, true, false, sym, ◌∙◌, subst, arith}
use Rattle.std.specs.List.{All}
use Rattle.std.proofs.lemmas.List.{take_all}
use Rattle.std.proofs.lemmas.List.Elements.{All-more, All-get_or}
use Rattle.npa_rewrite.specs.Rewriting.{IsNormal}
use Rattle.npa_rewrite.specs.Stepping.{HasNoMatch}
use Rattle.npa_rewrite.proofs.Root.{decided, normal_arguments, normal_at, normal_leaf, normal_unmatched}
use Rattle.npa_rewrite.proofs.reduction.+normal.Goals as goal

pub are_normal-returns-then-not-branch-clause-some : goal.are_normal-returns-then-not-branch-clause-some
are_normal-returns-then-not-branch-clause-some t c =
    λ _ all.
    let th = c.args.th.now in
    let here : IsNormal th c.t-item.result =
    subst (IsNormal th) (sym c.t-item.is) (All-get_or (IsNormal th) c.args.ts.now c.loop-t.t-index c.t-item.result c.loop-t-test.true all) in
    let both : false ≡ true = sym c.if-not-branch.true ∙ c.in_ok-is_normal.ensures.1 here in
    cc

pub are_normal-loop-t-preserved : goal.are_normal-loop-t-preserved
are_normal-loop-t-preserved t c =
    let th = c.args.th.now in
    All-more (IsNormal th) c.args.ts.now c.loop-t.t-index c.t-item.result c.loop-t-test.true c.loop-t.invariant
    (subst (IsNormal th) c.t-item.is (c.in_ok-is_normal.ensures.0 c.if-not-branch.false))

pub are_normal-returns-clause-all : goal.are_normal-returns-clause-all
are_normal-returns-clause-all t c = λ _. subst (All (IsNormal c.args.th.now)) (take_all c.loop-t.t-index c.args.ts.now (omega arith)) c.loop-t.invariant

pub is_normal-returns-then-not-branch : goal.is_normal-returns-then-not-branch
is_normal-returns-then-not-branch t c = (
  λ i. cc,
  λ normal. absurd (c.in_ok-are_normal-in-App.ensures.some c.if-not-branch.true
      (normal_arguments c.args.th.now c.args.t.now c.in-App.field-0 c.in-App.args c.as_slice.result.now c.in-App.is c.as_slice.ensures normal)),
)

pub is_normal-returns-else-not-branch : goal.is_normal-returns-else-not-branch
is_normal-returns-else-not-branch t c =
    let th = c.args.th.now in
    decided (IsNormal th c.args.t.now) (HasNoMatch th c.args.t.now) c.has_no_match.result c.has_no_match.ensures.none c.has_no_match.ensures.some
    (normal_at th c.args.t.now c.in-App.field-0 c.in-App.args c.as_slice.result.now c.in-App.is c.as_slice.ensures (c.in_ok-are_normal-in-App.ensures.all c.if-not-branch.false))
    (normal_unmatched th c.args.t.now)

pub is_normal-returns-in_default : goal.is_normal-returns-in_default
is_normal-returns-in_default t c =
    let th = c.args.th.now in
    decided (IsNormal th c.args.t.now) (HasNoMatch th c.args.t.now) c.has_no_match-in_default.result c.has_no_match-in_default.ensures.none c.has_no_match-in_default.ensures.some
    (normal_leaf th c.args.t.now c.in_default.not-App)
    (normal_unmatched th c.args.t.now)
