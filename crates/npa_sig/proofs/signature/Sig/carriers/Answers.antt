use Rattle.std.proofs.Common.{◌≡◌, ◌≢◌, ℕ, ◌+◌, ◌<◌, ◌||◌, true, false, None, Some, get_or, length, ap, subst, sym, ◌∙◌, refl}
use Rattle.std.proofs.lemmas.List.{with_items_is}
use Rattle.npa_sorts.specs.Subsorts.{AreSorts, IsBelow, at_or_below}
use Rattle.npa_sig.specs.Sizes.{IsFirstOp}
use Rattle.npa_sig.specs.Nameless.{hands_names}
use Rattle.npa_sig.proofs.LeastTerms.{some_within}
use Rattle.npa_sig.proofs.Carriers.{AreMarked, unmarked, marked_fresh, marked_more, fewer_unmarked, marks_exact}
use Rattle.npa_sig.proofs.signature.Sig.carriers.Goals as goal

pub loop-num-init : goal.loop-num-init
loop-num-init c =
    let sig = c.args.self.now in
    let apart : (s t : ℕ) → IsBelow sig.sorts s t → (s ≢ 1) × (t ≢ 1) = subst (λ o. (s t : ℕ) → IsBelow o s t → (s ≢ 1) × (t ≢ 1)) c.sorts-sorts.ensures c.laws-2.ensures.fresh in
    let size : c.declared.result + 2 ≡ sig.sorts.declared + 2 = ap (λ n. n + 2) (c.declared.ensures.value ∙ ap (λ o. o.declared) c.sorts-sorts.ensures) in
    marked_fresh sig c.in_ok-marks.marks.items _ (c.declared.result + 2) c.in_ok-marks.ensures size refl apart

pub op-requires : goal.op-requires
op-requires c = some_within (λ d. hands_names c.deref.result.now d ≡ true) c.args.self.now.ops c.in-Some.num c.in-Some.ensures.0

pub loop-num-preserved : goal.loop-num-preserved
loop-num-preserved c =
    let sig = c.args.self.now in
    let marks = c.loop-num.marks in
    let new = c.mark_above.new.marks in
    let decl = c.op.result.now in
    let found : IsFirstOp (hands_names marks.items) sig.ops (Some c.in-Some.num) = subst (λ ms. IsFirstOp (hands_names ms) sig.ops (Some c.in-Some.num)) c.deref.ensures.value c.in-Some.ensures in
    let long : length new ≡ length marks.items = c.mark_above.auto.marks ∙ ap length c.deref_mut.ensures.value in
    let is : (s : ℕ) → s < length marks.items → get_or new s false ≡ (get_or marks.items s false || at_or_below sig.sorts decl.result s) =
    subst (λ o. (s : ℕ) → s < length marks.items → get_or new s false ≡ (get_or marks.items s false || at_or_below o decl.result s)) c.sorts-sorts.ensures
    (subst (λ ms. (s : ℕ) → s < length ms → get_or new s false ≡ (get_or ms s false || at_or_below c.sorts-sorts.result.now decl.result s)) c.deref_mut.ensures.value c.mark_above.ensures) in
    let written = with_items_is marks new (c.mark_above.auto.marks ∙ c.deref_mut.ensures.len) in
    subst (AreMarked sig) (sym written) (marked_more sig marks.items c.in-Some.num decl c.op.ensures found new long is c.loop-num.invariant)

pub loop-num-smaller : goal.loop-num-smaller
loop-num-smaller c =
    let sig = c.args.self.now in
    let marks = c.loop-num.marks in
    let new = c.mark_above.new.marks in
    let decl = c.op.result.now in
    let found : IsFirstOp (hands_names marks.items) sig.ops (Some c.in-Some.num) = subst (λ ms. IsFirstOp (hands_names ms) sig.ops (Some c.in-Some.num)) c.deref.ensures.value c.in-Some.ensures in
    let long : length new ≡ length marks.items = c.mark_above.auto.marks ∙ ap length c.deref_mut.ensures.value in
    let is : (s : ℕ) → s < length marks.items → get_or new s false ≡ (get_or marks.items s false || at_or_below sig.sorts decl.result s) =
    subst (λ o. (s : ℕ) → s < length marks.items → get_or new s false ≡ (get_or marks.items s false || at_or_below o decl.result s)) c.sorts-sorts.ensures
    (subst (λ ms. (s : ℕ) → s < length ms → get_or new s false ≡ (get_or ms s false || at_or_below c.sorts-sorts.result.now decl.result s)) c.deref_mut.ensures.value c.mark_above.ensures) in
    let written = with_items_is marks new (c.mark_above.auto.marks ∙ c.deref_mut.ensures.len) in
    subst (λ ms. unmarked ms < unmarked marks.items) (sym written) (fewer_unmarked sig marks.items c.in-Some.num decl c.op.ensures found new long is c.loop-num.invariant c.laws.ensures.sorts)

pub returns : goal.returns
returns c =
    record {
      marks = marks_exact c.args.self.now c.loop-num.marks.items c.loop-num.invariant c.laws.ensures.sorts (subst AreSorts c.sorts-sorts.ensures c.pairs-pairs.ensures.sorts)
          (subst (λ ms. IsFirstOp (hands_names ms) c.args.self.now.ops None) c.deref.ensures.value c.in_default.ensures);
    }
