use Rattle.std.proofs.Common.{◌≡◌, ℕ, ◌+◌, ◌<◌, None, Some, length, replicate, get_or, ap, subst, sym, ◌∙◌}
use Rattle.std.proofs.lemmas.List.{with_items_is, length-replicate}
use Rattle.npa_sorts.specs.Subsorts.{at_or_below}
use Rattle.npa_sig.specs.Sizes.{settled, IsCheapest}
use Rattle.npa_sig.proofs.SizeLaws.{AreSettled, started, settle_kept, settle_less, settled_all, unsettled, nothing_known, only_none}
use Rattle.npa_sig.proofs.least.sizes.Goals as goal

pub loop-offer-init : goal.loop-offer-init
loop-offer-init c =
    let sizes = c.in_ok-sizes.sizes in
    let none : sizes.items ≡ replicate (c.declared.result + 2) None = c.in_ok-sizes.ensures.items_if_clones_equal (only_none _ (λ n h. h)) in
    let long : length sizes.items ≡ c.args.sorts.now.declared + 2 = ap length none ∙ length-replicate (c.declared.result + 2) None ∙ ap (λ n. n + 2) c.declared.ensures.value in
    let written = with_items_is sizes c.settle.new.sizes (c.settle.auto.sizes ∙ c.deref_mut.ensures.len) in
    subst (AreSettled c.args.sorts.now c.args.ops.now) (sym written)
    (started c.args.sorts.now c.args.ops.now sizes.items c.settle.new.sizes long (c.settle.auto.sizes ∙ ap length c.deref_mut.ensures.value)
    (λ s. ap (λ xs. get_or xs s None) none ∙ nothing_known (c.declared.result + 2) s)
    (subst (λ xs. (s : ℕ) → s < length xs → get_or c.settle.new.sizes s None ≡ settled (get_or xs s None) (at_or_below c.args.sorts.now 1 s) 1) c.deref_mut.ensures.value c.settle.ensures))

pub loop-offer-preserved : goal.loop-offer-preserved
loop-offer-preserved c =
    let sizes = c.loop-offer.sizes in
    let b = c.in-Some.offer in
    let cheapest : IsCheapest sizes.items c.args.ops.now (Some b) = subst (λ xs. IsCheapest xs c.args.ops.now (Some b)) c.deref.ensures.value c.in-Some.ensures in
    let written = with_items_is sizes c.settle-in-Some.new.sizes (c.settle-in-Some.auto.sizes ∙ c.deref_mut-in-Some.ensures.len) in
    subst (AreSettled c.args.sorts.now c.args.ops.now) (sym written)
    (settle_kept c.args.sorts.now c.args.ops.now sizes.items c.settle-in-Some.new.sizes b c.loop-offer.invariant c.requires.sorts cheapest (c.settle-in-Some.auto.sizes ∙ ap length c.deref_mut-in-Some.ensures.value)
    (subst (λ xs. (s : ℕ) → s < length xs → get_or c.settle-in-Some.new.sizes s None ≡ settled (get_or xs s None) (at_or_below c.args.sorts.now b.sort s) b.size) c.deref_mut-in-Some.ensures.value c.settle-in-Some.ensures))

pub loop-offer-smaller : goal.loop-offer-smaller
loop-offer-smaller c =
    let sizes = c.loop-offer.sizes in
    let b = c.in-Some.offer in
    let cheapest : IsCheapest sizes.items c.args.ops.now (Some b) = subst (λ xs. IsCheapest xs c.args.ops.now (Some b)) c.deref.ensures.value c.in-Some.ensures in
    let written = with_items_is sizes c.settle-in-Some.new.sizes (c.settle-in-Some.auto.sizes ∙ c.deref_mut-in-Some.ensures.len) in
    subst (λ xs. unsettled xs < unsettled sizes.items) (sym written)
    (settle_less c.args.sorts.now c.args.ops.now sizes.items c.settle-in-Some.new.sizes b c.loop-offer.invariant c.requires.sorts cheapest (c.settle-in-Some.auto.sizes ∙ ap length c.deref_mut-in-Some.ensures.value)
    (subst (λ xs. (s : ℕ) → s < length xs → get_or c.settle-in-Some.new.sizes s None ≡ settled (get_or xs s None) (at_or_below c.args.sorts.now b.sort s) b.size) c.deref_mut-in-Some.ensures.value c.settle-in-Some.ensures))

pub returns : goal.returns
returns c =
    settled_all c.args.sorts.now c.args.ops.now c.loop-offer.sizes.items c.loop-offer.invariant c.requires.sorts c.pairs-pairs.ensures.sorts
    (subst (λ xs. IsCheapest xs c.args.ops.now None) c.deref.ensures.value c.in_default.ensures)
