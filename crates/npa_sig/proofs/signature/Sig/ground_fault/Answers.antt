use Rattle.std.proofs.Common.{None, Some, subst, ◌∙◌}
use Rattle.npa_sig.specs.Sizes.{AreSizes, IsFirstEmpty, IsFirstPast}
use Rattle.npa_sig.proofs.GroundTerms.{fault_inhabited, fault_ground, fault_none}
use Rattle.npa_sig.proofs.signature.Sig.ground_fault.Goals as goal

pub returns-in-Some : goal.returns-in-Some
returns-in-Some c =
    let sig = c.args.self.now in
    let sizes = c.in_ok-sizes.sizes.items in
    let known : AreSizes sig.sorts sig.ops sizes = subst (λ ops. AreSizes sig.sorts ops sizes) (c.as_slice.ensures ∙ c.ops.ensures) (subst (λ o. AreSizes o c.as_slice.result.now sizes) c.sorts.ensures c.in_ok-sizes.ensures) in
    let first : IsFirstEmpty sig.sorts sizes (Some c.in-Some.sort) =
    subst (λ xs. IsFirstEmpty sig.sorts xs (Some c.in-Some.sort)) c.deref.ensures.value (subst (λ o. IsFirstEmpty o c.deref.result.now (Some c.in-Some.sort)) c.sorts-2.ensures c.in-Some.ensures) in
    record { fault = fault_inhabited sig sizes known c.laws.ensures.sorts c.in-Some.sort first }

pub returns-in-Some-first_past : goal.returns-in-Some-first_past
returns-in-Some-first_past c =
    let sig = c.args.self.now in
    let sizes = c.in_ok-sizes.sizes.items in
    let known : AreSizes sig.sorts sig.ops sizes = subst (λ ops. AreSizes sig.sorts ops sizes) (c.as_slice.ensures ∙ c.ops.ensures) (subst (λ o. AreSizes o c.as_slice.result.now sizes) c.sorts.ensures c.in_ok-sizes.ensures) in
    let none : IsFirstEmpty sig.sorts sizes None =
    subst (λ xs. IsFirstEmpty sig.sorts xs None) c.deref.ensures.value (subst (λ o. IsFirstEmpty o c.deref.result.now None) c.sorts-2.ensures c.in_default.ensures) in
    let first : IsFirstPast sig.sorts sizes (Some (c.in-Some-first_past.sort, c.in-Some-first_past.size)) =
    subst (λ xs. IsFirstPast sig.sorts xs (Some (c.in-Some-first_past.sort, c.in-Some-first_past.size))) c.deref-2.ensures.value
    (subst (λ o. IsFirstPast o c.deref-2.result.now (Some (c.in-Some-first_past.sort, c.in-Some-first_past.size))) c.sorts-3.ensures c.in-Some-first_past.ensures) in
    record { fault = fault_ground sig sizes known c.laws.ensures.sorts c.in-Some-first_past.sort c.in-Some-first_past.size none first }

pub returns : goal.returns
returns c =
    let sig = c.args.self.now in
    let sizes = c.in_ok-sizes.sizes.items in
    let known : AreSizes sig.sorts sig.ops sizes = subst (λ ops. AreSizes sig.sorts ops sizes) (c.as_slice.ensures ∙ c.ops.ensures) (subst (λ o. AreSizes o c.as_slice.result.now sizes) c.sorts.ensures c.in_ok-sizes.ensures) in
    let none : IsFirstEmpty sig.sorts sizes None =
    subst (λ xs. IsFirstEmpty sig.sorts xs None) c.deref.ensures.value (subst (λ o. IsFirstEmpty o c.deref.result.now None) c.sorts-2.ensures c.in_default.ensures) in
    let few : IsFirstPast sig.sorts sizes None =
    subst (λ xs. IsFirstPast sig.sorts xs None) c.deref-2.ensures.value (subst (λ o. IsFirstPast o c.deref-2.result.now None) c.sorts-3.ensures c.in-None.ensures) in
    record { fault = fault_none sig sizes known c.laws.ensures.sorts none few }
