use Rattle.std.proofs.Common.{◌≡◌, ℕ, ◌+◌, ◌<◌, true, false, take, get_or, length, refl, ap, subst, sym, ◌∙◌, arith}
use Rattle.std.proofs.lemmas.List.{take_all, get_or_default}
use Rattle.npa_sorts.specs.Subsorts.{IsAtOrBelow}
use Rattle.npa_sig.specs.Least.{IsBuiltOf, IsEmpty, IsLeastIn, IsLeastTerm}
use Rattle.npa_sig.specs.Sizes.{is_least_op}
use Rattle.npa_sig.proofs.LeastTerms.{least_name, none_passes, some_within, found_less, found_part, found_nonempty, found_made, are_least_more, AreLeast}
use Rattle.npa_sig.proofs.least.+least_term.Goals as goal

pub returns-then-le : goal.returns-then-le
returns-then-le t c =
    let under : IsAtOrBelow c.args.sig.now.sorts 1 c.args.sort = subst (λ o. IsAtOrBelow o 1 c.args.sort) c.sorts.ensures (c.if-le.ensures.decides.0 refl) in
    least_name c.args.sig.now.sorts c.args.sig.now.ops c.args.sizes.now c.requires.sizes c.requires.sorts c.args.sort under

pub returns-in-None : goal.returns-in-None
returns-in-None t c =
    let not_name : IsAtOrBelow c.args.sig.now.sorts 1 c.args.sort → ⊥ =
    λ under. let no : false ≡ true = c.if-le.ensures.decides.1 (subst (λ o. IsAtOrBelow o 1 c.args.sort) (sym c.sorts.ensures) under) in cc in
    none_passes c.args.sig.now.sorts c.args.sig.now.ops c.args.sizes.now c.requires.sizes c.requires.sorts c.args.sort not_name c.requires.small c.in-None.ensures

pub op-decl-requires : goal.op-decl-requires
op-decl-requires t c = some_within (λ d. is_least_op c.args.sig.now.sorts c.args.sizes.now c.args.sort d ≡ true) c.args.sig.now.ops c.in-Some.num c.in-Some.ensures.0

pub least_term-requires : goal.least_term-requires
least_term-requires t c =
    let sig = c.args.sig.now in
    let decl = c.op-decl.result.now in
    let k = c.loop-arg.arg-index in
    let a : ℕ = get_or c.as_slice-arg-items.result.now k 0 in
    let within : k < length decl.args = omega (arith, c.loop-arg-test.true, ap length c.as_slice-arg-items.ensures) in
    let is : a ≡ get_or decl.args k a = ap (λ xs. get_or xs k 0) c.as_slice-arg-items.ensures ∙ get_or_default decl.args k 0 a within in
    let less = found_less sig.sorts sig.ops c.args.sizes.now c.requires.sizes c.requires.sorts c.args.sort c.in-Some.num decl c.in-Some.ensures c.op-decl.ensures c.requires.small k a within is in
    let part = found_part sig.sorts sig.ops c.args.sizes.now c.requires.sizes c.requires.sorts c.args.sort c.in-Some.num decl c.in-Some.ensures c.op-decl.ensures c.requires.small k a within is in
    (omega (arith, less, c.decreases), (c.requires.sorts, (c.requires.sizes, part)))

pub returns-in-None-2 : goal.returns-in-None-2
returns-in-None-2 t c =
    let sig = c.args.sig.now in
    let decl = c.op-decl.result.now in
    let k = c.loop-arg.arg-index in
    let a : ℕ = get_or c.as_slice-arg-items.result.now k 0 in
    let within : k < length decl.args = omega (arith, c.loop-arg-test.true, ap length c.as_slice-arg-items.ensures) in
    let is : a ≡ get_or decl.args k a = ap (λ xs. get_or xs k 0) c.as_slice-arg-items.ensures ∙ get_or_default decl.args k 0 a within in
    let empty : IsEmpty (IsBuiltOf sig.sorts sig.ops a) = subst (IsLeastIn (IsBuiltOf sig.sorts sig.ops a)) c.in-None-2.is c.in_ok-t.ensures in
    absurd (found_nonempty sig.sorts sig.ops c.args.sizes.now c.requires.sizes c.requires.sorts c.args.sort c.in-Some.num decl c.in-Some.ensures c.op-decl.ensures c.requires.small k a within is empty)

pub loop-arg-preserved : goal.loop-arg-preserved
loop-arg-preserved t c =
    let sig = c.args.sig.now in
    let decl = c.op-decl.result.now in
    let k = c.loop-arg.arg-index in
    let a : ℕ = get_or c.as_slice-arg-items.result.now k 0 in
    let within : k < length decl.args = omega (arith, c.loop-arg-test.true, ap length c.as_slice-arg-items.ensures) in
    let is : a ≡ get_or decl.args k a = ap (λ xs. get_or xs k 0) c.as_slice-arg-items.ensures ∙ get_or_default decl.args k 0 a within in
    let least : IsLeastTerm (IsBuiltOf sig.sorts sig.ops a) c.in-Some-2.t = subst (IsLeastIn (IsBuiltOf sig.sorts sig.ops a)) c.in-Some-2.is c.in_ok-t.ensures in
    subst (λ ts. AreLeast sig.sorts sig.ops (take (k + 1) decl.args) ts) (sym c.in_ok-push-in-Some-2.ensures.items) (are_least_more sig.sorts sig.ops decl.args c.loop-arg.args.items k a c.in-Some-2.t within is c.loop-arg.invariant least)

pub returns : goal.returns
returns t c =
    let sig = c.args.sig.now in
    let decl = c.op-decl.result.now in
    let not_name : IsAtOrBelow sig.sorts 1 c.args.sort → ⊥ =
    λ under. let no : false ≡ true = c.if-le.ensures.decides.1 (subst (λ o. IsAtOrBelow o 1 c.args.sort) (sym c.sorts.ensures) under) in cc in
    let all : AreLeast sig.sorts sig.ops decl.args c.loop-arg.args.items =
    subst (λ ss. AreLeast sig.sorts sig.ops ss c.loop-arg.args.items) (take_all c.loop-arg.arg-index decl.args (omega (arith, c.loop-arg-test.false, ap length c.as_slice-arg-items.ensures))) c.loop-arg.invariant in
    found_made sig.sorts sig.ops c.args.sizes.now c.requires.sizes c.requires.sorts c.args.sort c.in-Some.num decl c.in-Some.ensures c.op-decl.ensures c.requires.small c.loop-arg.args.items c.from_vec.result _ not_name all c.from_vec.ensures refl
