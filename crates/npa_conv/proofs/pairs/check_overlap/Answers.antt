use Rattle.std.proofs.Common.{◌≡◌, ◌+◌, ◌≤◌, ◌^◌, Ok, Err, Some, sym, ◌∙◌, ap, subst, arith, Fits, w32}
use Rattle.npa_unify.specs.declared.error.UnifyFail.TheVariants.{TooMany, TooLarge}
use Rattle.npa_unify.specs.Answers.{judged, unifiers}
use Rattle.npa_unify.specs.Unifiers.{AreFit}
use Rattle.npa_conv.specs.declared.error.ConvFail.TheVariants.{Symbols}
use Rattle.npa_conv.proofs.Judged.{few_base, few_past, fit, left_fits, none, read_found, read_large, read_many}
use Rattle.npa_conv.proofs.pairs.check_overlap.Goals as goal

pub returns-then-not-may_unify : goal.returns-then-not-may_unify
returns-then-not-may_unify c =
    none c.args.th.now c.requires.plain c.args.part.now c.requires.placed c.args.second.now c.requires.listed (c.may_unify.ensures c.if-not-may_unify.true) c.args.at

pub overflow_cast-next : goal.overflow_cast-next
overflow_cast-next c =
    let few = few_past c.args.th.now c.requires.plain c.args.part.now c.requires.placed c.args.second.now c.requires.listed in
    omega (arith, few, c.past.ensures)

pub overflow_add-next : goal.overflow_add-next
overflow_add-next c =
    let few = few_past c.args.th.now c.requires.plain c.args.part.now c.requires.placed c.args.second.now c.requires.listed in
    let base = few_base c.args.th.now c.requires.plain c.args.part.now c.requires.placed c.args.second.now c.requires.listed in
    omega (arith, few, base, c.past.ensures)

pub overlap-requires-clause-fits : goal.overlap-requires-clause-fits
overlap-requires-clause-fits c = left_fits c.args.th.now c.requires.plain c.args.part.now c.requires.placed c.args.second.now c.requires.listed

pub unify-requires-clause-sorts : goal.unify-requires-clause-sorts
unify-requires-clause-sorts c =
    let next = c.past.result + c.args.part.now.base in
    let fits = fit c.args.th.now c.requires.plain c.args.part.now c.requires.placed c.args.second.now c.requires.listed c.in_ok-pairs.pairs
    next c.in_ok-pairs.ensures (ap (λ k. k + c.args.part.now.base) c.past.ensures) in
    let here : AreFit c.sorts.result.now c.in_ok-pairs.pairs next = subst (λ o. AreFit o c.in_ok-pairs.pairs next) (sym c.sorts.ensures) fits in
    here.sorts

pub unify-requires-clause-low : goal.unify-requires-clause-low
unify-requires-clause-low c =
    let fits = fit c.args.th.now c.requires.plain c.args.part.now c.requires.placed c.args.second.now c.requires.listed c.in_ok-pairs.pairs
    (c.past.result + c.args.part.now.base) c.in_ok-pairs.ensures (ap (λ k. k + c.args.part.now.base) c.past.ensures) in
    fits.low

pub unify-requires-clause-room : goal.unify-requires-clause-room
unify-requires-clause-room c =
    let fits = fit c.args.th.now c.requires.plain c.args.part.now c.requires.placed c.args.second.now c.requires.listed c.in_ok-pairs.pairs
    (c.past.result + c.args.part.now.base) c.in_ok-pairs.ensures (ap (λ k. k + c.args.part.now.base) c.past.ensures) in
    fits.room

pub unify-requires-clause-one : goal.unify-requires-clause-one
unify-requires-clause-one c =
    let fits = fit c.args.th.now c.requires.plain c.args.part.now c.requires.placed c.args.second.now c.requires.listed c.in_ok-pairs.pairs
    (c.past.result + c.args.part.now.base) c.in_ok-pairs.ensures (ap (λ k. k + c.args.part.now.base) c.past.ensures) in
    fits.one

pub returns-in-Ok : goal.returns-in-Ok
returns-in-Ok c =
    read_found c.args.th.now c.requires.plain c.args.part.now c.requires.placed c.args.second.now c.requires.listed c.in_ok-pairs.pairs
    (c.past.result + c.args.part.now.base) c.in_ok-pairs.ensures (ap (λ k. k + c.args.part.now.base) c.past.ensures) c.args.at
    c.in-Ok.found c.check_unifiers.result (subst (λ s. judged (unifiers s c.in_ok-pairs.pairs (c.past.result + c.args.part.now.base)) ≡ Ok c.in-Ok.found) c.sorts.ensures c.in-Ok.ensures.list) c.check_unifiers.ensures

pub returns-in-Err-TooMany : goal.returns-in-Err-TooMany
returns-in-Err-TooMany c =
    let next = c.past.result + c.args.part.now.base in
    read_many c.args.th.now c.requires.plain c.args.part.now c.requires.placed c.args.second.now c.requires.listed c.in_ok-pairs.pairs
    next c.in_ok-pairs.ensures (ap (λ k. k + c.args.part.now.base) c.past.ensures) c.args.at
    (subst (λ s. judged (unifiers s c.in_ok-pairs.pairs next) ≡ Err TooMany) c.sorts.ensures (c.in-Err-TooMany.ensures.many (ap Err c.in-Err-TooMany.field-0-is)))

pub returns-in-Err-TooLarge : goal.returns-in-Err-TooLarge
returns-in-Err-TooLarge c =
    let next = c.past.result + c.args.part.now.base in
    read_large c.args.th.now c.requires.plain c.args.part.now c.requires.placed c.args.second.now c.requires.listed c.in_ok-pairs.pairs
    next c.in_ok-pairs.ensures (ap (λ k. k + c.args.part.now.base) c.past.ensures) c.args.at c.in-Err-TooLarge.count
    (subst (λ s. judged (unifiers s c.in_ok-pairs.pairs next) ≡ Err (TooLarge c.in-Err-TooLarge.count)) c.sorts.ensures (c.in-Err-TooLarge.ensures.large c.in-Err-TooLarge.count (ap Err c.in-Err-TooLarge.field-0-is)))
    ∙ sym (ap (λ k. Some (Symbols k)) c.in-Err-TooLarge.count-is)
