use Rattle.std.proofs.Common.{◌≡◌, map, sym, ◌∙◌, ap, arith}
use Rattle.npa_term.specs.Symbols.{all_count}
use Rattle.npa_unify.specs.Seen.{counts, full, head_term, raw}
use Rattle.npa_unify.proofs.Measuring.{argument_measure, bound_count, bound_measure, bound_within, known_places, known_read, known_set, one_name, one_symbol, raw_count, raw_measure, walked_measure, walked_name, walked_variable, whole_measure}
use Rattle.npa_unify.proofs.sizes.+sizes.Goals as goal

pub application_size-size-requires : goal.application_size-size-requires
application_size-size-requires t c =
    let less = argument_measure (raw c.args.bound.now) c.args.args.now c.loop-arg.arg-index c.arg-item.result c.loop-arg-test.true c.arg-item.is in
    (omega (arith, less, c.decreases), (c.requires.sound, c.loop-arg.invariant.known))

pub size-value_size-requires : goal.size-value_size-requires
size-value_size-requires t c =
    let b = c.in-Some.ensures.some in
    let same = bound_measure (raw c.args.bound.now) c.in-Some.at b.0 c.in-Var.v c.args.t.now c.requires.sound b.1 b.2 c.in-Var.is in
    (omega (arith, same, c.decreases), (c.requires.sound, (c.requires.known, bound_within c.args.bound.now c.in-Some.at b.0 b.1)))

pub size-application_size-requires : goal.size-application_size-requires
size-application_size-requires t c =
    let whole = whole_measure (raw c.args.bound.now) c.args.t.now c.in-App.field-0 c.in-App.args c.in-App.is in
    let same : all_count (map (full (raw c.args.bound.now)) c.as_slice.result.now) ≡ all_count (map (full (raw c.args.bound.now)) c.in-App.args) =
    ap (λ ts. all_count (map (full (raw c.args.bound.now)) ts)) c.as_slice.ensures in
    (omega (arith, whole, same, c.decreases), (c.requires.sound, c.requires.known))

pub size-returns-in-Some-clause-value : goal.size-returns-in-Some-clause-value
size-returns-in-Some-clause-value t c =
    let b = c.in-Some.ensures.some in
    bound_count (raw c.args.bound.now) c.in-Some.at b.0 c.in-Var.v c.args.t.now c.value_size.result c.requires.sound b.1 b.2 c.in-Var.is c.value_size.ensures.value

pub size-returns-in-None-clause-value : goal.size-returns-in-None-clause-value
size-returns-in-None-clause-value t c = one_symbol c.args.t.now c.in-Var.v (raw c.args.bound.now) c.in-Var.is (c.place_of.ensures.none c.in-None.is)

pub size-returns-in-Name-clause-value : goal.size-returns-in-Name-clause-value
size-returns-in-Name-clause-value t c = one_name c.args.t.now c.in-Name.field-0 (raw c.args.bound.now) c.in-Name.is

pub size-returns-in-App-clause-value : goal.size-returns-in-App-clause-value
size-returns-in-App-clause-value t c =
    let whole = whole_measure (raw c.args.bound.now) c.args.t.now c.in-App.field-0 c.in-App.args c.in-App.is in
    let same : all_count (map (full (raw c.args.bound.now)) c.as_slice.result.now) ≡ all_count (map (full (raw c.args.bound.now)) c.in-App.args) =
    ap (λ ts. all_count (map (full (raw c.args.bound.now)) ts)) c.as_slice.ensures in
    omega (arith, whole, same, c.application_size.ensures.value)

pub value_size-index-requires : goal.value_size-index-requires
value_size-index-requires t c =
    let long = known_places c.args.known.now.items c.args.bound.now c.requires.known in
    omega (arith, long, c.requires.within)

pub value_size-returns-in-Some-clause-value : goal.value_size-returns-in-Some-clause-value
value_size-returns-in-Some-clause-value t c = let long = known_places c.args.known.now.items c.args.bound.now c.requires.known in
    known_read c.args.known.now.items (counts (raw c.args.bound.now)) c.args.at c.in-Some.count c.index.result.now c.requires.known (omega (arith, long, c.requires.within)) c.index.ensures c.in-Some.is

pub value_size-head_size-count-requires : goal.value_size-head_size-count-requires
value_size-head_size-count-requires t c =
    let same = raw_measure c.args.bound.now c.args.at c.index-bound-at.result c.requires.within in
    (omega (arith, same, c.decreases), (c.requires.sound, c.requires.known))

pub value_size-index_mut-requires : goal.value_size-index_mut-requires
value_size-index_mut-requires t c =
    let long = known_places c.head_size-count.new.known.items c.args.bound.now c.head_size-count.ensures.known in
    omega (arith, long, c.requires.within)

pub value_size-returns-clause-value : goal.value_size-returns-clause-value
value_size-returns-clause-value t c =
    raw_count c.args.bound.now c.args.at c.index-bound-at.result c.head_size-count.result c.requires.within c.head_size-count.ensures.value

pub value_size-returns-clause-known : goal.value_size-returns-clause-known
value_size-returns-clause-known t c =
    known_set c.head_size-count.new.known.items (counts (raw c.args.bound.now)) c.args.at c.head_size-count.result c.head_size-count.ensures.known
    (raw_count c.args.bound.now c.args.at c.index-bound-at.result c.head_size-count.result c.requires.within c.head_size-count.ensures.value)

pub head_size-application_size-requires : goal.head_size-application_size-requires
head_size-application_size-requires t c =
    let whole = walked_measure (raw c.args.bound.now) (head_term c.args.head) c.in-App.field-0 c.in-App.args.now c.requires.sound (sym (ap head_term c.in-App.is) ∙ c.walk_head.ensures) in
    (omega (arith, whole, c.decreases), (c.requires.sound, c.requires.known))

pub head_size-returns-in-Var-clause-value : goal.head_size-returns-in-Var-clause-value
head_size-returns-in-Var-clause-value t c = walked_variable (raw c.args.bound.now) (head_term c.args.head) c.in-Var.field-0 c.requires.sound (sym (ap head_term c.in-Var.is) ∙ c.walk_head.ensures)

pub head_size-returns-in-Name-clause-value : goal.head_size-returns-in-Name-clause-value
head_size-returns-in-Name-clause-value t c = walked_name (raw c.args.bound.now) (head_term c.args.head) c.in-Name.field-0 c.requires.sound (sym (ap head_term c.in-Name.is) ∙ c.walk_head.ensures)

pub head_size-returns-in-App-clause-value : goal.head_size-returns-in-App-clause-value
head_size-returns-in-App-clause-value t c =
    let whole = walked_measure (raw c.args.bound.now) (head_term c.args.head) c.in-App.field-0 c.in-App.args.now c.requires.sound (sym (ap head_term c.in-App.is) ∙ c.walk_head.ensures) in
    omega (arith, whole, c.application_size.ensures.value)
