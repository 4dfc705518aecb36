use Rattle.std.proofs.Common.{◌≡◌, map, sym, ◌∙◌, ap, arith}
use Rattle.std.specs.Prelude.{flat_map}
use Rattle.npa_term.specs.Symbols.{all_count}
use Rattle.npa_term.specs.Variables.{variables}
use Rattle.npa_unify.specs.Branches.{has_var}
use Rattle.npa_unify.specs.Seen.{full, have, head_term, raw}
use Rattle.npa_unify.proofs.Heading.{in_app, in_name, occurs_app, occurs_here, occurs_later, occurs_name, occurs_variable}
use Rattle.npa_unify.proofs.Measuring.{argument_measure, bound_measure, bound_within, known_read, known_set, raw_measure, walked_measure, whole_measure}
use Rattle.npa_unify.proofs.Occurring.{bound_has, found_places, raw_has, unbound_has}
use Rattle.npa_unify.proofs.occurrences.+occurrences.Goals as goal

pub is_in_some-is_in_term-requires : goal.is_in_some-is_in_term-requires
is_in_some-is_in_term-requires t c =
    let less = argument_measure (raw c.args.bound.now) c.args.terms.now c.loop-t.t-index c.t-item.result c.loop-t-test.true c.t-item.is in
    (omega (arith, less, c.decreases), (c.requires.sound, c.loop-t.invariant.known))

pub is_in_some-returns-then-is_in_term-clause-value : goal.is_in_some-returns-then-is_in_term-clause-value
is_in_some-returns-then-is_in_term-clause-value t c =
    occurs_here (raw c.args.bound.now) c.args.terms.now c.loop-t.t-index c.t-item.result c.args.v c.loop-t-test.true c.t-item.is c.loop-t.invariant.rest
    (sym c.is_in_term.ensures.value ∙ c.if-is_in_term.true)

pub is_in_some-loop-t-preserved : goal.is_in_some-loop-t-preserved
is_in_some-loop-t-preserved t c = record {
  rest =
      occurs_later (raw c.args.bound.now) c.args.terms.now c.loop-t.t-index c.t-item.result c.args.v c.loop-t-test.true c.t-item.is c.loop-t.invariant.rest
      (sym c.is_in_term.ensures.value ∙ c.if-is_in_term.false);
  known = c.is_in_term.ensures.known;
}

pub is_in_term-is_in_value-requires : goal.is_in_term-is_in_value-requires
is_in_term-is_in_value-requires t c =
    let b = c.in-Some.ensures.some in
    let same = bound_measure (raw c.args.bound.now) c.in-Some.at b.0 c.in-Var.w c.args.t.now c.requires.sound b.1 b.2 c.in-Var.is in
    (omega (arith, same, c.decreases), (c.requires.sound, (c.requires.known, bound_within c.args.bound.now c.in-Some.at b.0 b.1)))

pub is_in_term-is_in_some-requires : goal.is_in_term-is_in_some-requires
is_in_term-is_in_some-requires t c =
    let whole = whole_measure (raw c.args.bound.now) c.args.t.now c.in-App.field-0 c.in-App.args c.in-App.is in
    let same : all_count (map (full (raw c.args.bound.now)) c.as_slice.result.now) ≡ all_count (map (full (raw c.args.bound.now)) c.in-App.args) =
    ap (λ ts. all_count (map (full (raw c.args.bound.now)) ts)) c.as_slice.ensures in
    (omega (arith, whole, same, c.decreases), (c.requires.sound, c.requires.known))

pub is_in_term-returns-in-Some-clause-value : goal.is_in_term-returns-in-Some-clause-value
is_in_term-returns-in-Some-clause-value t c =
    let b = c.in-Some.ensures.some in
    bound_has c.args.v (raw c.args.bound.now) c.in-Some.at b.0 c.in-Var.w c.args.t.now c.is_in_value.result c.requires.sound b.1 b.2 c.in-Var.is c.is_in_value.ensures.value

pub is_in_term-returns-in-None-clause-value : goal.is_in_term-returns-in-None-clause-value
is_in_term-returns-in-None-clause-value t c =
    unbound_has c.args.v (raw c.args.bound.now) c.in-Var.w c.args.t.now c.eq.result c.in-Var.is (c.place_of.ensures.none c.in-None.is) c.eq.ensures

pub is_in_term-returns-in-Name-clause-value : goal.is_in_term-returns-in-Name-clause-value
is_in_term-returns-in-Name-clause-value t c = in_name (raw c.args.bound.now) c.args.t.now c.in-Name.field-0 c.args.v c.in-Name.is

pub is_in_term-returns-in-App-clause-value : goal.is_in_term-returns-in-App-clause-value
is_in_term-returns-in-App-clause-value t c =
    in_app (raw c.args.bound.now) c.args.t.now c.in-App.field-0 c.in-App.args c.args.v c.is_in_some.result c.in-App.is
    (c.is_in_some.ensures.value ∙ ap (λ ts. has_var (flat_map variables (map (full (raw c.args.bound.now)) ts)) c.args.v) c.as_slice.ensures)

pub is_in_value-index-requires : goal.is_in_value-index-requires
is_in_value-index-requires t c =
    let long = found_places c.args.v c.args.known.now.items c.args.bound.now c.requires.known in
    omega (arith, long, c.requires.within)

pub is_in_value-returns-in-Some-clause-value : goal.is_in_value-returns-in-Some-clause-value
is_in_value-returns-in-Some-clause-value t c =
    let long = found_places c.args.v c.args.known.now.items c.args.bound.now c.requires.known in
    known_read c.args.known.now.items (have c.args.v (raw c.args.bound.now)) c.args.at c.in-Some.found c.index.result.now c.requires.known (omega (arith, long, c.requires.within)) c.index.ensures c.in-Some.is

pub is_in_value-is_in_head-found-requires : goal.is_in_value-is_in_head-found-requires
is_in_value-is_in_head-found-requires t c =
    let same = raw_measure c.args.bound.now c.args.at c.index-bound-at.result c.requires.within in
    (omega (arith, same, c.decreases), (c.requires.sound, c.requires.known))

pub is_in_value-index_mut-requires : goal.is_in_value-index_mut-requires
is_in_value-index_mut-requires t c =
    let long = found_places c.args.v c.is_in_head-found.new.known.items c.args.bound.now c.is_in_head-found.ensures.known in
    omega (arith, long, c.requires.within)

pub is_in_value-returns-clause-value : goal.is_in_value-returns-clause-value
is_in_value-returns-clause-value t c =
    raw_has c.args.v c.args.bound.now c.args.at c.index-bound-at.result c.is_in_head-found.result c.requires.within c.is_in_head-found.ensures.value

pub is_in_value-returns-clause-known : goal.is_in_value-returns-clause-known
is_in_value-returns-clause-known t c =
    known_set c.is_in_head-found.new.known.items (have c.args.v (raw c.args.bound.now)) c.args.at c.is_in_head-found.result c.is_in_head-found.ensures.known
    (raw_has c.args.v c.args.bound.now c.args.at c.index-bound-at.result c.is_in_head-found.result c.requires.within c.is_in_head-found.ensures.value)

pub is_in_head-is_in_some-requires : goal.is_in_head-is_in_some-requires
is_in_head-is_in_some-requires t c =
    let whole = walked_measure (raw c.args.bound.now) (head_term c.args.head) c.in-App.field-0 c.in-App.args.now c.requires.sound (sym (ap head_term c.in-App.is) ∙ c.walk_head.ensures) in
    (omega (arith, whole, c.decreases), (c.requires.sound, c.requires.known))

pub is_in_head-returns-in-Var-clause-value : goal.is_in_head-returns-in-Var-clause-value
is_in_head-returns-in-Var-clause-value t c =
    sym (occurs_variable (raw c.args.bound.now) (head_term c.args.head) c.in-Var.w c.args.v c.eq.result c.requires.sound (sym (ap head_term c.in-Var.is) ∙ c.walk_head.ensures) c.eq.ensures)

pub is_in_head-returns-in-Name-clause-value : goal.is_in_head-returns-in-Name-clause-value
is_in_head-returns-in-Name-clause-value t c =
    sym (occurs_name (raw c.args.bound.now) (head_term c.args.head) c.in-Name.field-0 c.args.v c.requires.sound (sym (ap head_term c.in-Name.is) ∙ c.walk_head.ensures))

pub is_in_head-returns-in-App-clause-value : goal.is_in_head-returns-in-App-clause-value
is_in_head-returns-in-App-clause-value t c =
    sym (occurs_app (raw c.args.bound.now) (head_term c.args.head) c.in-App.field-0 c.in-App.args.now c.args.v c.is_in_some.result c.requires.sound
    (sym (ap head_term c.in-App.is) ∙ c.walk_head.ensures) c.is_in_some.ensures.value)
