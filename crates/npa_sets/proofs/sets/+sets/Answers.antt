use Rattle.std.proofs.Common.{rules, ◌≡◌, ◌+◌, ◌-◌, ◌*◌, ◌<◌, ◌++◌, ◌∷◌, [], Err, Some, take, drop, length, get_or, slice_get, Contains, sym, ◌∙◌, ap, subst, arith}
use Rattle.std.proofs.lemmas.Bool.{true≢false}
use Rattle.std.proofs.lemmas.List.{take_rest}
use Rattle.std.proofs.lemmas.Option.{slice_get-get_or, get_or_from_slice_get}
use Rattle.std.proofs.lemmas.Result.{err_from_is_err_and}
use Rattle.npa_term.specs.declared.term.Term.{Term}
use Rattle.npa_unify.proofs.Members.{member_at}
use Rattle.npa_variants.specs.Told.{seen}
use Rattle.npa_moves.specs.Picks.{picks_from}
use Rattle.npa_sets.specs.Sets.{IsLow, followed, sets_from}
use Rattle.npa_sets.specs.Told.{Gives, as_kept}
use Rattle.npa_sets.proofs.Cutting.{with_last}
use Rattle.npa_sets.proofs.Following.{empties, fails, finds, handed, none_found, passes, stops, taken_more}
use Rattle.npa_sets.proofs.sets.+sets.Goals as goal

pub extend-returns-in_err-found : goal.extend-returns-in_err-found
extend-returns-in_err-found t c =
    let p = c.args.problem.now in
    let facts = p.facts.now in
    let f : Term = get_or facts c.loop-at.at p.message.now in
    let there : slice_get facts c.loop-at.at ≡ Some f = slice_get-get_or facts c.loop-at.at p.message.now c.loop-at-test.true in
    let e = err_from_is_err_and c.from_residual-in_err-found.result c.from_residual-in_err-found.ensures.1 in
    handed c.from_residual-in_err-found.result e.0 c.in_err-found.field-0.0 _ e.1 e.2
    (fails p.sorts.now p.next p.message.now (seen c.args.taken.now) (seen c.loop-at.left.items) (seen c.as_slice.result.now) c.args.places.now facts c.loop-at.at f (as_kept c.loop-at.found) c.in_err-found.field-0.0 _
    there (ap seen c.as_slice.ensures.value) c.loop-at.invariant (c.in_err-found.ensures f there))

pub extend-loop-at-preserved : goal.extend-loop-at-preserved
extend-loop-at-preserved t c =
    let p = c.args.problem.now in
    let facts = p.facts.now in
    let f : Term = get_or facts c.loop-at.at c.index-problem-at.result in
    let there : slice_get facts c.loop-at.at ≡ Some f = slice_get-get_or facts c.loop-at.at c.index-problem-at.result c.loop-at-test.true in
    passes p.sorts.now p.next p.message.now (seen c.args.taken.now) (seen c.loop-at.left.items) (seen c.as_slice.result.now) (seen c.add.new.terms.items) c.args.places.now facts c.loop-at.at f (as_kept c.loop-at.found) (as_kept c.in_ok-found.found) _
    there (ap seen c.as_slice.ensures.value) c.in_ok-add.ensures c.loop-at.invariant (c.in_ok-found.ensures f there)

pub with_fact-unifiers_with-requires-clause-fact : goal.with_fact-unifiers_with-requires-clause-fact
with_fact-unifiers_with-requires-clause-fact t c = c.requires.facts _ (member_at c.args.problem.now.facts.now c.args.at c.index-problem-at.result c.requires.within)

pub with_fact-returns-in_err-unifiers : goal.with_fact-returns-in_err-unifiers
with_fact-returns-in_err-unifiers t c = λ f there.
    let p = c.args.problem.now in
    let taken = seen c.args.taken.now in
    let e = err_from_is_err_and c.from_residual.result c.from_residual.ensures.1 in
    handed c.from_residual.result e.0 c.in_err-unifiers.field-0.0 _ e.1 e.2
    (empties p.sorts.now p.next p.message.now taken (seen c.args.left.now) c.args.places.now p.facts.now c.args.at c.index-problem-at.result f (as_kept c.args.found) c.in_err-unifiers.field-0.0 there c.in_err-unifiers.ensures.gives)

pub with_fact-returns-then-is_empty : goal.with_fact-returns-then-is_empty
with_fact-returns-then-is_empty t c = λ f there.
    let p = c.args.problem.now in
    none_found p.sorts.now p.next p.message.now (seen c.args.taken.now) (seen c.args.left.now) c.args.places.now p.facts.now c.args.at c.index-problem-at.result f (as_kept c.args.found) c.in_ok-unifiers.unifiers
    there c.requires.facts (c.is_empty.ensures.0 c.if-is_empty.true) c.in_ok-unifiers.ensures.gives c.in_ok-unifiers.ensures.cut

pub with_fact-returns-in_err-found : goal.with_fact-returns-in_err-found
with_fact-returns-in_err-found t c = λ f there.
    let p = c.args.problem.now in
    let rest = take (length p.facts.now - (c.args.at + 1)) (drop (c.args.at + 1) p.facts.now) in
    let e = err_from_is_err_and c.from_residual-in_err-found.result c.from_residual-in_err-found.ensures.1 in
    let found = finds p.sorts.now p.next p.message.now (seen c.args.taken.now) (seen c.args.left.now) c.args.places.now p.facts.now c.args.at c.index-problem-at.result f (as_kept c.args.found) c.in_ok-unifiers.unifiers
    c.as_slice.result.now rest there (c.as_slice.ensures.value ∙ c.in_ok-places.ensures) (take_rest p.facts.now (c.args.at + 1)) (λ none. true≢false (sym (c.is_empty.ensures.1 none) ∙ c.if-is_empty.false)) c.in_ok-unifiers.ensures.gives in
    handed c.from_residual-in_err-found.result e.0 c.in_err-found.field-0.0 _ e.1 e.2
    (subst (Gives (Err c.in_err-found.field-0.0)) (sym found) (stops c.in_err-found.field-0.0 _ _ c.in_err-found.ensures))

pub with_fact-extend-requires : goal.with_fact-extend-requires
with_fact-extend-requires t c =
    let p = c.args.problem.now in
    let less : 2 * (length p.facts.now - (c.args.at + 1)) + 1 < 2 * (length p.facts.now - c.args.at) = omega (arith, c.requires.within) in
    let all = taken_more c.args.taken.now c.in_ok-taken.taken.items c.add.new.terms.items c.as_slice-2.result.now (get_or p.facts.now c.args.at c.index-problem-at.result) c.in_ok-taken.ensures c.in_ok-add.ensures c.as_slice-2.ensures.value in
    let low : (x : Term) → Contains (seen c.as_slice-2.result.now) x → IsLow p.next x = subst (λ ts. (x : Term) → Contains ts x → IsLow p.next x) (sym all)
    (with_last p.next (seen c.args.taken.now) _ c.requires.taken (c.requires.facts _ (member_at p.facts.now c.args.at c.index-problem-at.result c.requires.within))) in
    (search rules, (c.requires.facts, (c.requires.message, low)))

pub with_fact-returns : goal.with_fact-returns
with_fact-returns t c = λ f there.
    let p = c.args.problem.now in
    let rest = take (length p.facts.now - (c.args.at + 1)) (drop (c.args.at + 1) p.facts.now) in
    let behind = drop (c.args.at + 1) p.facts.now in
    let is : get_or p.facts.now c.args.at c.index-problem-at.result ≡ f = get_or_from_slice_get p.facts.now c.args.at f c.index-problem-at.result there in
    let all = taken_more c.args.taken.now c.in_ok-taken.taken.items c.add.new.terms.items c.as_slice-2.result.now (get_or p.facts.now c.args.at c.index-problem-at.result) c.in_ok-taken.ensures c.in_ok-add.ensures c.as_slice-2.ensures.value in
    let found = finds p.sorts.now p.next p.message.now (seen c.args.taken.now) (seen c.args.left.now) c.args.places.now p.facts.now c.args.at c.index-problem-at.result f (as_kept c.args.found) c.in_ok-unifiers.unifiers
    c.as_slice.result.now rest there (c.as_slice.ensures.value ∙ c.in_ok-places.ensures) (take_rest p.facts.now (c.args.at + 1)) (λ none. true≢false (sym (c.is_empty.ensures.1 none) ∙ c.if-is_empty.false)) c.in_ok-unifiers.ensures.gives in
    subst (Gives c.extend.result)
    (ap (λ ts. sets_from p.sorts.now p.next p.message.now (picks_from ts (seen c.args.left.now) c.as_slice-3.result.now (c.args.at + 1) behind) (as_kept c.in_ok-found.found)) (all ∙ ap (λ x. seen c.args.taken.now ++ x ∷ []) is)
    ∙ ap (λ ps. sets_from p.sorts.now p.next p.message.now (picks_from (seen c.args.taken.now ++ f ∷ []) (seen c.args.left.now) ps (c.args.at + 1) behind) (as_kept c.in_ok-found.found)) (c.as_slice-3.ensures.value ∙ c.in_ok-places.ensures)
    ∙ sym (found ∙ ap (λ r. followed r (sets_from p.sorts.now p.next p.message.now (picks_from (seen c.args.taken.now ++ f ∷ []) (seen c.args.left.now) (c.args.places.now ++ c.args.at ∷ []) (c.args.at + 1) behind))) c.in_ok-found.ensures))
    c.extend.ensures
