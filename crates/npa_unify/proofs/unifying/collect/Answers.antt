use Rattle.std.proofs.Common.{◌≡◌, suc, ◌-◌, ◌∷◌, None, Some, sym, ◌∙◌, ap, subst, arith}
use Rattle.std.specs.Prelude.{IfSome, flat_map}
use Rattle.npa_term.specs.Composition.{first_past}
use Rattle.npa_unify.specs.Answers.{finished}
use Rattle.npa_unify.specs.Branches.{ends}
use Rattle.npa_unify.specs.Seen.{added, finished_all, raw, seen, seen_all, solved}
use Rattle.npa_unify.proofs.Judging.{end_taken, judged_large, judged_many, judged_next, judging, judging_all}
use Rattle.npa_unify.proofs.unifying.collect.Goals as goal

pub loop-kept-init : goal.loop-kept-init
loop-kept-init c = record {
  list =
      ap (λ k. judging 4096 k (finished_all (flat_map (ends c.args.sorts.now) (seen_all c.args.waiting.now.items)))) c.new-kept.ensures
      ∙ judging_all (finished_all (flat_map (ends c.args.sorts.now) (seen_all c.args.waiting.now.items)));
  sound = c.requires.sound;
  reached = c.requires.reached;
}

pub returns-in-Some-2-clause-large : goal.returns-in-Some-2-clause-large
returns-in-Some-2-clause-large c = λ n e.
    let o = c.args.sorts.now in
    let state = c.in-Some.state in
    let old = flat_map (ends o) (seen_all c.loop-kept.waiting.items) in
    let new = flat_map (ends o) (seen_all c.next_end.new.waiting.items) in
    let found : old ≡ seen state ∷ new = subst (λ r. IfSome r (λ x. old ≡ seen x ∷ new)) c.in-Some.is c.in_ok-state.ensures.found in
    let past : Some c.in-Some-2.count ≡ first_past 1024 (finished (solved (raw state.bound.items))) =
    sym c.in-Some-2.is ∙ c.in_ok-count.ensures ∙ ap (λ l. first_past 1024 (finished (solved (raw l)))) c.as_slice.ensures.value in
    let told = sym c.loop-kept.invariant.list ∙ ap (judging c.loop-kept.left c.loop-kept.kept) (end_taken old new state found)
    ∙ judged_large c.loop-kept.left c.in-Some-2.count c.loop-kept.kept (finished_all new) (finished (solved (raw state.bound.items))) past in
    told ∙ e

pub returns-then-left-eq0-clause-many : goal.returns-then-left-eq0-clause-many
returns-then-left-eq0-clause-many c = λ e.
    let o = c.args.sorts.now in
    let state = c.in-Some.state in
    let old = flat_map (ends o) (seen_all c.loop-kept.waiting.items) in
    let new = flat_map (ends o) (seen_all c.next_end.new.waiting.items) in
    let found : old ≡ seen state ∷ new = subst (λ r. IfSome r (λ x. old ≡ seen x ∷ new)) c.in-Some.is c.in_ok-state.ensures.found in
    let past : None ≡ first_past 1024 (finished (solved (raw state.bound.items))) =
    sym c.in-None.is ∙ c.in_ok-count.ensures ∙ ap (λ l. first_past 1024 (finished (solved (raw l)))) c.as_slice.ensures.value in
    sym c.loop-kept.invariant.list ∙ ap (judging c.loop-kept.left c.loop-kept.kept) (end_taken old new state found)
    ∙ judged_many c.loop-kept.left c.loop-kept.kept (finished_all new) (finished (solved (raw state.bound.items))) past c.if-left-eq0.true

pub loop-kept-preserved : goal.loop-kept-preserved
loop-kept-preserved c =
    let o = c.args.sorts.now in
    let state = c.in-Some.state in
    let s = finished (solved (raw state.bound.items)) in
    let old = flat_map (ends o) (seen_all c.loop-kept.waiting.items) in
    let new = flat_map (ends o) (seen_all c.next_end.new.waiting.items) in
    let found : old ≡ seen state ∷ new = subst (λ r. IfSome r (λ x. old ≡ seen x ∷ new)) c.in-Some.is c.in_ok-state.ensures.found in
    let past : None ≡ first_past 1024 s = sym c.in-None.is ∙ c.in_ok-count.ensures ∙ ap (λ l. first_past 1024 (finished (solved (raw l)))) c.as_slice.ensures.value in
    let made : c.in_ok-finish.field-0 ≡ s = c.in_ok-finish.ensures ∙ ap (λ l. finished (solved (raw l))) c.as_slice-in-Some.ensures.value in
    let more : c.loop-kept.left ≡ suc (c.loop-kept.left - 1) = omega (arith, c.if-left-eq0.false) in record {
      list =
          ap (λ k. judging (c.loop-kept.left - 1) k (finished_all new)) (c.in_ok-keep.ensures ∙ ap (added c.loop-kept.kept) made)
          ∙ sym (judged_next c.loop-kept.left (c.loop-kept.left - 1) c.loop-kept.kept (finished_all new) s past more)
          ∙ sym (ap (judging c.loop-kept.left c.loop-kept.kept) (end_taken old new state found)) ∙ c.loop-kept.invariant.list;
      sound = c.in_ok-state.ensures.sound;
      reached = c.in_ok-state.ensures.reached;
    }
