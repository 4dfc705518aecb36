use Rattle.std.proofs.Common.{◌≡◌, ◌<◌, length, sym, ◌∙◌, ap, arith}
use Rattle.npa_term.specs.declared.term.Term.{App}
use Rattle.npa_match.specs.Search.{ends_of, outcome_ends, outcome_work, work, goal_pairs, pairs_of, pair_symbols, IsFork}
use Rattle.npa_match.specs.Matching.{bound_pairs}
use Rattle.npa_match.proofs.Going.{fails, other_term, other_arguments, goes_on, fork_ends, fork_work, pushed_fewer, on_ok}
use Rattle.npa_match.proofs.search.advance.Goals as goal

pub returns-in_default-arguments-clause-ends : goal.returns-in_default-arguments-clause-ends
returns-in_default-arguments-clause-ends c =
    fails _ _ _ _ _ _ c.in-Some.ensures.items (other_term _ _ _ _ c.in-App.op c.in-App.ts c.in-App.is c.in_default-arguments.ensures) ∙ c.loop-t.invariant.ends

pub returns-then-len-us-clause-ends : goal.returns-then-len-us-clause-ends
returns-then-len-us-clause-ends c =
    let us = c.in-Some-arguments.us.now in
    fails _ _ _ _ _ _ c.in-Some.ensures.items
    (other_arguments _ _ _ _ c.in-App.op c.in-App.ts us c.in-App.is c.in-Some-arguments.ensures (λ e. c.if-len-us.true (c.len.ensures ∙ e)))
    ∙ c.loop-t.invariant.ends

pub returns-then-is_fork-clause-ends : goal.returns-then-is_fork-clause-ends
returns-then-is_fork-clause-ends c =
    let f = c.in-App.op in
    let ts = c.as_slice.result.now in
    let us = c.in-Some-arguments.us.now in
    let even : length ts ≡ length us = ap length c.as_slice.ensures ∙ sym c.len.ensures ∙ c.if-len-us.false in
    let first : c.in-Some.t.now ≡ App f ts = c.in-App.is ∙ ap (App f) (sym c.as_slice.ensures) in
    on_ok (IsFork (goal_pairs c.pop.new.self.items) (bound_pairs c.loop-t.bound.items) ts us)
    (λ outcome. outcome_ends c.args.sorts.now outcome ≡ ends_of c.args.sorts.now c.args.branch)
    (λ outcome is. fork_ends _ _ _ _ _ _ f ts us c.in-Some.ensures.items first c.in-Some-arguments.ensures even (sym c.if-is_fork.ensures) outcome is ∙ c.loop-t.invariant.ends)
    c.fork.result c.fork.ensures

pub returns-then-is_fork-clause-less : goal.returns-then-is_fork-clause-less
returns-then-is_fork-clause-less c =
    let f = c.in-App.op in
    let ts = c.as_slice.result.now in
    let us = c.in-Some-arguments.us.now in
    let even : length ts ≡ length us = ap length c.as_slice.ensures ∙ sym c.len.ensures ∙ c.if-len-us.false in
    let first : c.in-Some.t.now ≡ App f ts = c.in-App.is ∙ ap (App f) (sym c.as_slice.ensures) in
    on_ok (IsFork (goal_pairs c.pop.new.self.items) (bound_pairs c.loop-t.bound.items) ts us)
    (λ outcome. outcome_work outcome < work c.args.branch)
    (λ outcome is. fork_work (pair_symbols (pairs_of c.args.branch)) _ _ _ _ _ f ts us c.in-Some.ensures.items first even c.loop-t.invariant.fewer outcome is)
    c.fork.result c.fork.ensures

pub loop-t-smaller : goal.loop-t-smaller
loop-t-smaller c =
    let f = c.in-App.op in
    let ts = c.as_slice-in-App.result.now in
    let us = c.in-Some-arguments.us.now in
    let even : length ts ≡ length us = ap length c.as_slice-in-App.ensures ∙ sym c.len.ensures ∙ c.if-len-us.false in
    let first : c.in-Some.t.now ≡ App f ts = c.in-App.is ∙ ap (App f) (sym c.as_slice-in-App.ensures) in
    pushed_fewer _ _ c.push_arguments.new.goals.items _ _ f ts us c.in-Some.ensures.items first even c.in_ok-push_arguments-in-App.ensures

pub loop-t-preserved : goal.loop-t-preserved
loop-t-preserved c =
    let f = c.in-App.op in
    let ts = c.as_slice-in-App.result.now in
    let us = c.in-Some-arguments.us.now in
    let new = c.push_arguments.new.goals.items in
    let even : length ts ≡ length us = ap length c.as_slice-in-App.ensures ∙ sym c.len.ensures ∙ c.if-len-us.false in
    let first : c.in-Some.t.now ≡ App f ts = c.in-App.is ∙ ap (App f) (sym c.as_slice-in-App.ensures) in
    let less : pair_symbols (goal_pairs new) < pair_symbols (goal_pairs c.loop-t.goals.items) =
    pushed_fewer _ _ new _ _ f ts us c.in-Some.ensures.items first even c.in_ok-push_arguments-in-App.ensures in
    record {
      ends = goes_on _ _ _ _ new _ _ f ts us c.in-Some.ensures.items first c.in-Some-arguments.ensures even (sym c.if-is_fork.ensures) c.in_ok-push_arguments-in-App.ensures ∙ c.loop-t.invariant.ends;
      fewer = omega (arith, less, c.loop-t.invariant.fewer);
    }
