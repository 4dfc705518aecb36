use Rattle.std.proofs.Common.{arith, ◌≡◌, ◌<◌, length, ℕ, ◌+◌, [], refl, subst, sym, ◌∙◌, ap, cond, take, get_or, true, false}
use Rattle.fold_numbers.specs.Numbers.{numbers}
use Rattle.fold_core.specs.Machine.{Core, After, begin, roots_placed, is_root}
use Rattle.fold_numbers.specs.Replay.{Ran}
use Rattle.fold_core.proofs.Counting.{counts_after}
use Rattle.fold_core.proofs.Uniqueness.{after_next, roots_next, refused_after}
use Rattle.fold_numbers.proofs.replay.after.Goals as goal
use Rattle.fold_numbers.proofs.replay.after.Goals.{then-is_root, else-is_root}

pub loop-tick-init : goal.loop-tick-init
loop-tick-init c = record {
  reached = subst (λ (w : Core ℕ). After (numbers c.args.problem.now.rules) c.args.problem.now.roots c.args.problem.now.budget [] w) (sym c.new-state.ensures) begin;
  counted = refl;
  few = omega arith;
}

pub step-requires-clause-in_budget : goal.step-requires-clause-in_budget
step-requires-clause-in_budget c = (counts_after c.loop-tick.invariant.reached).in_budget

pub returns-then-not-branch-clause-refused : goal.returns-then-not-branch-clause-refused
returns-then-not-branch-clause-refused c =
    let is : c.index-events-tick.result ≡ get_or c.args.events.now c.loop-tick.tick c.index-events-tick.result = subst (λ w. c.index-events-tick.result ≡ get_or w c.loop-tick.tick c.index-events-tick.result) c.as_slice-events.ensures c.index-events-tick.is in
    let within : c.loop-tick.tick < length c.args.events.now = subst (λ w. c.loop-tick.tick < length w) c.as_slice-events.ensures c.loop-tick-test.true in
    let ran = subst (λ w. Ran (numbers c.args.problem.now.rules) c.args.problem.now.roots c.args.problem.now.budget (take c.loop-tick.tick w) c.loop-tick.state c.index-events-tick.result c.in_ok-step.field-0 c.step.new.self)
    c.as_slice-events.ensures (record { leads = c.in_ok-step.ensures.leads; refused = c.in_ok-step.ensures.refused }) in
    refused_after c.args.events.now c.loop-tick.tick c.index-events-tick.result c.loop-tick.state is within c.loop-tick.invariant.reached
    (ran.refused c.if-not-branch.true)

pub loop-tick-preserved : goal.loop-tick-preserved
loop-tick-preserved c =
    let is : c.index-events-tick.result ≡ get_or c.args.events.now c.loop-tick.tick c.index-events-tick.result = subst (λ w. c.index-events-tick.result ≡ get_or w c.loop-tick.tick c.index-events-tick.result) c.as_slice-events.ensures c.index-events-tick.is in
    let within : c.loop-tick.tick < length c.args.events.now = subst (λ w. c.loop-tick.tick < length w) c.as_slice-events.ensures c.loop-tick-test.true in
    let ran = subst (λ w. Ran (numbers c.args.problem.now.rules) c.args.problem.now.roots c.args.problem.now.budget (take c.loop-tick.tick w) c.loop-tick.state c.index-events-tick.result c.in_ok-step.field-0 c.step.new.self)
    c.as_slice-events.ensures (record { leads = c.in_ok-step.ensures.leads; refused = c.in_ok-step.ensures.refused }) in
    let next = roots_next c.args.events.now c.loop-tick.tick c.index-events-tick.result is within in
    let few = c.loop-tick.invariant.few in
    let counted = c.loop-tick.invariant.counted in
    record {
      reached = after_next c.args.events.now c.loop-tick.tick c.index-events-tick.result c.loop-tick.state c.step.new.self is within c.loop-tick.invariant.reached
          (ran.leads c.if-not-branch.false);
      counted = elim c.if-is_root.branch [
        | then-is_root w ↦ (let root : is_root c.index-events-tick.result ≡ true = sym c.is_root.ensures ∙ w.if-is_root.true in
            let one = next ∙ ap (λ b. roots_placed (take c.loop-tick.tick c.args.events.now) + cond b 1 0) root in omega (arith, w.placed-is, counted, one))
        | else-is_root w ↦ (let root : is_root c.index-events-tick.result ≡ false = sym c.is_root.ensures ∙ w.if-is_root.false in
            let none = next ∙ ap (λ b. roots_placed (take c.loop-tick.tick c.args.events.now) + cond b 1 0) root in omega (arith, w.placed-is, counted, none))
      ];
      few = elim c.if-is_root.branch [
        | then-is_root w ↦ omega (arith, w.placed-is, few)
        | else-is_root w ↦ omega (arith, w.placed-is, few)
      ];
    }
