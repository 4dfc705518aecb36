use Rattle.std.proofs.Common.{◌≡◌, ◌∙◌, ◌+◌, ap, sym, Bool, Option, Some, None, drop, find, flat_map}
use Rattle.std.specs.Option.{option_or}
use Rattle.npa_term.specs.declared.term.Var.{Var as Variable}
use Rattle.npa_term.specs.Variables.{variables}
use Rattle.npa_term.proofs.Rows.{variables_at}
use Rattle.npa_variants.specs.Origins.{fails_in}
use Rattle.npa_variants.proofs.OriginSteps.{find_step}
use Rattle.npa_variants.proofs.origins.+faults.Goals as goal

pub fault_in-returns-in-Some : goal.fault_in-returns-in-Some
fault_in-returns-in-Some t c =
    let p : Variable → Bool = fails_in c.args.marks.now c.args.events.now c.args.fresh.now c.args.messages.now in
    sym (sym c.loop-t.invariant ∙ find_step p c.args.terms.now c.loop-t.t-index c.t-item.result c.loop-t-test.true c.t-item.is
    ∙ ap (λ o. option_or o (find p (flat_map variables (drop (c.loop-t.t-index + 1) c.args.terms.now)))) (sym c.term_fault.ensures ∙ c.in-Some.is))

pub fault_in-loop-t-preserved : goal.fault_in-loop-t-preserved
fault_in-loop-t-preserved t c =
    let p : Variable → Bool = fails_in c.args.marks.now c.args.events.now c.args.fresh.now c.args.messages.now in
    sym (find_step p c.args.terms.now c.loop-t.t-index c.t-item.result c.loop-t-test.true c.t-item.is
    ∙ ap (λ o. option_or o (find p (flat_map variables (drop (c.loop-t.t-index + 1) c.args.terms.now)))) (sym c.term_fault.ensures ∙ c.in_default.is))
    ∙ c.loop-t.invariant

pub term_fault-returns-in-App : goal.term_fault-returns-in-App
term_fault-returns-in-App t c =
    let p : Variable → Bool = fails_in c.args.marks.now c.args.events.now c.args.fresh.now c.args.messages.now in
    c.fault_in.ensures ∙ ap (λ ts. find p (flat_map variables ts)) c.as_slice.ensures ∙ ap (find p) (sym (variables_at c.args.t.now _ c.in-App.args c.in-App.is))
