use Rattle.std.proofs.Common.{arith, sym, ◌∙◌}
use Rattle.npa_sig.proofs.Rows.{not_declared, not_all_sorted, all_sorted}
use Rattle.npa_sig.proofs.signature.Sig.+well_sorted.Goals as goal

pub returns-then-not-is_declared : goal.returns-then-not-is_declared
returns-then-not-is_declared t c = not_declared c.args.self.now _ _ _ _ c.in-App.is c.as_slice.ensures (sym c.is_declared.ensures ∙ c.if-not-is_declared.true)

pub returns-then-not-well_sorted : goal.returns-then-not-well_sorted
returns-then-not-well_sorted t c =
    not_all_sorted c.args.self.now _ _ _ _ c.in-App.is c.as_slice.ensures _ c.as_slice-arg-items.ensures (sym c.is_declared.ensures ∙ c.if-not-is_declared.false) c.loop-arg.arg-index c.arg-item.result (omega arith) c.arg-item.is c.loop-arg.invariant (sym c.well_sorted.ensures ∙ c.if-not-well_sorted.true)

pub returns-after-loop-arg : goal.returns-after-loop-arg
returns-after-loop-arg t c =
    all_sorted c.args.self.now _ _ _ _ c.in-App.is c.as_slice.ensures _ c.as_slice-arg-items.ensures (sym c.is_declared.ensures ∙ c.if-not-is_declared.false) c.loop-arg.arg-index (omega arith) c.loop-arg.invariant
