use Rattle.std.proofs.Common.{sym, ◌∙◌}
use Rattle.npa_term.proofs.CompositionLaws.{past_instance_here, past_instance_later}
use Rattle.npa_term.proofs.composition.first_large_instance.Goals as goal

pub returns-then-count-gt-MAX_SYMBOLS : goal.returns-then-count-gt-MAX_SYMBOLS
returns-then-count-gt-MAX_SYMBOLS c =
    sym (past_instance_here c.args.next.now c.args.first.now c.loop-t.t-index _ c.loop-t-item.result c.loop-t-test.true c.loop-t-item.is c.symbols_under-count.ensures c.if-count-gt-MAX_SYMBOLS.true)
    ∙ c.loop-t.invariant

pub loop-t-preserved : goal.loop-t-preserved
loop-t-preserved c =
    past_instance_later c.args.next.now c.args.first.now c.loop-t.t-index _ c.loop-t-item.result c.loop-t-test.true c.loop-t-item.is c.symbols_under-count.ensures c.if-count-gt-MAX_SYMBOLS.false
    ∙ c.loop-t.invariant
