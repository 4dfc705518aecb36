use Rattle.std.proofs.Common.{rules, arith}
use Rattle.fold_core.specs.declared.event.Placed.TheVariants.{Kept}
use Rattle.fold_numbers.proofs.Runs.{along_stop, along_next, along_end}
use Rattle.fold_numbers.proofs.replay.State.settle.Goals as goal

pub returns-then-not-accepts : goal.returns-then-not-accepts
returns-then-not-accepts c =
    along_stop 0 (Kept 0) c.loop-child.self (omega (arith, c.requires)) (omega (arith, c.requires)) (search rules) c.loop-child.invariant

pub loop-child-preserved : goal.loop-child-preserved
loop-child-preserved c =
    along_next 0 (Kept 0) c.put.new.self (omega (arith, c.requires)) (omega (arith, c.requires)) (search rules) (search rules) c.loop-child.invariant

pub returns : goal.returns
returns c = along_end (omega (arith, c.requires)) (omega (arith, c.requires)) c.loop-child.invariant
