use Rattle.std.proofs.Common.{take}
use Rattle.fold_store.proofs.Finishing.{Finishing}
use Rattle.fold_store.proofs.ledger.Ledger.finish.Given as goal

abbrev pub invariant-loop-child : goal.invariant-loop-child
invariant-loop-child g l = Finishing g.F.Folding.rules l.initial.self l.self l.id l.hints l.work.children (take l.child l.work.children) l.places
