use Rattle.fold_store.proofs.Opening.{Opening}
use Rattle.fold_store.proofs.store.Store.open.Given as goal

abbrev pub invariant-loop-number : goal.invariant-loop-number
invariant-loop-number g l = Opening l.initial.ledger l.ledger l.number
