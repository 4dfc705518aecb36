use Rattle.std.proofs.Common.{◌≡◌, length}
use Rattle.fold_store.specs.Store.{IsFor}
use Rattle.fold_pool.specs.Turn.{InOrder}
use Rattle.fold_pool.proofs.turn.insert_all.Given as goal

abbrev pub invariant-loop-child : goal.invariant-loop-child
invariant-loop-child g l = record {
  ordered : InOrder g.F.Folding.rules l.id l.initial.store l.entries l.store;
  number : length l.entries ≡ l.child;
  is_for : IsFor l.store l.id l.work;
}
