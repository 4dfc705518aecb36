use Rattle.std.proofs.Common.{refl}
use Rattle.fold_store.proofs.Numbers.{stands_get}
use Rattle.fold_store.proofs.Logging.{marked_more}
use Rattle.fold_store.proofs.log.Log.add_all.Goals as goal

pub loop-number-preserved : goal.loop-number-preserved
loop-number-preserved c = record {
  marked = marked_more c.args.numbers.now c.loop-number.number-index _ c.args.tick c.loop-number.self c.add.new.self
      (stands_get c.args.numbers.now c.loop-number.number-index _ _ c.loop-number-test.true refl) c.loop-number.invariant.marked c.add.ensures.keeps c.in_ok-add.ensures.marked;
  keeps = λ n since m. c.add.ensures.keeps n since (c.loop-number.invariant.keeps n since m);
}
