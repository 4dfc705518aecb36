use Rattle.fold_pool.proofs.Turns.{took_entry, takes_works, head_turn}
use Rattle.fold_pool.proofs.turn.one.Goals as goal

pub expand-requires-clause-taken : goal.expand-requires-clause-taken
expand-requires-clause-taken g c = took_entry (g.F.Folding.rules c.args.store.now.rules) c.args.store.now c.take.new.self c.in-Got.id c.in-Got.ensures

pub returns-in-Got-clause-turn : goal.returns-in-Got-clause-turn
returns-in-Got-clause-turn g c = takes_works g.F.Folding.rules c.args.store.now c.take.new.self c.expand.new.store c.in-Got.id c.expand.result c.in-Got.ensures c.expand.ensures

pub returns-in-Got-clause-head : goal.returns-in-Got-clause-head
returns-in-Got-clause-head g c =
    head_turn g.F.Folding.rules (g.F.Folding.rules c.args.store.now.rules) c.args.store.now c.take.new.self c.expand.new.store c.in-Got.id c.expand.result c.in-Got.ensures c.expand.ensures
