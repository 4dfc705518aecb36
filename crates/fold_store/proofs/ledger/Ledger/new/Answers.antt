use Rattle.std.proofs.Common.{rules, arith, ◌≡◌, []}
use Rattle.fold_store.proofs.Events.{sound_begin}
use Rattle.fold_store.proofs.ledger.Ledger.new.Goals as goal

pub invariant_of-result : goal.invariant_of-result
invariant_of-result g c =
    let none : c.promise.new.self.events ≡ [] = search rules in
    let one : c.promise.new.self.due ≡ 1 = search rules in
    sound_begin (g.F.Folding.rules c.args.rules) c.args.roots c.args.budget c.promise.new.self.events c.new.result c.promise.new.self.due none c.new.ensures (omega arith)
