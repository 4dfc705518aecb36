use Rattle.std.proofs.Common.{rules, ◌≡◌}
use Rattle.fold_numbers.specs.Numbers.{numbers}
use Rattle.fold_core.specs.Machine.{place_of}
use Rattle.fold_core.proofs.Stepping.{accepts_place}
use Rattle.fold_numbers.proofs.replay.State.place.Goals as goal

pub put-requires : goal.put-requires
put-requires c =
    let here : c.args.place ≡ place_of (numbers c.args.rules.now) c.args.item c.args.self.now = search rules in
    accepts_place (numbers c.args.rules.now) c.args.item c.args.place c.args.self.now here
