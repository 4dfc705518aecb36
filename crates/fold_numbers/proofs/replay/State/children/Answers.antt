use Rattle.std.proofs.Common.{refl}
use Rattle.fold_numbers.proofs.replay.State.children.Goals as goal

pub returns-in_default-clause-none : goal.returns-in_default-clause-none
returns-in_default-clause-none c = λ given e. c.in_default.ensures.none e.entry.item (record { entry = e.entry; stands = e.stands; taken = e.taken; item_is = refl })
