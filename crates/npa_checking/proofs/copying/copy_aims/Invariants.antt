use Rattle.std.proofs.Common.{◌≡◌, take}
use Rattle.npa_checking.proofs.copying.copy_aims.Given as goal

abbrev pub invariant-loop-aim : goal.invariant-loop-aim
invariant-loop-aim l = l.copies.items ≡ take l.aim-index l.aims
