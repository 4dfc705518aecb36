use Rattle.std.proofs.Common.{◌≡◌, take}
use Rattle.npa_drafts.proofs.moving.copies.Given as goal

abbrev pub invariant-loop-p : goal.invariant-loop-p
invariant-loop-p l = l.made.items ≡ take l.p-index l.strands
