use Rattle.std.proofs.Common.{◌≡◌, take}
use Rattle.npa_subsume.proofs.cover.numbered.Given as goal

abbrev pub invariant-loop-place : goal.invariant-loop-place
invariant-loop-place l = l.numbers ≡ take l.place-index l.places
