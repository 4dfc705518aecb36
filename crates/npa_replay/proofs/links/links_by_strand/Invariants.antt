use Rattle.std.proofs.Common.{◌≡◌, map, take}
use Rattle.npa_replay.specs.Groups.{strand_keys}
use Rattle.npa_replay.proofs.links.links_by_strand.Given as goal

abbrev pub invariant-loop-part : goal.invariant-loop-part
invariant-loop-part l = l.keys.items ≡ map strand_keys (take l.part-index l.parts)
