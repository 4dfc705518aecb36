use Rattle.std.proofs.Common.{◌≡◌, map, take}
use Rattle.npa_reading.specs.Trees.{seen}
use Rattle.npa_run_text.specs.RunTexts.{step_at}
use Rattle.npa_run_text.proofs.reader.steps_at.Given as goal

abbrev pub invariant-loop-node : goal.invariant-loop-node
invariant-loop-node l = l.steps ≡ map (step_at l.bytes l.tokens) (seen (take l.node-index l.nodes))
