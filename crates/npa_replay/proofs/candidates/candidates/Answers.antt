use Rattle.std.proofs.Common.{ℕ, ◌+◌, List, sym, ◌∙◌, subst}
use Rattle.npa_replay.proofs.Choosing.{FoundBelow, found_more, found_same}
use Rattle.npa_replay.proofs.candidates.candidates.Goals.{then-branch+in_ok-push, else-branch}
use Rattle.npa_replay.proofs.candidates.candidates.Goals as goal

pub loop-place-preserved : goal.loop-place-preserved
loop-place-preserved c = elim c.if-branch.branch [
  | then-branch+in_ok-push w ↦
      found_more c.args.scene.now.sorts.now c.args.scene.now.instances.now c.args.scene.now.state.now c.args.part.now c.loop-place.place c.loop-place.found c.loop-place.invariant
      c.if-branch.found (w.found-is ∙ w.in_ok-push.ensures.ok) (c.in_ok-is_candidate.ensures.target w.if-branch.true)
  | else-branch w ↦
      subst (λ (ns : List ℕ). FoundBelow c.args.scene.now.sorts.now c.args.scene.now.instances.now c.args.scene.now.state.now c.args.part.now (c.loop-place.place + 1) ns) (sym w.found-is)
      (found_same c.args.scene.now.sorts.now c.args.scene.now.instances.now c.args.scene.now.state.now c.args.part.now c.loop-place.place c.loop-place.found c.loop-place.invariant
      (c.in_ok-is_candidate.ensures.other w.if-branch.false))
]
