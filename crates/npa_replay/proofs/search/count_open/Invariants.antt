use Rattle.std.proofs.Common.{◌≡◌, ◌<◌, ◌≤◌, ℕ, slice_index}
use Rattle.npa_match.specs.Matching.{read_pairs}
use Rattle.npa_replay.specs.Choices.{IsOpen}
use Rattle.npa_replay.proofs.search.count_open.Given as goal

abbrev pub invariant-loop-place : goal.invariant-loop-place
invariant-loop-place l = record {
  closed : l.count ≡ 0 → (i : ℕ) → i < l.place-index → IsOpen l.scene.instances.now l.scene.state.now l.scene.sorts.now l.choice.used (read_pairs l.choice.pairs) l.part (slice_index l.candidates i) → ⊥;
  few : l.count ≤ l.place-index;
  most : l.count ≤ l.most;
}
