use Rattle.std.proofs.Common.{◌≡◌, length}
use Rattle.std.specs.Prelude.{Contains, flat_map}
use Rattle.npa_unify.specs.Answers.{judged}
use Rattle.npa_unify.specs.Branches.{Branch, ends}
use Rattle.npa_unify.specs.Seen.{AreSound, IsReached, finished_all, seen_all}
use Rattle.npa_unify.proofs.Judging.{judging}
use Rattle.npa_unify.proofs.unifying.collect.Given as goal

abbrev pub invariant-loop-kept : goal.invariant-loop-kept
invariant-loop-kept l = record {
  list : judging l.left l.kept (finished_all (flat_map (ends l.sorts) (seen_all l.waiting.items))) ≡ judged (finished_all (flat_map (ends l.sorts) (seen_all l.initial.waiting.items)));
  sound : AreSound l.waiting.items;
  reached : (b : Branch) → Contains (seen_all l.waiting.items) b → IsReached l.sorts b;
}

abbrev pub decreases-loop-kept : goal.decreases-loop-kept
decreases-loop-kept l = length (flat_map (ends l.sorts) (seen_all l.waiting.items))
